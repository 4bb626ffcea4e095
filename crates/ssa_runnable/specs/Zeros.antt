-- Which types have a zero value, whatever it is. Go specification, "The zero value".
use Rattle.std.specs.Prelude.{◌≡◌, ℕ, zero, suc, ◌==◌, Bool, true, false, ◌||◌, List, Option, Some, is_some}
use Rattle.std.specs.Prelude.{slice_get, unwrap_or}
use Rattle.std.specs.List.{list_all}
use Rattle.go_base.specs.declared.ids.TypeId.{TypeId}
use Rattle.go_type.specs.Assignable.{underlying_term_of}
use Rattle.go_type.specs.Table.{Table}
use Rattle.go_type.specs.declared.term.Basic.{Basic}
use Rattle.go_type.specs.declared.term.Basic.TheVariants.{UntypedNil}
use Rattle.go_type.specs.declared.term.TypeTerm.{TypeTerm}
use Rattle.go_type.specs.declared.term.TypeTerm.TheVariants as term
use Rattle.ssa_ir.specs.declared.code.Code.{Code}
use Rattle.ssa_mean.specs.Zeros.{zero_of}

abbrev pub has_basic_zero : Basic → Bool
has_basic_zero UntypedNil = false
has_basic_zero kind = true

-- an array has one where it is empty or its elements have one, a struct where each field has one
abbrev pub has_zero_term : (TypeId → Bool) → Option TypeTerm → Bool
has_zero_term part_has (Some (term.Basic kind)) = has_basic_zero kind
has_zero_term part_has (Some (term.Pointer elem)) = true
has_zero_term part_has (Some (term.Slice elem)) = true
has_zero_term part_has (Some (term.Array len elem)) = (len == 0) || part_has elem
has_zero_term part_has (Some (term.Map key elem)) = true
has_zero_term part_has (Some (term.Chan dir elem)) = true
has_zero_term part_has (Some (term.Func signature)) = true
has_zero_term part_has (Some (term.Struct fields)) = list_all (λ field. part_has field.of) fields
has_zero_term part_has (Some (term.Interface methods)) = true
has_zero_term part_has (Some (term.Tuple ids)) = list_all part_has ids
has_zero_term part_has it = false

-- where elements and fields are at most n steps deep
unfoldable pub has_zero_to : ℕ → Table → TypeId → Bool
has_zero_to zero types of = false
has_zero_to (suc n) types of = has_zero_term (has_zero_to n types) (underlying_term_of types of)

-- answers for each type by its number; a type that is not there has none
abbrev pub zero_at : List Bool → TypeId → Bool
zero_at flags of = unwrap_or (slice_get flags of.number) false

abbrev pub KnowsZeros : Code → List Bool → Type 0
KnowsZeros c flags = (of : TypeId) → zero_at flags of ≡ is_some (zero_of c of)
