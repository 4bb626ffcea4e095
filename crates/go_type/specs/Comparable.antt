-- Which types have values that `==` compares. Go specification, "Comparison operators".
use Rattle.std.specs.Prelude.{◌≡◌, ℕ, zero, suc, Bool, true, false, Option, Some}
use Rattle.std.specs.List.{list_any}
use Rattle.go_base.specs.declared.ids.TypeId.{TypeId}
use Rattle.go_type.specs.declared.term.Basic.TheVariants as basic
use Rattle.go_type.specs.declared.term.TypeTerm.{TypeTerm}
use Rattle.go_type.specs.declared.term.TypeTerm.TheVariants.{Basic as Plain, Slice, Array, Map, Func, Struct, Tuple}
use Rattle.go_type.specs.declared.term.TypeTerm.TheVariants.{Iter}
use Rattle.go_type.specs.Table.{Table, term_at, underlying_of}

-- slices, maps and functions are not comparable, nor is an array of elements that are not, nor a struct with such a
-- field
abbrev pub incomparable_term : (TypeId → Bool) → Option TypeTerm → Bool
incomparable_term part (Some (Slice elem)) = true
incomparable_term part (Some (Map key elem)) = true
incomparable_term part (Some (Func signature)) = true
incomparable_term part (Some (Array len elem)) = part elem
incomparable_term part (Some (Struct fields)) = list_any (λ field. part field.of) fields
incomparable_term part (Some (Plain basic.UntypedNil)) = true
incomparable_term part (Some (Tuple parts)) = true
incomparable_term part (Some (Iter over)) = true
incomparable_term part _ = false

-- whether that shows by fewer than n steps into elements and fields
abbrev pub incomparable_to : ℕ → Table → TypeId → Bool
incomparable_to zero types id = false
incomparable_to (suc n) types id = incomparable_term (incomparable_to n types) (term_at types (underlying_of types id))

abbrev pub Comparable : Table → TypeId → Type 0
Comparable types id = (n : ℕ) → incomparable_to n types id ≡ false
