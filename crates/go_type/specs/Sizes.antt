-- How large a type is: its nesting and its leaves.
use Rattle.std.specs.Prelude.{ℕ, zero, suc, ◌*◌, max, Bool, true, false, ◌&&◌, if◌then◌else◌, Option, Some}
use Rattle.std.specs.List.{list_all, sum_by}
use Rattle.go_base.specs.declared.ids.TypeId.{TypeId}
use Rattle.go_type.specs.declared.term.TypeTerm.{TypeTerm}
use Rattle.go_type.specs.declared.term.TypeTerm.TheVariants.{Declared, Pointer, Slice, Array, Map, Chan, Func, Struct}
use Rattle.go_type.specs.declared.term.TypeTerm.TheVariants.{Interface, Tuple, Iter}
use Rattle.go_type.specs.Table.{Table, term_at, underlying_of}

-- ---- leaves: 1 for every type but arrays and structs. Those of an array are its length times its element's, and those
-- of a struct the sum over its fields, in both cases at least 1.

abbrev pub leaves_of : (TypeId → ℕ) → Option TypeTerm → ℕ
leaves_of part (Some (Array len elem)) = max 1 (len * part elem)
leaves_of part (Some (Struct fields)) = max 1 (sum_by (λ field. part field.of) fields)
leaves_of part _ = 1

-- the leaves, where elements and fields deeper than n steps count 1
abbrev pub leaves_to : ℕ → Table → TypeId → ℕ
leaves_to zero types id = 1
leaves_to (suc n) types id = leaves_of (leaves_to n types) (term_at types (underlying_of types id))

-- ---- nesting: one more than the greatest among the parts, and 1 without parts. A declared type has the nesting of its
-- underlying type where it is an element of an array or a field's type, and counts 1 as any other part.

abbrev pub is_declared : Option TypeTerm → Bool
is_declared (Some (Declared name)) = true
is_declared _ = false

-- whether a term's elements and fields pass a test, and its other parts another
abbrev pub parts_pass : (TypeId → Bool) → (TypeId → Bool) → Option TypeTerm → Bool
parts_pass inline part (Some (Array len elem)) = inline elem
parts_pass inline part (Some (Struct fields)) = list_all (λ field. inline field.of) fields
parts_pass inline part (Some (Pointer elem)) = part elem
parts_pass inline part (Some (Slice elem)) = part elem
parts_pass inline part (Some (Map key elem)) = part key && part elem
parts_pass inline part (Some (Chan dir elem)) = part elem
parts_pass inline part (Some (Func signature)) = list_all part signature.params && list_all part signature.results
parts_pass inline part (Some (Interface methods)) = list_all (λ method. part method.of) methods
parts_pass inline part (Some (Tuple parts)) = list_all part parts
parts_pass inline part (Some (Iter over)) = part over
parts_pass inline part _ = true

-- a part that is no element or field: a declared type counts 1
abbrev pub nests_as_part : ℕ → (TypeId → Bool) → Table → TypeId → Bool
nests_as_part zero nests types id = false
nests_as_part (suc n) nests types id = if is_declared (term_at types id) then true else nests id

-- whether the nesting is at most n
abbrev pub nests_within : ℕ → Table → TypeId → Bool
nests_within zero types id = false
nests_within (suc n) types id =
    parts_pass (nests_within n types) (nests_as_part n (nests_within n types) types)
    (term_at types (underlying_of types id))
