-- What stands among parts.
use Rattle.std.proofs.Common.{◌≡◌, ◌∙◌, ◌<◌, ap, get_or, refl, List, [], ◌∷◌, length, ℕ}
use Rattle.std.proofs.Common.{zero, suc, ℤ, Some, Ok, Err, Result}
use Rattle.std.proofs.lemmas.Option.{slice_get_read}
use Rattle.std.specs.Prelude.{slice_get}
use Rattle.go_store.specs.Arrays.{values_in}
use Rattle.go_store.specs.Cells.{value_in}
use Rattle.go_value.specs.Texts.{place_at}
use Rattle.go_value.specs.Values as vals
use Rattle.go_value.specs.Values.{Field, Parts, parts_of, value_of}
use Rattle.go_value.specs.declared.faults.Fault.{Fault}
use Rattle.ssa_mean.specs.Comes.{and_then, faults, of_option, of_result, to}
use Rattle.ssa_mean.specs.Places.{element_value, field_of}

pub nth_is : (items : List Field) (place : ℕ) (it : Field) → slice_get items place ≡ Some it
    → field_of (vals.parts (parts_of items)) place ≡ to it.value
nth_is [] place it is = let no : ⊥ = cc in absurd no
nth_is (first ∷ items) zero it is =
    let same : first ≡ it = cc in
    ap (λ (field : Field). to field.value) same
nth_is (first ∷ items) (suc place) it is = nth_is items place it is

counted : (items : List Field) → length (values_in (parts_of items)) ≡ length items
counted [] = refl
counted (first ∷ items) = ap suc (counted items)

found : (them : Parts) (place : ℕ) → slice_get (values_in them) place ≡ value_in them place
found vals.none place = refl
found (vals.part it blank rest) zero = refl
found (vals.part it blank rest) (suc place) = found rest place

-- the part at a place that there is, and the fault of one that there is not
at_place : (items : List Field) (index : ℤ) (outcome : Result ℕ Fault) → place_at index (length items) ≡ outcome
    → element_value (vals.parts (parts_of items)) index
    ≡ and_then (λ place. field_of (vals.parts (parts_of items)) place) (of_result outcome)
at_place items index outcome is =
    let them = parts_of items in
    ap (λ len. and_then (λ place. of_option (slice_get (values_in them) place)) (of_result (place_at index len)))
    (counted items)
    ∙ (λ i. and_then (λ place. of_option (found them place i)) (of_result (is i)))

pub item_is : (items : List Field) (index : ℤ) (place : ℕ) → place_at index (length items) ≡ Ok place
    → element_value (vals.parts (parts_of items)) index
    ≡ field_of (vals.parts (parts_of items)) place
item_is items index place is = at_place items index (Ok place) is

pub no_item : (items : List Field) (index : ℤ) (it : Fault) → place_at index (length items) ≡ Err it
    → element_value (vals.parts (parts_of items)) index ≡ faults it
no_item items index it is = at_place items index (Err it) is

-- what a slice of parts has at a place
pub read : {X : Type 0} (xs : List X) (place : ℕ) (it : X) → place < length xs → it ≡ get_or xs place it
    → slice_get xs place ≡ Some it
read xs place it within is = slice_get_read xs (length xs) place it refl within is
