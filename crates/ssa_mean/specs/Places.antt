-- Cells, and parts of values. Go specification, "Variables", "Address operators", "Selectors", "Index expressions" and
-- "Slice expressions".
use Rattle.std.specs.Prelude.{ℕ, [], ℤ, pos, Option, Some, is_none, length, slice_get, unwrap_or}
use Rattle.std.specs.Prelude.{if◌then◌else◌}
use Rattle.go_store.specs.Arrays.{values_in}
use Rattle.go_store.specs.Cells.{value_at}
use Rattle.go_store.specs.Slices.{sliced, whole_array, element_of}
use Rattle.go_store.specs.Stores.{Stored, loaded, put_in}
use Rattle.go_value.specs.Address.{part_of}
use Rattle.go_value.specs.Texts.{place_at, text_between}
use Rattle.go_value.specs.Values.{Val, number, text, pointer, slice, parts}
use Rattle.go_value.specs.declared.address.Pointer.{Pointer}
use Rattle.go_value.specs.declared.address.SliceValue.{SliceValue}
use Rattle.go_value.specs.declared.faults.Fault.TheVariants as fault
use Rattle.ssa_mean.specs.Comes.{Comes, to, faults, nowhere, of_option, of_result, then_to, and_then}

-- ---- what a pointer points to

-- a pointer that is followed is not nil
abbrev pub followed : {A : Type 0} → Pointer → Comes A → Comes A
followed at it = if is_none at.cell then faults fault.NilPointer else it

abbrev pub load : Stored → Val → Comes Val
load store (pointer at) = followed at (of_option (loaded store at))
load store _ = nowhere

-- the store after an assignment
abbrev pub assigned : Stored → Val → Val → Comes Stored
assigned store (pointer at) it = followed at (to (put_in it store at))
assigned store _ it = nowhere

abbrev pub new_pointer : Stored → Pointer
new_pointer store = record { cell = Some (record { number = length store.cells }); path = [] }

-- ---- fields

abbrev pub field_of : Val → ℕ → Comes Val
field_of it field = of_option (value_at it field)

abbrev pub field_address : Val → ℕ → Comes Val
field_address (pointer at) field = followed at (to (pointer (part_of at field)))
field_address _ field = nowhere

-- ---- elements

abbrev pub element_value : Val → ℤ → Comes Val
element_value (parts it) index =
    and_then (λ place. of_option (slice_get (values_in it) place)) (of_result (place_at index (length (values_in it))))
element_value (text bytes) index =
    and_then (λ place. then_to (λ byte. number (pos byte)) (of_option (slice_get bytes place)))
    (of_result (place_at index (length bytes)))
element_value _ index = nowhere

abbrev pub index_of : Val → Val → Comes Val
index_of it (number index) = element_value it index
index_of it _ = nowhere

-- the address of an element of a slice, or of an array of a length that is pointed to
abbrev pub element_address : Option ℕ → Val → ℤ → Comes Val
element_address len (slice it) index = then_to pointer (of_result (element_of it index))
element_address (Some len) (pointer at) index =
    followed at (then_to (λ place. pointer (part_of at place)) (of_result (place_at index len)))
element_address _ _ index = nowhere

abbrev pub index_address : Option ℕ → Val → Val → Comes Val
index_address len it (number index) = element_address len it index
index_address len it _ = nowhere

-- ---- slice expressions: the places that are left out are the first and the last

pub record Bounds : Type 0 where
  pub low : Option ℤ
  pub high : Option ℤ
  pub max : Option ℤ

abbrev pub cut : SliceValue → Bounds → Comes Val
cut it bounds =
    then_to slice
    (of_result (sliced it (unwrap_or bounds.low (pos 0)) (unwrap_or bounds.high (pos it.len))
    (unwrap_or bounds.max (pos it.cap))))

abbrev pub part_between : Option ℕ → Val → Bounds → Comes Val
part_between len (text bytes) bounds =
    then_to text
    (of_result (text_between bytes (unwrap_or bounds.low (pos 0)) (unwrap_or bounds.high (pos (length bytes)))))
part_between len (slice it) bounds = cut it bounds
part_between (Some len) (pointer at) bounds = followed at (cut (whole_array at len) bounds)
part_between _ _ bounds = nowhere
