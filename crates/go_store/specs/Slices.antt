-- Slices. Go specification, "Slice expressions", "Appending to and copying slices" and "Making slices, maps and
-- channels".
use Rattle.std.specs.Prelude.{ℕ, ◌+◌, ◌-◌, ◌*◌, ◌/◌, ◌^◌, min, max, List, [], ◌∷◌, ◌++◌, ℤ, pos, ◌-ℤ◌, int_lt}
use Rattle.std.specs.Prelude.{unsigned_abs, ◌≡◌, IsSome, MatchBool, Option, Some, None, unwrap_or, ◌==◌, Result, Ok}
use Rattle.std.specs.Prelude.{Err, Bool, ◌||◌, nat_lt, nat_le, length, take, replicate, slice_index, slice_set}
use Rattle.std.specs.Prelude.{if◌then◌else◌}
use Rattle.std.specs.Option.{option_and_then}
use Rattle.go_value.specs.Values.{Val}
use Rattle.go_value.specs.declared.address.Pointer.{Pointer}
use Rattle.go_value.specs.declared.address.SliceValue.{SliceValue}
use Rattle.go_value.specs.declared.faults.Fault.{Fault}
use Rattle.go_value.specs.declared.faults.Fault.TheVariants as fault
use Rattle.go_value.specs.Address.{part_of, settled}
use Rattle.go_value.specs.Texts.{place_at}
use Rattle.go_value.specs.Zeros.{zeroed}
use Rattle.go_store.specs.Arrays.{array_of, run_of, with_run}
use Rattle.go_store.specs.Stores.{Stored, made, loaded, with_part}

-- the last step of a pointer to an element, and the pointer to the element so many places behind it. Steps have 32
-- bits: a pointer stays as it is where that place has none
abbrev pub last_step : Pointer → ℕ
last_step pointer = slice_index pointer.path (length pointer.path - 1)

abbrev pub later : Pointer → ℕ → Pointer
later pointer by =
    if nat_lt (last_step pointer + by) (2 ^ 32)
    then record pointer { path = slice_set pointer.path (length pointer.path - 1) (last_step pointer + by) }
    else pointer

-- the pointer to the array that an element is in
abbrev pub array_at : Pointer → Pointer
array_at pointer = record pointer { path = take (length pointer.path - 1) pointer.path }

-- ---- slice expressions

-- places that a slice expression does not have
abbrev pub are_no_bounds : ℤ → ℤ → ℤ → ℕ → Bool
are_no_bounds low high max cap = int_lt low (pos 0) || int_lt high low || int_lt max high || int_lt (pos cap) max

abbrev pub sliced : SliceValue → ℤ → ℤ → ℤ → Result SliceValue Fault
sliced slice low high max =
    if are_no_bounds low high max slice.cap then Err fault.SliceBounds
    else Ok (record {
      at = later slice.at (unsigned_abs low);
      len = unsigned_abs (high -ℤ low);
      cap = unsigned_abs (max -ℤ low);
    })

-- the slice of a whole array
abbrev pub whole_array : Pointer → ℕ → SliceValue
whole_array array len = record { at = part_of array 0; len = len; cap = len }

-- ---- elements

abbrev pub element_at : SliceValue → Result ℕ Fault → Result Pointer Fault
element_at slice (Ok place) = Ok (settled (later slice.at place))
element_at slice (Err fault) = Err fault

abbrev pub element_of : SliceValue → ℤ → Result Pointer Fault
element_of slice index = element_at slice (place_at index slice.len)

-- so many values from an element on, where they are held
abbrev pub run_in : Stored → Pointer → ℕ → Option (List Val)
run_in store at len = option_and_then (λ array. run_of array (last_step at) len) (loaded store (array_at at))

-- with the elements of an array in the places from an element on
abbrev pub with_run_in : Val → Stored → Pointer → Stored
with_run_in array store at = with_part (with_run array (last_step at)) store (array_at at)

-- the elements of a slice
abbrev pub elements_of : Stored → SliceValue → Option (List Val)
elements_of store slice = if nat_le slice.len 0 then Some [] else run_in store slice.at slice.len

-- ---- limits

abbrev pub most_leaves : ℕ
most_leaves = 16777216

-- the most elements of so many leaves that a slice has
abbrev pub most_elements : ℕ → ℕ
most_elements leaves = most_leaves / max leaves 1

-- ---- new arrays

abbrev pub slice_of_new : Stored → ℕ → ℕ → SliceValue
slice_of_new store len cap =
    record { at = record { cell = Some (record { number = length store.cells }); path = 0 ∷ [] }; len = len; cap = cap }

-- the fault of a slice of a length and a capacity that cannot be made
abbrev pub make_fault : ℕ → ℤ → ℤ → Option Fault
make_fault leaves len cap =
    if int_lt len (pos 0) || int_lt (pos (most_elements leaves)) len then Some fault.MakeSliceLen
    else (if int_lt cap len || int_lt (pos (most_elements leaves)) cap then Some fault.MakeSliceCap else None)

abbrev pub with_zeros : Stored → Val → ℤ → Stored
with_zeros store zero cap = made store (array_of (replicate (unsigned_abs cap) zero))

-- ---- what append gives

-- whether so many items more have room in the array of a slice
abbrev pub has_room : SliceValue → ℕ → Bool
has_room slice count = nat_le (slice.len + count) slice.cap

-- the capacity of a new array: the larger of the length needed and twice the old capacity, within the limit
abbrev pub grown_capacity : ℕ → ℕ → ℕ → ℕ
grown_capacity leaves needed cap = min (max needed (cap * 2)) (most_elements leaves)

abbrev pub append_fault : ℕ → SliceValue → ℕ → Option Fault
append_fault leaves slice count =
    if (count == 0) || has_room slice count || nat_le (slice.len + count) (most_elements leaves) then None
    else Some fault.GrowSlice

abbrev pub appended_slice : ℕ → Stored → SliceValue → ℕ → SliceValue
appended_slice leaves store slice count =
    if count == 0 then slice
    else (if has_room slice count then record { at = slice.at; len = slice.len + count; cap = slice.cap }
    else slice_of_new store (slice.len + count) (grown_capacity leaves (slice.len + count) slice.cap))

-- the new array: the elements, the items, and zero values up to the capacity
abbrev pub grown_array : ℕ → Stored → SliceValue → List Val → Val → Val
grown_array leaves store slice items zero_value =
    let needed = slice.len + length items in
    array_of (unwrap_or (elements_of store slice) [] ++ items
    ++ replicate (grown_capacity leaves needed slice.cap - needed) zero_value)

-- what append makes of a store; new elements past the items are the zero value of the type of the items
abbrev pub Appends : ℕ → Stored → SliceValue → List Val → Stored → Type 0
Appends leaves store slice [] new = new ≡ store
Appends leaves store slice (first ∷ items) new =
    MatchBool (has_room slice (length (first ∷ items)))
    (new ≡ with_run_in (array_of (first ∷ items)) store (later slice.at slice.len))
    (IsSome (elements_of store slice)
    × (new ≡ made store (grown_array leaves store slice (first ∷ items) (zeroed first))))

-- ---- what copy gives

abbrev pub copy_count : SliceValue → SliceValue → ℕ
copy_count to from = min to.len from.len

abbrev pub copied : Stored → SliceValue → SliceValue → Stored
copied store to from =
    if copy_count to from == 0 then store
    else with_run_in (array_of (unwrap_or (run_in store from.at (copy_count to from)) [])) store to.at
