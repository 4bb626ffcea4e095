-- The variables of a run. Go specification, "Variables", "Address operators" and "Assignment statements".
use Rattle.std.specs.Prelude.{ℕ, zero, suc, ℤ, List, [], ◌∷◌, ◌++◌, map, pos, Option, is_none, unwrap_or}
use Rattle.std.specs.Prelude.{Result, Ok, Err, slice_get, if◌then◌else◌}
use Rattle.std.specs.Option.{option_and_then, option_map_or}
use Rattle.go_base.specs.declared.ids.CellId.{CellId}
use Rattle.go_value.specs.Values.{Val}
use Rattle.go_value.specs.declared.address.Pointer.{Pointer}
use Rattle.go_value.specs.declared.faults.Fault.{Fault}
use Rattle.go_value.specs.declared.faults.Fault.TheVariants as fault
use Rattle.go_maps.specs.Maps.{Map, maps_of}
use Rattle.go_store.specs.Cells.{held, read_at, updated, integer_in}
use Rattle.go_store.specs.declared.store.Store.{Store}

-- what the cells hold, and the maps, by their numbers
pub record Stored : Type 0 where
  pub cells : List Val
  pub maps : List Map

abbrev pub stored : Store → Stored
stored store = record { cells = map held store.cells.items; maps = maps_of store.maps }

-- with a new cell
abbrev pub made : Stored → Val → Stored
made store it = record store { cells = store.cells ++ (it ∷ []) }

-- ---- what a pointer points to

abbrev pub part_in : Stored → CellId → List ℕ → Option Val
part_in store cell steps = option_and_then (λ it. read_at it steps) (slice_get store.cells cell.number)

-- the value of the part that a pointer points to. None where it is nil, or names no part that is held
abbrev pub loaded : Stored → Pointer → Option Val
loaded store at = option_and_then (λ cell. part_in store cell at.path) at.cell

-- the integer that is there, or 0
abbrev pub loaded_int : Stored → Pointer → Result ℤ Fault
loaded_int store at =
    if is_none at.cell then Err fault.NilPointer else Ok (unwrap_or (integer_in (loaded store at)) (pos 0))

-- ---- what an assignment to it changes: that part of that cell alone

-- a list with one item changed
abbrev pub changed_item : (Val → Val) → List Val → ℕ → List Val
changed_item change [] place = []
changed_item change (it ∷ items) zero = change it ∷ items
changed_item change (it ∷ items) (suc place) = it ∷ changed_item change items place

abbrev pub with_part_in : (Val → Val) → Stored → CellId → List ℕ → Stored
with_part_in change store cell steps =
    record store { cells = changed_item (λ it. updated change it steps) store.cells cell.number }

abbrev pub with_part : (Val → Val) → Stored → Pointer → Stored
with_part change store at = option_map_or (λ cell. with_part_in change store cell at.path) at.cell store

-- with a new value in the place of the part
abbrev pub put_in : Val → Stored → Pointer → Stored
put_in new store at = with_part (λ _. new) store at
