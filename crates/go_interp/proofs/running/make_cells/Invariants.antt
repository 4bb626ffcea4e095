use Rattle.std.proofs.Common.{◌≡◌, map, take}
use Rattle.go_interp.specs.Ran.{with_cells}
use Rattle.go_store.specs.Stores.{stored}
use Rattle.go_value.specs.Values.{value_of}
use Rattle.go_interp.proofs.running.make_cells.Given as goal

-- the variables so far have their cells
abbrev pub invariant-loop-value : goal.invariant-loop-value
invariant-loop-value l =
    (stored l.machine.store ≡ with_cells (map value_of (take l.value-index l.variables)) (stored l.fn.machine.store))
    × (l.machine ≡ record (l.fn.machine) { store = l.machine.store })
