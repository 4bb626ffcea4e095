use Rattle.std.proofs.Common.{◌≡◌, map, take}
use Rattle.go_store.specs.Cells.{plain_number}
use Rattle.go_store.proofs.cells.cell_of_ints.Given as goal

abbrev pub invariant-loop-part : goal.invariant-loop-part
invariant-loop-part l = map plain_number l.ints.items ≡ take l.part-index l.parts
