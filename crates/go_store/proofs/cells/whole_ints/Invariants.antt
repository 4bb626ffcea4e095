use Rattle.std.proofs.Common.{◌≡◌, map, take}
use Rattle.go_store.specs.Cells.{plain_number}
use Rattle.go_store.proofs.cells.whole_ints.Given as goal

abbrev pub invariant-loop-number : goal.invariant-loop-number
invariant-loop-number l = l.parts.items ≡ map plain_number (take l.number-index l.ints)
