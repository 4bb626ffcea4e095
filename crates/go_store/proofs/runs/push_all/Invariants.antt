use Rattle.std.proofs.Common.{◌≡◌, map, take}
use Rattle.go_value.specs.Values.{value_of}
use Rattle.go_store.specs.Arrays.{with_elements}
use Rattle.go_store.specs.Cells.{held}
use Rattle.go_store.proofs.runs.push_all.Given as goal

abbrev pub invariant-loop-item : goal.invariant-loop-item
invariant-loop-item l = held l.array ≡ with_elements (map value_of (take l.item-index l.items)) (held l.initial.array)
