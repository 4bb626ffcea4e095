use Rattle.std.proofs.Common.{◌≡◌, replicate}
use Rattle.go_value.specs.Values.{value_of}
use Rattle.go_store.specs.Arrays.{with_elements}
use Rattle.go_store.specs.Cells.{held}
use Rattle.go_store.proofs.runs.push_copies_of.Given as goal

abbrev pub invariant-loop : goal.invariant-loop
invariant-loop l = held l.array ≡ with_elements (replicate l.counter (value_of l.value)) (held l.initial.array)
