use Rattle.std.proofs.Common.{length, map}
use Rattle.go_graph.specs.Silence.{IsBelowMarks}
use Rattle.go_graph.proofs.silence.below_of.Given as goal

abbrev pub invariant-loop-node : goal.invariant-loop-node
invariant-loop-node l = IsBelowMarks (map (λ r. r.items) l.graph) l.components.of.items (length l.components.order.items) l.flags l.node l.marks.items
