use Rattle.std.proofs.Common.{map}
use Rattle.go_graph.proofs.MarkLaws.{AreSoFar}
use Rattle.go_graph.proofs.reach.reaching.Given as goal

abbrev pub invariant-loop-node : goal.invariant-loop-node
invariant-loop-node l = AreSoFar (map (λ r. r.items) l.graph) l.components.of.items l.components.order.items l.marks l.flags.items l.node-index
