use Rattle.std.proofs.Common.{map}
use Rattle.init_order.specs.Groups.{AreEdgesBelow}
use Rattle.init_order.proofs.edges.group_edges.Given as goal

abbrev pub invariant-loop-node : goal.invariant-loop-node
invariant-loop-node l = AreEdgesBelow (map (λ r. r.items) l.graph) l.of l.node l.edges.items
