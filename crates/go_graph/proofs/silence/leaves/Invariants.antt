use Rattle.std.proofs.Common.{◌≡◌, drop}
use Rattle.go_graph.specs.Marks.{leaves}
use Rattle.go_graph.proofs.silence.leaves.Given as goal

abbrev pub invariant-loop-node : goal.invariant-loop-node
invariant-loop-node l = leaves l.of l.flags l.component (drop l.node-index l.nodes) ≡ leaves l.of l.flags l.component l.nodes
