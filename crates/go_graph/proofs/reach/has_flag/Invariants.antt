use Rattle.std.proofs.Common.{◌≡◌, drop}
use Rattle.go_graph.specs.Marks.{has_flag}
use Rattle.go_graph.proofs.reach.has_flag.Given as goal

abbrev pub invariant-loop-node : goal.invariant-loop-node
invariant-loop-node l = has_flag l.of l.flags (drop l.node-index l.nodes) ≡ has_flag l.of l.flags l.nodes
