use Rattle.std.proofs.Common.{◌≡◌, drop}
use Rattle.go_graph.specs.Marks.{has_component}
use Rattle.go_graph.proofs.reach.has_component.Given as goal

abbrev pub invariant-loop-node : goal.invariant-loop-node
invariant-loop-node l = has_component l.of l.component (drop l.node-index l.nodes) ≡ has_component l.of l.component l.nodes
