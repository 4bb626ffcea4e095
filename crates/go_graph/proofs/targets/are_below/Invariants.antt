use Rattle.std.proofs.Common.{◌≡◌, drop}
use Rattle.go_graph.specs.Graph.{are_below}
use Rattle.go_graph.proofs.targets.are_below.Given as goal

abbrev pub invariant-targets : goal.invariant-targets
invariant-targets l = are_below l.count (drop l.target-index l.targets) ≡ are_below l.count l.targets
