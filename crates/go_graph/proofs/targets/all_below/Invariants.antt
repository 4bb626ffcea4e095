use Rattle.std.proofs.Common.{◌≡◌, drop, map}
use Rattle.go_graph.specs.Graph.{all_below}
use Rattle.go_graph.proofs.targets.all_below.Given as goal

abbrev pub invariant-rows : goal.invariant-rows
invariant-rows l = all_below l.count (map (λ r. r.items) (drop l.targets-index l.graph)) ≡ all_below l.count (map (λ r. r.items) l.graph)
