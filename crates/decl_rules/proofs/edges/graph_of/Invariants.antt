use Rattle.std.proofs.Common.{◌≡◌, [], drop, map, replicate}
use Rattle.decl_rules.proofs.Circles.{with_all}
use Rattle.decl_rules.proofs.edges.graph_of.Given as goal

abbrev pub invariant-loop-edge : goal.invariant-loop-edge
invariant-loop-edge l = with_all (drop l.edge-index l.edges) (map (λ r. r.items) l.graph.items) ≡ with_all l.edges (replicate l.count [])
