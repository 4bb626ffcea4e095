use Rattle.std.proofs.Common.{◌≡◌, [], map, replicate}
use Rattle.decl_nodes.proofs.graphs.no_edges.Given as goal

abbrev pub invariant-loop-made : goal.invariant-loop-made
invariant-loop-made l = map (λ r. r.items) l.graph.items ≡ replicate l.made []
