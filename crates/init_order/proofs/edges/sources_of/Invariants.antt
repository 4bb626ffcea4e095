use Rattle.std.proofs.Common.{◌≡◌, ◌<◌, ℕ, take, map, vec_len}
use Rattle.go_graph.specs.Graph.{next}
use Rattle.init_order.specs.Groups.{sources}
use Rattle.init_order.proofs.edges.sources_of.Given as goal

abbrev pub invariant-loop-edge : goal.invariant-loop-edge
invariant-loop-edge l = record {
  size : vec_len l.rows ≡ l.count;
  so_far : (g : ℕ) → g < l.count → next (map (λ r. r.items) l.rows.items) g ≡ sources (take l.edge-index l.edges) g;
}
