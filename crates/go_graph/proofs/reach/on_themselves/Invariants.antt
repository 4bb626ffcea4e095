use Rattle.std.proofs.Common.{◌≡◌, ◌<◌, ℕ, length, map, slice_index}
use Rattle.go_graph.specs.Graph.{next}
use Rattle.go_graph.specs.Marks.{marked, has_component}
use Rattle.go_graph.proofs.reach.on_themselves.Given as goal

abbrev pub invariant-loop-node : goal.invariant-loop-node
invariant-loop-node l = record {
  size : length l.marks.items ≡ l.node;
  so_far : (x : ℕ) → x < l.node → marked l.marks.items x ≡ has_component l.components.of.items (slice_index l.components.of.items x) (next (map (λ r. r.items) l.graph) x);
}
