use Rattle.std.proofs.Common.{◌≡◌, ◌<◌, ◌&&◌, ◌||◌, ℕ, length, slice_get}
use Rattle.go_graph.specs.Marks.{marked}
use Rattle.decl_rules.specs.Cycles.{is_constant, is_marked_in}
use Rattle.decl_rules.proofs.cycles.referring_to_themselves.Given as goal

abbrev pub invariant-loop-node : goal.invariant-loop-node
invariant-loop-node l = record {
  size : length l.marks.items ≡ l.node;
  so_far : (x : ℕ) → x < l.node → marked l.marks.items x ≡ (marked l.order.cyclic.items x && (is_constant l.declared x || is_marked_in l.lengths.items (slice_get l.order.of.items x)));
}
