use Rattle.std.proofs.Common.{◌≡◌, ◌<◌, ◌&&◌, ◌||◌, ℕ, length}
use Rattle.go_graph.specs.Marks.{marked}
use Rattle.decl_rules.specs.Cycles.{is_type}
use Rattle.decl_rules.proofs.cycles.recursive_types.Given as goal

abbrev pub invariant-loop-node : goal.invariant-loop-node
invariant-loop-node l = record {
  size : length l.marks.items ≡ l.node;
  so_far : (x : ℕ) → x < l.node → marked l.marks.items x ≡ (is_type l.declared x && (marked l.held x || (marked l.by_ties.items x || marked l.by_names.items x)));
}
