use Rattle.std.proofs.Common.{◌≡◌, ◌≤◌, ◌<◌, ℕ, length, get_or}
use Rattle.cg_solve.specs.declared.solving.Rule.{Rule}
use Rattle.cg_solve.specs.LeastSets.{marked}
use Rattle.cg_solve.proofs.solving.cover_rules.Given as goal

abbrev pub invariant-loop-rule : goal.invariant-loop-rule
invariant-loop-rule l = record {
  same : (k : ℕ) → marked l.marks.items k ≡ marked l.fn.marks.items k;
  more : length l.fn.marks.items ≤ length l.marks.items;
  room : (k : ℕ) (d : Rule) → k < l.rule-index → (get_or l.rules k d).then < length l.marks.items;
}
