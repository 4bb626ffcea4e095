use Rattle.std.proofs.Common.{◌≡◌, ◌≤◌, ◌-◌, ◌+◌, ℕ, length, vec_len}
use Rattle.cg_solve.specs.LeastSets.{marked}
use Rattle.cg_solve.proofs.solving.cover.Given as goal

abbrev pub invariant-loop-marks : goal.invariant-loop-marks
invariant-loop-marks l = record {
  same : (k : ℕ) → marked l.marks.items k ≡ marked l.fn.marks.items k;
  more : length l.fn.marks.items ≤ length l.marks.items;
}

abbrev pub decreases-loop-marks : goal.decreases-loop-marks
decreases-loop-marks l = l.number + 1 - vec_len l.marks
