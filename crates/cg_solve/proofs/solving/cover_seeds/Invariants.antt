use Rattle.std.proofs.Common.{◌≡◌, ◌≤◌, ◌<◌, ℕ, length, get_or}
use Rattle.cg_solve.specs.LeastSets.{marked}
use Rattle.cg_solve.proofs.solving.cover_seeds.Given as goal

abbrev pub invariant-loop-seed : goal.invariant-loop-seed
invariant-loop-seed l = record {
  same : (k : ℕ) → marked l.marks.items k ≡ marked l.fn.marks.items k;
  more : length l.fn.marks.items ≤ length l.marks.items;
  room : (k : ℕ) (d : ℕ) → k < l.seed-index → get_or l.seeds k d < length l.marks.items;
}
