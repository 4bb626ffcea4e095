use Rattle.std.proofs.Common.{◌≡◌, ℕ, true, length, vec_len}
use Rattle.cg_solve.specs.Lists.{Has}
use Rattle.cg_solve.specs.LeastSets.{marked}
use Rattle.cg_solve.proofs.solving.Search.clear.Given as goal

abbrev pub invariant-loop-number : goal.invariant-loop-number
invariant-loop-number l = record {
  listed : (k : ℕ) → marked l.self.marks.items k ≡ true → Has l.self.found.items k;
  same : length l.self.marks.items ≡ length l.fn.self.marks.items;
}

abbrev pub decreases-loop-number : goal.decreases-loop-number
decreases-loop-number l = vec_len l.self.found
