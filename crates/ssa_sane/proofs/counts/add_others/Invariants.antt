use Rattle.std.proofs.Common.{◌≡◌, ◌+◌, ◌<◌, ◌≤◌, ℕ, length}
use Rattle.std.specs.Prelude.{not, slice_get}
use Rattle.ssa_sane.specs.Counts.{one}
use Rattle.ssa_sane.specs.Homes.{is_entered_in}
use Rattle.ssa_sane.specs.Trees.{own_at}
use Rattle.ssa_sane.proofs.counts.add_others.Given as goal

abbrev pub invariant-loop-block : goal.invariant-loop-block
invariant-loop-block l = record {
  size : length l.counts.items ≡ length l.fn.counts.items;
  done : (b : ℕ) → b < l.block → b < length l.fn.counts.items → own_at l.counts.items b ≡ own_at l.fn.counts.items b + one (not (is_entered_in (slice_get l.homes.lacking.items l.index) b));
  left : (b : ℕ) → l.block ≤ b → own_at l.counts.items b ≡ own_at l.fn.counts.items b;
}
