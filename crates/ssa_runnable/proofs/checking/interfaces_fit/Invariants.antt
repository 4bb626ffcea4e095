use Rattle.std.proofs.Common.{◌≡◌, ℕ, ◌<◌, true}
use Rattle.ssa_runnable.specs.Tests.{fits_interface}
use Rattle.ssa_runnable.proofs.checking.interfaces_fit.Given as goal

abbrev pub invariant-loop-number : goal.invariant-loop-number
invariant-loop-number l = (k : ℕ) → k < l.number → fits_interface l.types (record { number = k }) ≡ true
