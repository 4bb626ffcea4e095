use Rattle.std.proofs.Common.{◌≡◌}
use Rattle.ssa_runnable.proofs.Nesting.{row, has_at}
use Rattle.ssa_runnable.proofs.zeros.deeper.Given as goal

abbrev pub invariant-loop-number : goal.invariant-loop-number
invariant-loop-number l = l.all.items ≡ row (has_at l.types l.known) l.number
