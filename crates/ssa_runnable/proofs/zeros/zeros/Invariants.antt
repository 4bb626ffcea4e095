use Rattle.ssa_runnable.proofs.Nesting.{Knows}
use Rattle.ssa_runnable.proofs.zeros.zeros.Given as goal

abbrev pub invariant-loop-depth : goal.invariant-loop-depth
invariant-loop-depth l = Knows l.code.types l.depth l.known.items
