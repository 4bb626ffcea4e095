use Rattle.std.proofs.Common.{take}
use Rattle.ssa_runnable.specs.Methods.{KnowsMethods}
use Rattle.ssa_runnable.proofs.methods.methods.Given as goal

abbrev pub invariant-loop-line : goal.invariant-loop-line
invariant-loop-line l = KnowsMethods (take l.line-index l.line-items) l.all.entries
