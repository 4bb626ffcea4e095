use Rattle.std.proofs.Common.{take}
use Rattle.code_plan.specs.Tables.{KnowsMethods}
use Rattle.code_plan.proofs.planning.methods.Given as goal

abbrev pub invariant-loop-line : goal.invariant-loop-line
invariant-loop-line l = KnowsMethods (take l.line-index l.line-items) l.all.entries
