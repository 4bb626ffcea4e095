use Rattle.std.proofs.Common.{take}
use Rattle.code_plan.specs.Operands.{AreArgs}
use Rattle.code_plan.specs.Sites.{site_of}
use Rattle.code_plan.proofs.operands.Place.args.Given as goal

abbrev pub invariant-loop-operand : goal.invariant-loop-operand
invariant-loop-operand l = AreArgs (site_of l.self) (take l.operand-index l.operands) l.args.items
