use Rattle.std.proofs.Common.{take}
use Rattle.std.specs.List.{AllZip}
use Rattle.code_plan.specs.Plans.{IsFunctionOf}
use Rattle.code_plan.proofs.planning.functions.Given as goal

abbrev pub invariant-loop-function : goal.invariant-loop-function
invariant-loop-function l =
    AllZip (IsFunctionOf l.planner.code.now) (take l.function-index l.function-items) l.all.items
