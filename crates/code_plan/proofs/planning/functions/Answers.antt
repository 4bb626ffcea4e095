use Rattle.std.proofs.Common.{subst}
use Rattle.std.specs.List.{AllZip}
use Rattle.code_plan.proofs.Zipped.{zip_more, zip_whole}
use Rattle.code_plan.specs.Plans.{IsFunctionOf}
use Rattle.code_plan.proofs.planning.functions.Goals as goal

pub loop-function-preserved : goal.loop-function-preserved
loop-function-preserved c =
    zip_more (IsFunctionOf c.args.planner.now.code.now) c.as_slice-function-items.result.now c.loop-function.all.items _
    c.loop-function.function-index c.function-item.result c.in_ok-planned.field-0 c.loop-function.invariant
    c.loop-function-test.true c.function-item.is c.in_ok-planned.ensures c.in_ok-push.ensures.items

pub returns : goal.returns
returns c =
    subst (λ l. AllZip (IsFunctionOf c.args.planner.now.code.now) l c.loop-function.all.items)
    c.as_slice-function-items.ensures
    (zip_whole (IsFunctionOf c.args.planner.now.code.now) c.as_slice-function-items.result.now _ _
    c.loop-function-test.false c.loop-function.invariant)
