use Rattle.code_plan.proofs.Starting.{cells_more, cells_whole}
use Rattle.code_plan.proofs.planning.variables.Goals as goal

pub loop-variable-preserved : goal.loop-variable-preserved
loop-variable-preserved c =
    cells_more c.args.planner.now.code.now c.as_slice-variable-items.result.now c.loop-variable.variable-index _
    c.loop-variable.all.items _ c.in_ok-zero.field-0 c.loop-variable-test.true c.loop-variable.invariant
    c.in_ok-zero.ensures c.in_ok-push.ensures.items

pub returns : goal.returns
returns c =
    cells_whole c.args.planner.now.code.now c.as_slice-variable-items.result.now c.loop-variable.variable-index _
    c.as_slice-variable-items.ensures c.loop-variable-test.false c.loop-variable.invariant
