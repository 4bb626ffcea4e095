use Rattle.code_plan.proofs.Starting.{starts_more, starts_whole}
use Rattle.ssa_mean.specs.Runs.{is_main}
use Rattle.code_plan.proofs.planning.push_main.Goals as goal

pub loop-number-preserved : goal.loop-number-preserved
loop-number-preserved c =
    starts_more is_main c.args.functions.now c.loop-number.number c.index-functions-number.result c.args.starts.now.items
    c.loop-number.starts.items _ c.is_main.result c.loop-number-test.true c.index-functions-number.is c.is_main.ensures
    c.in_ok-push_where.ensures c.loop-number.invariant

pub returns : goal.returns
returns c =
    starts_whole is_main c.args.functions.now c.loop-number.number c.loop-number.starts.items _ c.loop-number-test.false
    c.loop-number.invariant
