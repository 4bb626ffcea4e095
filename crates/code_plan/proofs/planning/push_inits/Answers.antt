use Rattle.code_plan.proofs.Starting.{starts_more, starts_whole}
use Rattle.ssa_mean.specs.Runs.{is_init_kind}
use Rattle.code_plan.proofs.planning.push_inits.Goals as goal

pub loop-number-preserved : goal.loop-number-preserved
loop-number-preserved c =
    starts_more (λ f. is_init_kind f.kind) c.args.functions.now c.loop-number.number c.index-functions-number.result c.args.starts.now.items
    c.loop-number.starts.items _ c.is_init.result c.loop-number-test.true c.index-functions-number.is c.is_init.ensures
    c.in_ok-push_where.ensures c.loop-number.invariant

pub returns : goal.returns
returns c =
    starts_whole (λ f. is_init_kind f.kind) c.args.functions.now c.loop-number.number c.loop-number.starts.items _ c.loop-number-test.false
    c.loop-number.invariant
