use Rattle.program_work.proofs.Judged.{one_more}
use Rattle.program_work.proofs.coding.judge.Goals as goal

pub loop-function-preserved : goal.loop-function-preserved
loop-function-preserved c = one_more c.args.functions.now c.loop-function.function-index _ c.function-item.result c.loop-function-test.true c.loop-function.invariant c.function-item.is c.in_ok-sanity.ensures.sane
