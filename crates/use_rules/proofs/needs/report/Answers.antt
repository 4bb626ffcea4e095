use Rattle.std.proofs.Common.{refl}
use Rattle.use_rules.proofs.Marking.{reported_more}
use Rattle.use_rules.specs.Uses.{flag_at}
use Rattle.use_rules.proofs.needs.report.Goals as goal

pub loop-number-preserved : goal.loop-number-preserved
loop-number-preserved c =
    reported_more (flag_at c.args.used.now) c.args.names.now c.loop-number.number _ _ c.is_marked.result c.args.later.now.fault
    c.loop-number.later.fault _ c.loop-number-test.true refl c.is_marked.ensures c.loop-number.invariant c.report_need.ensures
