use Rattle.cg_uses.specs.Settings.{setting_of}
use Rattle.cg_uses.specs.Statements.{defines_from}
use Rattle.cg_uses.proofs.Pairs.{pair_kept, pairs_done}
use Rattle.cg_uses.proofs.GetsAt.{got}
use Rattle.cg_uses.proofs.targets.define_each.Goals as goal

pub loop-index-preserved : goal.loop-index-preserved
loop-index-preserved c =
    let s = setting_of c.args.around.now in
    pair_kept (defines_from s c.args.parts) _ _ _ c.args.targets.now s.types c.args.exprs.now c.loop-index.index c.index-exprs-index.result _ c.loop-index-test.true c.index-exprs-index.is
    (got c.args.targets.now c.loop-index.index c.get.result _ c.get.ensures.lookup.3 c.get.ensures.lookup.1) c.in_ok-define_any.ensures c.loop-index.invariant

pub returns : goal.returns
returns c =
    let s = setting_of c.args.around.now in
    pairs_done (defines_from s c.args.parts) _ _ c.args.targets.now s.types c.args.exprs.now c.loop-index.index c.loop-index-test.false c.loop-index.invariant
