use Rattle.ssa_runnable.proofs.Looking.{knows_more, knows_none, knows_whole}
use Rattle.ssa_runnable.proofs.methods.methods.Goals as goal

pub loop-line-init : goal.loop-line-init
loop-line-init c = knows_none c.new-all.result.entries c.new-all.ensures.empty

pub loop-line-preserved : goal.loop-line-preserved
loop-line-preserved c =
    knows_more c.as_slice-line-items.result.now c.loop-line.line-index _ c.loop-line.all.entries _
    c.loop-line-test.true c.loop-line.invariant c.in_ok-add_method.ensures

pub returns : goal.returns
returns c =
    knows_whole c.as_slice-line-items.result.now _ c.loop-line.line-index c.loop-line.all.entries
    c.as_slice-line-items.ensures c.loop-line-test.false c.loop-line.invariant
