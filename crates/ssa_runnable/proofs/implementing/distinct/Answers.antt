use Rattle.ssa_runnable.proofs.Lists.{set_more, set_whole, set_within}
use Rattle.ssa_runnable.proofs.implementing.distinct.Goals as goal

pub loop-of-preserved : goal.loop-of-preserved
loop-of-preserved c = record {
  all =
      set_more c.args.types.now c.loop-of.of-index _ c.loop-of.set.keys c.insert.new.self.keys c.loop-of-test.true
      c.in_ok-insert.ensures.keys c.loop-of.invariant.all;
  only =
      set_within c.args.types.now c.loop-of.of-index _ c.loop-of.set.keys c.insert.new.self.keys c.loop-of-test.true
      c.in_ok-insert.ensures.keys c.loop-of.invariant.only;
}

pub returns : goal.returns
returns c = record {
  all = set_whole c.args.types.now c.loop-of.set.keys c.loop-of.of-index c.loop-of-test.false c.loop-of.invariant.all;
  only = c.loop-of.invariant.only;
}
