use Rattle.std.proofs.Common.{refl, None, arith}
use Rattle.typed_primaries.proofs.Lists.{none_more, none_whole}
use Rattle.typed_primaries.proofs.listing.nothing.Goals as goal

pub loop-preserved : goal.loop-preserved
loop-preserved c =
    none_more c.args.targets.now c.loop.index c.loop.types.items c.push.new.self.items c.loop-test.true c.loop.invariant c.in_ok-push.ensures.items

pub returns : goal.returns
returns c =
    none_whole (record { values = None; types = c.loop.types }) c.args.targets.now c.loop.index refl
    (let done = c.loop-test.false in omega arith) c.loop.invariant
