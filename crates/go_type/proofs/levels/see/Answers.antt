use Rattle.go_type.proofs.Spots.{seen_turn}
use Rattle.go_type.proofs.levels.see.Goals as goal

pub loop-spot-preserved : goal.loop-spot-preserved
loop-spot-preserved c = λ above.
    seen_turn above c.args.spots.now c.loop-spot.spot-index _ c.args.seen.now.keys c.loop-spot.seen.keys c.insert.new.self.keys c.loop-spot-test.true (c.loop-spot.invariant above) c.in_ok-insert.ensures.keys
