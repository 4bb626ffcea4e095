use Rattle.go_store.proofs.Spelled.{follows_next}
use Rattle.go_store.proofs.conversions.code_points.Goals as goal

pub loop-at-preserved : goal.loop-at-preserved
loop-at-preserved c =
    let within = c.in_ok-at.ensures.within in
    let rune = c.in_ok-at.ensures.rune in
    (within.1, follows_next c.args.bytes.now c.loop-at.at c.in_ok-at.at rune.0 c.loop-at.runes.items c.push_code_point.new.runes.items within.0 within.1 rune.1 rune.2 c.loop-at.invariant.1)
