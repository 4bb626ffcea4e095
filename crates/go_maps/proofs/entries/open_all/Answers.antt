use Rattle.std.proofs.Common.{◌≡◌, length, arith}
use Rattle.go_maps.proofs.Kept.{opened_set, opened_end}
use Rattle.go_maps.proofs.entries.open_all.Goals as goal

pub loop-slot-preserved : goal.loop-slot-preserved
loop-slot-preserved c = opened_set c.loop-slot.slot-index c.args.slots.now c.loop-slot.slots c.open.new.place c.loop-slot.invariant c.open.ensures

pub returns : goal.returns
returns c =
    let at : c.loop-slot.slot-index ≡ length c.args.slots.now = omega (arith, c.loop-slot.auto.slot-index-end, c.loop-slot-test.false) in
    opened_end c.loop-slot.slot-index c.args.slots.now c.loop-slot.slots c.loop-slot.invariant at
