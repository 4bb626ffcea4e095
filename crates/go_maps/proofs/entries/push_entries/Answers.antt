use Rattle.std.proofs.Common.{◌∙◌}
use Rattle.go_maps.specs.Entries.{entries_in, entries_of}
use Rattle.go_maps.proofs.Kept.{listed_none, listed_next, listed_end}
use Rattle.go_maps.proofs.entries.push_entries.Goals as goal
use Rattle.go_maps.proofs.entries.push_entries.Goals.{in-Some+in_ok-copy+in_ok-push, in_default}

pub loop-number-preserved : goal.loop-number-preserved
loop-number-preserved c = elim c.match-slot.branch [
  | in-Some+in_ok-copy+in_ok-push w ↦ listed_next c.loop-number.all c.match-slot.all _ c.args.slots.now c.loop-number.number (entries_in (entries_of c.args.slots.now)) c.index-slots-number.result w.in-Some.slot c.loop-number-test.true c.index-slots-number.is w.in-Some.is (w.all-is ∙ w.in_ok-push.ensures.ok) w.in_ok-copy.ensures c.loop-number.invariant
  | in_default w ↦ listed_none c.loop-number.all c.match-slot.all c.args.slots.now c.loop-number.number (entries_in (entries_of c.args.slots.now)) c.index-slots-number.result c.loop-number-test.true c.index-slots-number.is w.in_default.is w.all-is c.loop-number.invariant
]

pub returns : goal.returns
returns c = listed_end c.loop-number.all c.args.slots.now c.loop-number.number (entries_in (entries_of c.args.slots.now)) c.loop-number-test.false c.loop-number.invariant
