use Rattle.std.proofs.Common.{◌∙◌, ap, sym}
use Rattle.go_maps.specs.Entries.{numbers_in, entries_of}
use Rattle.go_maps.proofs.Kept.{counted_some, counted_none, counted_end}
use Rattle.go_maps.proofs.entries.push_numbers.Goals as goal
use Rattle.go_maps.proofs.entries.push_numbers.Goals.{then-is_some+in_ok-push, else-is_some}

pub loop-number-preserved : goal.loop-number-preserved
loop-number-preserved c = elim c.if-is_some.branch [
  | then-is_some+in_ok-push w ↦ counted_some c.loop-number.numbers.items c.if-is_some.numbers.items c.args.slots.now c.loop-number.number (numbers_in (entries_of c.args.slots.now)) c.index-slots-number.result c.loop-number-test.true c.index-slots-number.is (sym c.is_some.ensures ∙ w.if-is_some.true) (ap (λ v. v.items) w.numbers-is ∙ w.in_ok-push.ensures.items) c.loop-number.invariant
  | else-is_some w ↦ counted_none c.loop-number.numbers.items c.if-is_some.numbers.items c.args.slots.now c.loop-number.number (numbers_in (entries_of c.args.slots.now)) c.index-slots-number.result c.loop-number-test.true c.index-slots-number.is (sym c.is_some.ensures ∙ w.if-is_some.false) (ap (λ v. v.items) w.numbers-is) c.loop-number.invariant
]

pub returns : goal.returns
returns c = counted_end c.loop-number.numbers.items c.args.slots.now c.loop-number.number (numbers_in (entries_of c.args.slots.now)) c.loop-number-test.false c.loop-number.invariant
