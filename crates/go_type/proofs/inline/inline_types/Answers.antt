use Rattle.std.proofs.Common.{◌≡◌, ◌≤◌, length, sym, ◌∙◌, arith}
use Rattle.go_type.proofs.InlineTypes.{reached_next, reached_all, past_end}
use Rattle.go_type.proofs.inline.inline_types.Goals as goal

pub returns-in_default : goal.returns-in_default
returns-in_default c = record {
  reached = reached_all c.args.types.now c.args.a c.places.place c.places.reached.keys c.places.invariant
      (past_end c.places.reached.keys c.places.place (sym c.get_index.ensures.key ∙ sym c.copied.ensures ∙ c.in_default.is));
  counts = c.len-place-end.ensures.counts;
}

pub places-preserved : goal.places-preserved
places-preserved c =
    reached_next c.args.types.now c.args.a c.places.place c.places.reached.keys c.add_parts.new.reached.keys c.in-Some.id c.places.invariant
    (sym c.get_index.ensures.key ∙ sym c.copied.ensures ∙ c.in-Some.is) c.in_ok-add_parts.ensures

pub returns-then-len : goal.returns-then-len
returns-then-len c =
    let count : c.len.result ≡ length c.places.reached.keys = c.len.ensures.len in
    let all : length c.places.reached.keys ≤ c.places.place = omega (arith, c.len-place-end.ensures.value, c.len-2.ensures.value, c.if-len.true, c.places-test.false) in
    record { reached = reached_all c.args.types.now c.args.a c.places.place c.places.reached.keys c.places.invariant all; counts = c.len-2.ensures.counts }
