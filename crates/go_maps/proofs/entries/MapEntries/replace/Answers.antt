use Rattle.std.proofs.Common.{ap, ◌∙◌, slice_set}
use Rattle.go_value.specs.Values.{value_of}
use Rattle.go_maps.specs.Entries.{entries_of, with_value_at}
use Rattle.go_maps.specs.Places.{place_in}
use Rattle.go_maps.proofs.Kept.{slot_valued, past_valued, valued_found, valued_live}
use Rattle.go_maps.proofs.entries.MapEntries.replace.Goals as goal

pub invariant_of-self : goal.invariant_of-self
invariant_of-self c = c.self.invariant

pub invariant_of-self-2 : goal.invariant_of-self-2
invariant_of-self-2 c =
    let slots = c.self.inside.slots.items in
    let n = c.args.number in
    let v = value_of c.args.new in
    let same = slot_valued slots n c.in-Some.place.now c.replace_value.new.place v c.in-Some.ensures.item.3.0 c.in-Some.ensures.item.1 c.replace_value.ensures in
    record {
      found = valued_found (place_in c.self.inside.places) slots (slice_set slots n c.replace_value.new.place) n v c.self.invariant.found same;
      live = valued_live c.self.inside.live slots (slice_set slots n c.replace_value.new.place) n v c.self.invariant.live same;
    }

pub returns : goal.returns
returns c =
    slot_valued c.self.inside.slots.items c.args.number c.in-Some.place.now c.replace_value.new.place (value_of c.args.new) c.in-Some.ensures.item.3.0 c.in-Some.ensures.item.1 c.replace_value.ensures
    ∙ ap (λ slots. with_value_at c.args.number (value_of c.args.new) (entries_of slots)) c.self.view_is

pub returns-in_default : goal.returns-in_default
returns-in_default c =
    past_valued c.self.inside.slots.items c.args.number (value_of c.args.new) c.in_default.ensures.item.3
    ∙ ap (λ slots. with_value_at c.args.number (value_of c.args.new) (entries_of slots)) c.self.view_is
