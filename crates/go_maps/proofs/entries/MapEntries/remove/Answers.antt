use Rattle.std.proofs.Common.{sym, slice_set}
use Rattle.go_maps.specs.Entries.{entries_of}
use Rattle.go_maps.specs.Places.{place_in, looked_up}
use Rattle.go_maps.proofs.Kept.{none_gone, gone_found, gone_live, slot_opened, past_opened, none_without, gone_without}
use Rattle.go_maps.proofs.entries.MapEntries.remove.Goals as goal

pub invariant_of-self : goal.invariant_of-self
invariant_of-self c = record {
  found = none_gone (place_in c.self.inside.places) (place_in c.remove.new.self) (entries_of c.self.inside.slots.items) (looked_up c.args.look.now) c.self.invariant.found (sym c.in_default.ensures.number) c.in_default.ensures.places;
  live = c.self.invariant.live;
}

pub returns-in_default : goal.returns-in_default
returns-in_default c = none_without (place_in c.self.inside.places) c.self.inside.slots.items c.args.self.now (looked_up c.args.look.now) c.self.invariant.found c.in_default.ensures.number c.self.view_is

pub invariant_of-self-in_default-get_mut : goal.invariant_of-self-in_default-get_mut
invariant_of-self-in_default-get_mut c =
    let slots = c.self.inside.slots.items in
    let entries = entries_of slots in
    let find = place_in c.self.inside.places in
    let n = c.in-Some.number in
    let same = past_opened slots n c.in_default-get_mut.ensures.item.3 in
    record {
      found = gone_found find (place_in c.remove.new.self) entries entries (looked_up c.args.look.now) n c.self.invariant.found (sym c.in-Some.ensures.number) c.in-Some.ensures.places same;
      live = gone_live find entries entries (looked_up c.args.look.now) n c.self.inside.live c.saturating_sub-self-inside.result c.self.invariant.found (sym c.in-Some.ensures.number) same c.self.invariant.live c.saturating_sub-self-inside.ensures;
    }

pub returns-in_default-get_mut : goal.returns-in_default-get_mut
returns-in_default-get_mut c =
    let slots = c.self.inside.slots.items in
    gone_without (place_in c.self.inside.places) slots c.args.self.now (looked_up c.args.look.now) c.in-Some.number (entries_of slots) c.self.invariant.found c.in-Some.ensures.number c.self.view_is
    (past_opened slots c.in-Some.number c.in_default-get_mut.ensures.item.3)

pub invariant_of-self-2 : goal.invariant_of-self-2
invariant_of-self-2 c =
    let slots = c.self.inside.slots.items in
    let after = entries_of (slice_set slots c.in-Some.number c.open.new.place) in
    let find = place_in c.self.inside.places in
    let n = c.in-Some.number in
    let same = slot_opened slots n c.in-Some-get_mut.place.now c.open.new.place c.in-Some-get_mut.ensures.item.3.0 c.in-Some-get_mut.ensures.item.1 c.open.ensures in
    record {
      found = gone_found find (place_in c.remove.new.self) (entries_of slots) after (looked_up c.args.look.now) n c.self.invariant.found (sym c.in-Some.ensures.number) c.in-Some.ensures.places same;
      live = gone_live find (entries_of slots) after (looked_up c.args.look.now) n c.self.inside.live c.saturating_sub-self-inside.result c.self.invariant.found (sym c.in-Some.ensures.number) same c.self.invariant.live c.saturating_sub-self-inside.ensures;
    }

pub returns : goal.returns
returns c =
    let slots = c.self.inside.slots.items in
    let n = c.in-Some.number in
    gone_without (place_in c.self.inside.places) slots c.args.self.now (looked_up c.args.look.now) n (entries_of (slice_set slots n c.open.new.place)) c.self.invariant.found c.in-Some.ensures.number c.self.view_is
    (slot_opened slots n c.in-Some-get_mut.place.now c.open.new.place c.in-Some-get_mut.ensures.item.3.0 c.in-Some-get_mut.ensures.item.1 c.open.ensures)
