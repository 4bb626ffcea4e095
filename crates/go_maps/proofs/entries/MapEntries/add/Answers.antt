use Rattle.std.proofs.Common.{ap, sym, refl, ◌∙◌, arith, length, ◌<◌, ◌^◌}
use Rattle.go_maps.specs.Entries.{entries_of, count_in, place_of_code}
use Rattle.go_maps.specs.Places.{place_in, looked_up}
use Rattle.go_maps.proofs.Kept.{added_found, added_live, not_added}
use Rattle.go_maps.proofs.entries.MapEntries.add.Goals as goal

pub invariant_of-self : goal.invariant_of-self
invariant_of-self c = record {
  found = not_added (place_in c.self.inside.places) (place_in c.self.inside.places) c.self.inside.slots.items c.push.new.self.items c.self.invariant.found (λ code. refl) c.in_err-push.ensures.items;
  live = c.self.invariant.live ∙ ap (λ slots. count_in (entries_of slots)) (sym c.in_err-push.ensures.items);
}

pub invariant_of-self-in-Ok : goal.invariant_of-self-in-Ok
invariant_of-self-in-Ok c =
    let slots = c.self.inside.slots.items in
    let code = looked_up c.args.look in
    let v = c.self.inside.slots in
    let small : length slots < 2 ^ 63 = omega (arith, v.ok.0, v.ok.1, v.small) in
    record {
      found = added_found (place_in c.self.inside.places) (place_in c.insert.new.self) slots c.push.new.self.items (record { key = c.args.key; value = c.args.value }) c.len-number.result code c.self.invariant.found c.in_ok-push.ensures.items (c.len-number.ensures ∙ c.self.inside.slots.ok.0) c.requires.code (ap (λ s. place_of_code code (entries_of s)) c.self.view_is ∙ c.requires.absent) c.in-Ok.ensures.ok;
      live = added_live c.self.inside.live c.saturating_add-self-inside.result slots c.push.new.self.items (record { key = c.args.key; value = c.args.value }) c.self.invariant.live c.in_ok-push.ensures.items small c.saturating_add-self-inside.ensures;
    }
