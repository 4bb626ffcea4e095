use Rattle.std.proofs.Common.{ap, ◌∙◌}
use Rattle.std.proofs.lemmas.List.{with_items_is}
use Rattle.std.specs.Vec.{with_items}
use Rattle.go_maps.specs.Entries.{entries_of, cleared}
use Rattle.go_maps.specs.Places.{place_in}
use Rattle.go_maps.proofs.Kept.{cleared_found, cleared_live}
use Rattle.go_maps.proofs.entries.MapEntries.clear.Goals as goal

pub invariant_of-self : goal.invariant_of-self
invariant_of-self c =
    let slots = c.self.inside.slots in
    let after = (with_items slots c.open_all.new.slots).items in
    let same =
    ap entries_of (with_items_is slots c.open_all.new.slots (c.open_all.auto.slots ∙ c.as_mut_slice.ensures.len))
    ∙ c.open_all.ensures ∙ ap (λ s. cleared (entries_of s)) c.as_mut_slice.ensures.value in
    record {
      found = cleared_found (place_in c.clear.new.self) slots.items after c.clear.ensures same;
      live = cleared_live slots.items after same;
    }

pub returns : goal.returns
returns c =
    ap entries_of (with_items_is c.self.inside.slots c.open_all.new.slots (c.open_all.auto.slots ∙ c.as_mut_slice.ensures.len))
    ∙ c.open_all.ensures ∙ ap (λ s. cleared (entries_of s)) (c.as_mut_slice.ensures.value ∙ c.self.view_is)
