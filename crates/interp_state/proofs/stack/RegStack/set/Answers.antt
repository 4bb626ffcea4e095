use Rattle.std.proofs.Common.{◌≤◌, ◌+◌, length, refl, arith, Some}
use Rattle.go_value.specs.Values.{value_of}
use Rattle.interp_state.proofs.SlotFrames.{set_seen, unset_past, place_is, past_is, not_within}
use Rattle.interp_state.proofs.stack.RegStack.set.Goals as goal

pub returns-in-Some-clause-slots : goal.returns-in-Some-clause-slots
returns-in-Some-clause-slots c =
    let slots = c.args.self.now.slots in
    set_seen slots.items c.args.self.now.base c.args.slot c.saturating_add.result (Some c.args.value)
    (value_of c.args.value) c.args.self.now.bases.items
    (place_is c.args.self.now.base c.args.slot c.saturating_add.result slots.len slots.cap c.saturating_add.ensures
    (c.in-Some.ensures.variant.0 refl) slots.ok.1 slots.small) refl

pub returns-in_default-clause-slots : goal.returns-in_default-clause-slots
returns-in_default-clause-slots c =
    let slots = c.args.self.now.slots in
    let past : slots.len ≤ c.args.self.now.base + c.args.slot =
    past_is c.args.self.now.base c.args.slot c.saturating_add.result slots.len c.saturating_add.ensures
    (not_within c.saturating_add.result slots.len c.in_default.ensures.variant.1) in
    let beyond : length slots.items ≤ c.args.self.now.base + c.args.slot = omega (arith, past, slots.ok.0) in
    unset_past slots.items c.args.self.now.base c.args.slot (value_of c.args.value) c.args.self.now.bases.items beyond
