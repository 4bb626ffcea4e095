use Rattle.std.proofs.Common.{◌≤◌, ◌<◌, ◌+◌, ◌^◌, length, refl, arith}
use Rattle.interp_state.proofs.SlotFrames.{taken, taken_seen, untaken_past, none_past, place_is, past_is, not_within}
use Rattle.interp_state.proofs.stack.RegStack.take_slot.Goals as goal

pub returns-in-Some-clause-value : goal.returns-in-Some-clause-value
returns-in-Some-clause-value c =
    let slots = c.args.self.now.slots in
    let within : c.saturating_add.result < slots.len = c.in-Some.ensures.variant.0 refl in
    let inside : c.saturating_add.result < length slots.items = omega (arith, within, slots.ok.0) in
    let small : length slots.items < 2 ^ 63 = omega (arith, slots.ok.0, slots.ok.1, slots.small) in
    taken slots.items c.args.self.now.base c.args.slot c.saturating_add.result c.args.self.now.bases.items
    c.in-Some.place.now c.take.result
    (place_is c.args.self.now.base c.args.slot c.saturating_add.result slots.len slots.cap c.saturating_add.ensures
    within slots.ok.1 slots.small)
    inside c.in-Some.ensures.value c.take.ensures.value c.args.self.now.empty small

pub returns-in-Some-clause-slots : goal.returns-in-Some-clause-slots
returns-in-Some-clause-slots c =
    let slots = c.args.self.now.slots in
    rw c.take.ensures.after
    (taken_seen slots.items c.args.self.now.base c.args.slot c.saturating_add.result c.args.self.now.bases.items
    (place_is c.args.self.now.base c.args.slot c.saturating_add.result slots.len slots.cap c.saturating_add.ensures
    (c.in-Some.ensures.variant.0 refl) slots.ok.1 slots.small))

pub returns-in-None-clause-value : goal.returns-in-None-clause-value
returns-in-None-clause-value c =
    let slots = c.args.self.now.slots in
    let past : slots.len ≤ c.args.self.now.base + c.args.slot =
    past_is c.args.self.now.base c.args.slot c.saturating_add.result slots.len c.saturating_add.ensures
    (not_within c.saturating_add.result slots.len c.in-None.ensures.variant.1) in
    let beyond : length slots.items ≤ c.args.self.now.base + c.args.slot = omega (arith, past, slots.ok.0) in
    none_past slots.items c.args.self.now.base c.args.slot c.args.self.now.bases.items beyond

pub returns-in-None-clause-slots : goal.returns-in-None-clause-slots
returns-in-None-clause-slots c =
    let slots = c.args.self.now.slots in
    let past : slots.len ≤ c.args.self.now.base + c.args.slot =
    past_is c.args.self.now.base c.args.slot c.saturating_add.result slots.len c.saturating_add.ensures
    (not_within c.saturating_add.result slots.len c.in-None.ensures.variant.1) in
    let beyond : length slots.items ≤ c.args.self.now.base + c.args.slot = omega (arith, past, slots.ok.0) in
    untaken_past slots.items c.args.self.now.base c.args.slot c.args.self.now.bases.items beyond
