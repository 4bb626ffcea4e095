use Rattle.std.proofs.Common.{◌<◌, ◌^◌, length, subst, arith}
use Rattle.std.specs.Slice.{IsItemAt}
use Rattle.interp_state.proofs.SlotFrames.{get_some, get_none}
use Rattle.interp_state.proofs.stack.RegStack.get.Goals as goal

pub returns-in-Some : goal.returns-in-Some
returns-in-Some c =
    let slots = c.args.self.now.slots in
    let item : IsItemAt slots.items c.saturating_add.result c.get.result =
    subst (λ xs. IsItemAt xs c.saturating_add.result c.get.result) c.deref.ensures.value c.get.ensures.lookup in
    let small : length slots.items < 2 ^ 63 = omega (arith, slots.ok.0, slots.ok.1, slots.small) in
    get_some slots.items c.args.self.now.base c.args.slot c.saturating_add.result c.args.self.now.bases.items c.get.result
    c.in-Some.place c.as_ref.result item c.in-Some.is c.as_ref.ensures.value c.saturating_add.ensures small c.args.self.now.empty

pub returns-in-None : goal.returns-in-None
returns-in-None c =
    let slots = c.args.self.now.slots in
    let item : IsItemAt slots.items c.saturating_add.result c.get.result =
    subst (λ xs. IsItemAt xs c.saturating_add.result c.get.result) c.deref.ensures.value c.get.ensures.lookup in
    get_none slots.items c.args.self.now.base c.args.slot c.saturating_add.result c.args.self.now.bases.items c.get.result
    item c.in-None.is c.saturating_add.ensures
