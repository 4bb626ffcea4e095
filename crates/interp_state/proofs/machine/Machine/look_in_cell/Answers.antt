use Rattle.std.proofs.Common.{◌≡◌, ◌∙◌, sym, ap, Some}
use Rattle.go_store.specs.Stores.{stored, loaded}
use Rattle.go_value.specs.Values.{value_of}
use Rattle.interp_state.proofs.Operands.{pointed}
use Rattle.interp_state.specs.States.{slots_of}
use Rattle.plan_mean.specs.Slots.{slot_in}
use Rattle.interp_state.proofs.machine.Machine.look_in_cell.Goals as goal

pub returns-in-Some : goal.returns-in-Some
returns-in-Some c =
    let held : Some (value_of c.in-Some-Pointer.field-0.now) ≡ slot_in (slots_of c.args.self.now) c.args.slot =
    c.in-Some-Pointer.ensures in
    let there : loaded (stored c.args.self.now.store) c.in-Some-Pointer.address ≡ Some (value_of c.in-Some.value.now) =
    ap (loaded (stored c.args.self.now.store)) (sym c.in-Some-Pointer.address-is) ∙ c.in-Some.ensures in
    pointed (stored c.args.self.now.store) (slots_of c.args.self.now) c.args.slot c.in-Some-Pointer.address
    (value_of c.in-Some.value.now) (ap (λ it. Some (value_of it)) (sym c.in-Some-Pointer.field-0-is) ∙ held) there
