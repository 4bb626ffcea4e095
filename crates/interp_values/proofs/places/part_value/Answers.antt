use Rattle.std.proofs.Common.{◌∙◌, ap, subst, sym}
use Rattle.std.specs.Global.{Vec}
use Rattle.go_value.specs.Values.{parts, parts_of, Field}
use Rattle.interp_state.specs.Turns.{IsGiven}
use Rattle.interp_values.proofs.Looked.{one_is, parts_are}
use Rattle.ssa_mean.specs.Places.{field_of}
use Rattle.interp_values.proofs.places.part_value.Goals as goal

pub returns-in-Parts : goal.returns-in-Parts
returns-in-Parts c =
    let items = c.as_slice.result.now in
    subst (IsGiven c.nth_part.result)
    (sym (one_is c.args.machine.now c.args.operand.now (parts (parts_of items))
    (λ it. field_of it c.args.part)
    (parts_are c.args.machine.now c.args.operand.now c.in_ok-parts.field-0.now c.in-Parts.parts items
    c.in_ok-parts.ensures c.in-Parts.is (c.as_slice.ensures.value ∙ ap (λ (v : Vec Field). v.items) c.deref.ensures))))
    c.nth_part.ensures
