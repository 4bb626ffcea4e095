use Rattle.std.proofs.Common.{◌∙◌, ap, rules, subst, sym}
use Rattle.std.proofs.lemmas.Int.{to_z-of_z}
use Rattle.std.specs.Global.{Vec}
use Rattle.std.specs.Int.{w128}
use Rattle.std.specs.Int.RustNames.{FitsSigned}
use Rattle.go_value.specs.Values.{number, parts, parts_of, Field}
use Rattle.interp_state.specs.Turns.{IsGiven}
use Rattle.interp_values.proofs.Looked.{parts_are, two_are}
use Rattle.ssa_mean.specs.Places.{element_value, index_of}
use Rattle.interp_values.proofs.places.array_value.Goals as goal

pub returns-in-Parts : goal.returns-in-Parts
returns-in-Parts c =
    let fits : FitsSigned w128 c.in_ok-index.index = search rules in
    let items = c.as_slice.result.now in
    subst (IsGiven c.item_at.result)
    (ap (element_value (parts (parts_of items))) (to_z-of_z w128 c.in_ok-index.index fits)
    ∙ sym (two_are c.args.machine.now c.args.operand.now c.args.index.now (parts (parts_of items))
    (number c.in_ok-index.index) index_of
    (parts_are c.args.machine.now c.args.operand.now c.in_ok-parts.field-0.now c.in-Parts.parts items
    c.in_ok-parts.ensures c.in-Parts.is (c.as_slice.ensures.value ∙ ap (λ (v : Vec Field). v.items) c.deref.ensures))
    c.in_ok-index.ensures))
    c.item_at.ensures
