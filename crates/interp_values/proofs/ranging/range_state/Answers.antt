use Rattle.std.proofs.Common.{◌≡◌, ◌∙◌, ap, sym, subst, Some}
use Rattle.go_store.specs.Stores.{stored}
use Rattle.go_value.specs.Values.{text, map_number, value_of}
use Rattle.go_value.specs.declared.values.Value.{Value}
use Rattle.interp_state.specs.States.{looked}
use Rattle.interp_state.specs.Turns.{IsGiven}
use Rattle.interp_values.proofs.Made.{one_is}
use Rattle.ssa_mean.specs.Comes.{of_option}
use Rattle.ssa_mean.specs.Ranges.{range_of}
use Rattle.interp_values.proofs.ranging.range_state.Goals as goal

pub returns-in-Text : goal.returns-in-Text
returns-in-Text c =
    let m = c.args.machine.now in
    let is : looked m c.args.operand.now ≡ Some (text c.in-Text.bytes.value) =
    c.in_ok-bytes.ensures ∙ ap (λ (it : Value). Some (value_of it)) c.in-Text.is in
    subst (IsGiven c.text_range.result)
    (sym (one_is m c.args.operand.now (text c.in-Text.bytes.value) (λ it. of_option (range_of (stored m.store) it)) is))
    c.text_range.ensures

pub returns-in-Map : goal.returns-in-Map
returns-in-Map c =
    let m = c.args.machine.now in
    let is : looked m c.args.operand.now ≡ Some (map_number c.in-Map.map) =
    c.in_ok-bytes.ensures ∙ ap (λ (it : Value). Some (value_of it)) c.in-Map.is in
    subst (IsGiven c.map_range.result)
    (sym (one_is m c.args.operand.now (map_number c.in-Map.map) (λ it. of_option (range_of (stored m.store) it)) is))
    c.map_range.ensures
