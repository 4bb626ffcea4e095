use Rattle.std.proofs.Common.{◌∙◌, ap, rules, sym, pos}
use Rattle.std.specs.Int.{w128}
use Rattle.std.specs.Int.RustNames.{FitsSigned}
use Rattle.std.specs.Prelude.{unwrap_or, Result}
use Rattle.std.proofs.lemmas.Int.{to_z-of_z}
use Rattle.go_value.specs.Values.{Val, slice}
use Rattle.go_value.specs.declared.address.SliceValue.{SliceValue}
use Rattle.go_value.specs.declared.faults.Fault.{Fault}
use Rattle.interp_state.specs.Turns.{IsGiven}
use Rattle.interp_values.proofs.Made.{fault_is, sliced_as}
use Rattle.ssa_mean.specs.Comes.{to, then_to, of_result}
use Rattle.ssa_mean.specs.Places.{Bounds, cut}
use Rattle.interp_values.proofs.making.slice_part.Goals as goal

pub returns-in_err-part : goal.returns-in_err-part
returns-in_err-part c =
    let bounds : Bounds = record { low = c.args.low; high = c.args.high; max = c.args.max } in
    let low : FitsSigned w128 c.unwrap_or.result = search rules in
    let high : FitsSigned w128 c.unwrap_or-high.result = search rules in
    let max : FitsSigned w128 c.unwrap_or-max.result = search rules in
    let len : FitsSigned w128 c.from.result = search rules in
    let cap : FitsSigned w128 c.from-2.result = search rules in
    fault_is (λ outcome. IsGiven outcome (cut c.args.slice bounds)) c.from_residual.result c.in_err-part.field-0.0
    c.from_residual.ensures.1
    (ap (λ (r : Result SliceValue Fault). then_to slice (of_result r))
    (sliced_as c.args.slice _ _ _ (unwrap_or c.args.low (pos 0)) (unwrap_or c.args.high (pos c.args.slice.len))
    (unwrap_or c.args.max (pos c.args.slice.cap))
    (to_z-of_z w128 c.unwrap_or.result low ∙ c.unwrap_or.ensures)
    (to_z-of_z w128 c.unwrap_or-high.result high ∙ c.unwrap_or-high.ensures
    ∙ ap (unwrap_or c.args.high) (to_z-of_z w128 c.from.result len ∙ c.from.ensures))
    (to_z-of_z w128 c.unwrap_or-max.result max ∙ c.unwrap_or-max.ensures
    ∙ ap (unwrap_or c.args.max) (to_z-of_z w128 c.from-2.result cap ∙ c.from-2.ensures))
    ∙ sym c.in_err-part.ensures))

pub returns : goal.returns
returns c =
    let low : FitsSigned w128 c.unwrap_or.result = search rules in
    let high : FitsSigned w128 c.unwrap_or-high.result = search rules in
    let max : FitsSigned w128 c.unwrap_or-max.result = search rules in
    let len : FitsSigned w128 c.from.result = search rules in
    let cap : FitsSigned w128 c.from-2.result = search rules in
    ap (λ (r : Result SliceValue Fault). then_to slice (of_result r))
    (sliced_as c.args.slice _ _ _ (unwrap_or c.args.low (pos 0)) (unwrap_or c.args.high (pos c.args.slice.len))
    (unwrap_or c.args.max (pos c.args.slice.cap))
    (to_z-of_z w128 c.unwrap_or.result low ∙ c.unwrap_or.ensures)
    (to_z-of_z w128 c.unwrap_or-high.result high ∙ c.unwrap_or-high.ensures
    ∙ ap (unwrap_or c.args.high) (to_z-of_z w128 c.from.result len ∙ c.from.ensures))
    (to_z-of_z w128 c.unwrap_or-max.result max ∙ c.unwrap_or-max.ensures
    ∙ ap (unwrap_or c.args.max) (to_z-of_z w128 c.from-2.result cap ∙ c.from-2.ensures))
    ∙ sym c.in_ok-part.ensures)
    ∙ ap (λ (v : Val). to v) (sym c.in_ok-slice.ensures)
