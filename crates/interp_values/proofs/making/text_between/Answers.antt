use Rattle.std.proofs.Common.{◌∙◌, ap, rules, sym, subst, ℕ, List, pos, length, Err, None}
use Rattle.std.specs.Int.{w128}
use Rattle.std.specs.Int.RustNames.{FitsSigned}
use Rattle.std.specs.Prelude.{unwrap_or, Result}
use Rattle.std.proofs.lemmas.Int.{to_z-of_z}
use Rattle.go_value.specs.Values.{Val, text}
use Rattle.go_value.specs.declared.faults.Fault.{Fault}
use Rattle.interp_state.specs.Errors.{met_of}
use Rattle.interp_state.specs.Machines.{machine_of}
use Rattle.interp_state.specs.Turns.{IsGiven}
use Rattle.interp_values.proofs.Made.{err_is, given_as, one_is, text_as}
use Rattle.plan_mean.specs.Operands.{with_one}
use Rattle.ssa_mean.specs.Comes.{to, then_to, of_result}
use Rattle.ssa_mean.specs.Places.{Bounds, part_between}
use Rattle.interp_values.proofs.making.text_between.Goals as goal

pub returns-in_err-part : goal.returns-in_err-part
returns-in_err-part c =
    let m = c.args.machine.now in
    let bounds : Bounds = record { low = c.args.low; high = c.args.high; max = c.args.max } in
    let t = c.in_ok-bytes.bytes.now.value in
    let low : FitsSigned w128 c.unwrap_or.result = search rules in
    let high : FitsSigned w128 c.unwrap_or-high.result = search rules in
    let len : FitsSigned w128 c.from.result = search rules in
    err_is (λ outcome. IsGiven outcome (with_one (machine_of m) c.args.operand.now
    (λ whole. part_between None whole bounds)))
    c.from_residual-in_err-part.result c.in_err-part.field-0.0 c.from_residual-in_err-part.ensures.1
    (subst (IsGiven (Err (met_of c.in_err-part.field-0.0)))
    (sym (one_is m c.args.operand.now (text t) (λ whole. part_between None whole bounds) c.in_ok-bytes.ensures
    ∙ ap (λ (r : Result (List ℕ) Fault). then_to text (of_result r))
    (text_as t _ _ _ (unwrap_or c.args.low (pos 0)) (unwrap_or c.args.high (pos (length t))) c.deref-2.ensures
    (to_z-of_z w128 c.unwrap_or.result low ∙ c.unwrap_or.ensures)
    (to_z-of_z w128 c.unwrap_or-high.result high ∙ c.unwrap_or-high.ensures
    ∙ ap (unwrap_or c.args.high)
    (to_z-of_z w128 c.from.result len ∙ c.from.ensures ∙ ap pos c.len.ensures
    ∙ ap (λ (t : List ℕ). pos (length t)) c.deref.ensures)))))
    (given_as text c.in_err-part.field-0.0 _ c.in_err-part.ensures))

pub returns : goal.returns
returns c =
    let m = c.args.machine.now in
    let bounds : Bounds = record { low = c.args.low; high = c.args.high; max = c.args.max } in
    let t = c.in_ok-bytes.bytes.now.value in
    let low : FitsSigned w128 c.unwrap_or.result = search rules in
    let high : FitsSigned w128 c.unwrap_or-high.result = search rules in
    let len : FitsSigned w128 c.from.result = search rules in
    one_is m c.args.operand.now (text t) (λ whole. part_between None whole bounds) c.in_ok-bytes.ensures
    ∙ ap (λ (r : Result (List ℕ) Fault). then_to text (of_result r))
    (text_as t _ _ _ (unwrap_or c.args.low (pos 0)) (unwrap_or c.args.high (pos (length t))) c.deref-2.ensures
    (to_z-of_z w128 c.unwrap_or.result low ∙ c.unwrap_or.ensures)
    (to_z-of_z w128 c.unwrap_or-high.result high ∙ c.unwrap_or-high.ensures
    ∙ ap (unwrap_or c.args.high)
    (to_z-of_z w128 c.from.result len ∙ c.from.ensures ∙ ap pos c.len.ensures
    ∙ ap (λ (t : List ℕ). pos (length t)) c.deref.ensures))
    ∙ c.in_ok-part.ensures)
    ∙ ap (λ (v : Val). to v) (sym c.in_ok-text.ensures)
