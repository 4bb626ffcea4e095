use Rattle.std.proofs.Common.{◌∙◌, Ok, Err, sym, refl, false, subst}
use Rattle.go_store.specs.Conversions.{MakesRunes}
use Rattle.go_store.specs.Stores.{stored}
use Rattle.go_value.specs.Values.{text}
use Rattle.interp_state.specs.Errors.{met_of}
use Rattle.interp_state.specs.Machines.{machine_of}
use Rattle.interp_state.specs.Turns.{IsMade}
use Rattle.interp_state.specs.declared.machine.Machine.{Machine}
use Rattle.interp_values.proofs.Made.{err_is, one_is, runes_made, no_runes}
use Rattle.plan_mean.specs.Operands.{with_one}
use Rattle.plan_mean.specs.Step.{slice_of}
use Rattle.interp_values.proofs.making.text_to_runes.Goals as goal

pub returns-in_err-slice : goal.returns-in_err-slice
returns-in_err-slice c =
    let m = c.args.machine.now in
    let new : Machine = record m { store = c.runes_of_text.new.store } in
    let t = c.in_ok-text.field-0.now.value in
    let looked = one_is m c.args.operand.now (text t) (slice_of (stored m.store) false) c.in_ok-text.ensures in
    err_is
    (λ outcome. IsMade outcome m new (with_one (machine_of m) c.args.operand.now (slice_of (stored m.store) false)))
    c.from_residual-in_err-slice.result c.in_err-slice.field-0.0 c.from_residual-in_err-slice.ensures.1
    (subst (IsMade (Err (met_of c.in_err-slice.field-0.0)) m new) (sym looked)
    (no_runes m new t c.in_err-slice.field-0.0 (subst
    (λ t. MakesRunes (stored m.store) t (Err c.in_err-slice.field-0.0) (stored new.store))
    (c.deref.ensures ∙ c.in_ok-text-2.ensures.cases)
    c.in_err-slice.ensures) refl))

pub returns : goal.returns
returns c =
    let m = c.args.machine.now in
    let new : Machine = record m { store = c.runes_of_text.new.store } in
    let t = c.in_ok-text.field-0.now.value in
    let looked = one_is m c.args.operand.now (text t) (slice_of (stored m.store) false) c.in_ok-text.ensures in
    subst (IsMade (Ok c.in_ok-slice-2.field-0) m new) (sym looked)
    (runes_made m new t c.in_ok-slice.slice c.in_ok-slice-2.field-0
    (subst (λ t. MakesRunes (stored m.store) t (Ok c.in_ok-slice.slice) (stored new.store))
    (c.deref.ensures ∙ c.in_ok-text-2.ensures.cases)
    c.in_ok-slice.ensures) c.in_ok-slice-2.ensures refl)
