use Rattle.std.proofs.Common.{ap, ◌∙◌, Err, sym, refl, false, subst}
use Rattle.go_store.specs.Slices.{elements_of}
use Rattle.go_store.specs.Stores.{stored}
use Rattle.go_value.specs.Values.{slice}
use Rattle.interp_state.specs.Errors.{met_of}
use Rattle.interp_state.specs.Machines.{machine_of}
use Rattle.interp_state.specs.Turns.{IsMade, IsGiven}
use Rattle.interp_values.proofs.Made.{err_is, one_is, no_text, text_made, made_of_given}
use Rattle.plan_mean.specs.Operands.{with_one}
use Rattle.plan_mean.specs.Step.{text_of_slice}
use Rattle.ssa_mean.specs.Comes.{then_to}
use Rattle.ssa_mean.specs.Conversions.{kept}
use Rattle.interp_values.proofs.making.runes_to_text.Goals as goal

pub returns-in_err-text : goal.returns-in_err-text
returns-in_err-text c =
    let m = c.args.machine.now in
    let it = c.in_ok-slice.slice.now in
    let looked = one_is m c.args.operand.now (slice it) (text_of_slice (stored m.store) false) c.in_ok-slice.ensures in
    err_is
    (λ outcome. IsMade outcome m m (then_to (kept (stored m.store))
    (with_one (machine_of m) c.args.operand.now (text_of_slice (stored m.store) false))))
    c.from_residual-in_err-text.result c.in_err-text.field-0.0 c.from_residual-in_err-text.ensures.1
    (made_of_given m (Err (met_of c.in_err-text.field-0.0))
    (with_one (machine_of m) c.args.operand.now (text_of_slice (stored m.store) false))
    (subst (IsGiven (Err (met_of c.in_err-text.field-0.0))) (sym looked)
    (no_text false (elements_of (stored m.store) it) c.in_err-text.field-0.0 c.in_err-text.ensures.text)))

pub returns : goal.returns
returns c =
    let m = c.args.machine.now in
    let it = c.in_ok-slice.slice.now in
    let looked = one_is m c.args.operand.now (slice it) (text_of_slice (stored m.store) false) c.in_ok-slice.ensures
    in (
      ap (then_to (kept (stored m.store)))
          (looked
          ∙ text_made m false (elements_of (stored m.store) it) c.in_ok-text.text c.in_ok-text-2.field-0
          c.in_ok-text.ensures.there
          c.in_ok-text.ensures.text c.in_ok-text-2.ensures),
      refl,
    )
