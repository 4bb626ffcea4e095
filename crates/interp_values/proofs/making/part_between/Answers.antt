use Rattle.std.proofs.Common.{subst, sym, ap, ◌∙◌}
use Rattle.code_plan.specs.declared.steps.CutForm.{CutForm}
use Rattle.code_plan.specs.declared.steps.CutForm.TheVariants as cut
use Rattle.interp_state.specs.Machines.{machine_of}
use Rattle.interp_state.specs.Turns.{IsGiven}
use Rattle.interp_values.proofs.Made.{cut_is}
use Rattle.plan_mean.specs.Step.{cut_of}
use Rattle.interp_values.proofs.making.part_between.Goals as goal

pub returns-in-Text : goal.returns-in-Text
returns-in-Text c =
    let m = c.args.machine.now in
    subst (IsGiven c.text_between.result)
    (sym (cut_is m cut.Text c.args.operand.now c.args.bounds.now c.in_ok-low.low c.in_ok-high.high c.in_ok-max.max
    c.in_ok-low.ensures c.in_ok-high.ensures c.in_ok-max.ensures)
    ∙ ap (λ (form : CutForm). cut_of (machine_of m) form c.args.operand.now c.args.bounds.now) (sym c.in-Text.is))
    c.text_between.ensures

pub returns-in-Slice : goal.returns-in-Slice
returns-in-Slice c =
    let m = c.args.machine.now in
    subst (IsGiven c.slice_between.result)
    (sym (cut_is m cut.Slice c.args.operand.now c.args.bounds.now c.in_ok-low.low c.in_ok-high.high c.in_ok-max.max
    c.in_ok-low.ensures c.in_ok-high.ensures c.in_ok-max.ensures)
    ∙ ap (λ (form : CutForm). cut_of (machine_of m) form c.args.operand.now c.args.bounds.now) (sym c.in-Slice.is))
    c.slice_between.ensures

pub returns-in-Array : goal.returns-in-Array
returns-in-Array c =
    let m = c.args.machine.now in
    subst (IsGiven c.array_between.result)
    (sym (cut_is m (cut.Array c.in-Array.len) c.args.operand.now c.args.bounds.now c.in_ok-low.low c.in_ok-high.high
    c.in_ok-max.max
    c.in_ok-low.ensures c.in_ok-high.ensures c.in_ok-max.ensures)
    ∙ ap (λ (form : CutForm). cut_of (machine_of m) form c.args.operand.now c.args.bounds.now) (sym c.in-Array.is))
    c.array_between.ensures
