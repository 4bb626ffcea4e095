use Rattle.std.proofs.Common.{subst, sym}
use Rattle.code_plan.specs.declared.steps.Step.{Step}
use Rattle.interp_state.proofs.Turns.{given}
use Rattle.interp_state.specs.Machines.{machine_of}
use Rattle.code_plan.specs.declared.steps.Bounds.{Bounds}
use Rattle.interp_state.specs.Turns.{IsGiven, Steps}
use Rattle.plan_mean.specs.Step.{acts, cut_of}
use Rattle.interp_values.proofs.making.cut.Goals as goal

pub returns-in-Cut : goal.returns-in-Cut
unfolding acts
returns-in-Cut c =
    let m = c.args.machine.now in
    subst (λ (step : Step). Steps c.give.result m c.give.new.self (λ w. acts w (machine_of m) step)) (sym c.in-Cut.is)
    (given c.in-Cut.to c.part_between-part.result
    (cut_of (machine_of m) c.in-Cut.form c.in-Cut.operand c.in-Cut.bounds.value)
    c.give.result m c.give.new.self c.give.ensures
    (subst (λ (bounds : Bounds). IsGiven c.part_between-part.result
    (cut_of (machine_of m) c.in-Cut.form c.in-Cut.operand bounds)) c.deref.ensures c.part_between-part.ensures))
