use Rattle.std.proofs.Common.{List, subst}
use Rattle.code_plan.specs.declared.steps.Arg.{Arg}
use Rattle.code_plan.specs.declared.steps.Step.TheVariants as act
use Rattle.go_interp.proofs.Forms.{as_form}
use Rattle.interp_state.specs.Machines.{machine_of}
use Rattle.interp_state.specs.Turns.{Steps}
use Rattle.plan_mean.specs.Step.{acts, gives, make_closure}
use Rattle.go_interp.proofs.stepping.act_rarely.Goals as goal

pub returns-in-Closure : goal.returns-in-Closure
unfolding acts
returns-in-Closure c =
    let m = c.args.machine.now in
    as_form c.closure.result m c.closure.new.machine
    (act.Closure c.in-Closure.function c.in-Closure.captured c.in-Closure.to) c.args.step.now c.in-Closure.is
    (subst (λ (captured : List Arg). Steps c.closure.result m c.closure.new.machine
    (λ w. gives w (machine_of m) c.in-Closure.to (make_closure (machine_of m) c.in-Closure.function captured)))
    c.deref.ensures.value c.closure.ensures)
