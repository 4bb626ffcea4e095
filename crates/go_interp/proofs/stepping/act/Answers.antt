use Rattle.std.proofs.Common.{List, subst}
use Rattle.code_plan.specs.declared.steps.Arg.{Arg}
use Rattle.interp_state.specs.Machines.{machine_of}
use Rattle.interp_state.specs.Turns.{Steps}
use Rattle.plan_mean.specs.Calls.{returned}
use Rattle.plan_mean.specs.Operands.{look_at_all}
use Rattle.plan_mean.specs.State.{where_there}
use Rattle.plan_mean.specs.Step.{acts}
use Rattle.code_plan.specs.declared.steps.Step.TheVariants as act
use Rattle.go_interp.proofs.Forms.{as_form, ticked}
use Rattle.go_interp.proofs.stepping.act.Goals as goal

pub returns-in-Jump : goal.returns-in-Jump
unfolding acts
returns-in-Jump c =
    as_form c.jump.result c.args.machine.now c.jump.new.machine (act.Jump c.in-Jump.to) c.args.step.now c.in-Jump.is
    c.jump.ensures

pub returns-in-If : goal.returns-in-If
unfolding acts
returns-in-If c =
    as_form c.branch-machine.result c.args.machine.now c.branch-machine.new.machine
    (act.If c.in-If.test c.in-If.then_to c.in-If.else_to) c.args.step.now c.in-If.is c.branch-machine.ensures

pub returns-in-Tick : goal.returns-in-Tick
unfolding acts
returns-in-Tick c =
    as_form c.spend.result c.args.machine.now c.spend.new.self act.Tick c.args.step.now c.in-Tick.is
    (ticked c.spend.result c.args.machine.now c.spend.new.self c.spend.ensures.none c.spend.ensures.spent)

pub returns-in-Call : goal.returns-in-Call
unfolding acts
returns-in-Call c =
    as_form c.call.result c.args.machine.now c.call.new.machine (act.Call c.in-Call.call c.in-Call.to) c.args.step.now
    c.in-Call.is c.call.ensures

pub returns-in-Return : goal.returns-in-Return
unfolding acts
returns-in-Return c =
    let m = c.args.machine.now in
    as_form c.give_results.result m c.give_results.new.machine (act.Return c.in-Return.values) c.args.step.now
    c.in-Return.is
    (subst (λ (values : List Arg). Steps c.give_results.result m c.give_results.new.machine
    (λ w. where_there (λ results. returned results (machine_of m).current.frames (machine_of m))
    (look_at_all (machine_of m) values))) c.deref.ensures.value c.give_results.ensures)
