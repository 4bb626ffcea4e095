use Rattle.code_plan.specs.declared.steps.Callee.TheVariants as callee
use Rattle.interp_calls.proofs.Readied.{readied_by}
use Rattle.interp_calls.proofs.calling.ready.Goals as goal
use Rattle.interp_state.specs.Machines.{machine_of}

pub returns-in-Function-clause-readied : goal.returns-in-Function-clause-readied
returns-in-Function-clause-readied c =
    λ w within. readied_by c.ready_function.result c.ready_function.new.machine w (machine_of c.args.machine.now)
    c.args.call.now.callee (callee.Function c.in-Function.function) c.args.call.now.arguments.items
    c.as_slice-args.result.now
    c.in-Function.is c.as_slice-args.ensures.value (c.ready_function.ensures.readied w)

pub returns-in-Value-clause-readied : goal.returns-in-Value-clause-readied
returns-in-Value-clause-readied c =
    λ w within. readied_by c.ready_value.result c.ready_value.new.machine w (machine_of c.args.machine.now)
    c.args.call.now.callee (callee.Value c.in-Value.value) c.args.call.now.arguments.items c.as_slice-args.result.now
    c.in-Value.is c.as_slice-args.ensures.value (c.ready_value.ensures.readied w)

pub returns-in-Method-clause-readied : goal.returns-in-Method-clause-readied
returns-in-Method-clause-readied c =
    λ w within. readied_by c.ready_method.result c.ready_method.new.machine w (machine_of c.args.machine.now)
    c.args.call.now.callee (callee.Method c.in-Method.receiver c.in-Method.method) c.args.call.now.arguments.items
    c.as_slice-args.result.now
    c.in-Method.is c.as_slice-args.ensures.value (c.ready_method.ensures.readied w within)
