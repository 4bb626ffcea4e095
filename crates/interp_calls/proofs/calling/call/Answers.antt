use Rattle.std.proofs.Common.{◌∙◌, ap, sym}
use Rattle.interp_calls.proofs.Calls.{as_said, built_in_is, function_is}
use Rattle.interp_calls.proofs.calling.call.Goals as goal
use Rattle.interp_calls.specs.Ways.{goes_to_call}
use Rattle.interp_state.specs.Machines.{machine_of}
use Rattle.std.proofs.Common.{false}
use Rattle.plan_mean.specs.Operands.{look_at_all}
use Rattle.plan_mean.specs.State.{where_there}
use Rattle.plan_mean.specs.Step.{calls, calls_built_in, with_later}

pub returns-in-Builtin : goal.returns-in-Builtin
returns-in-Builtin c =
    let m = machine_of c.args.machine.now in
    as_said c.call_builtin.result c.args.machine.now c.call_builtin.new.machine
    (λ w. with_later w m c.args.call.now (λ it. calls w m c.args.to it it.called))
    (λ w. where_there (calls_built_in w m c.args.to c.in-Builtin.form) (look_at_all m c.as_slice.result.now))
    (λ w within. built_in_is w m c.args.to c.args.call.now c.in-Builtin.form c.in-Builtin.is
    ∙ ap (λ args. where_there (calls_built_in w m c.args.to c.in-Builtin.form) (look_at_all m args))
    (sym c.as_slice.ensures.value)) c.call_builtin.ensures

pub returns-in_default : goal.returns-in_default
returns-in_default c =
    let m = machine_of c.args.machine.now in
    as_said c.call_function.result c.args.machine.now c.call_function.new.machine
    (λ w. with_later w m c.args.call.now (λ it. calls w m c.args.to it it.called))
    (λ w. with_later w m c.args.call.now (λ it. goes_to_call w m c.args.to it false it.called))
    (λ w within. function_is w m c.args.to c.args.call.now c.in_default.not-Builtin) c.call_function.ensures
