use Rattle.std.proofs.Common.{◌∙◌, ap, map, sym}
use Rattle.go_value.specs.Values.{value_of}
use Rattle.go_value.specs.declared.faults.Fault.TheVariants as fault
use Rattle.interp_calls.proofs.Calls.{as_said}
use Rattle.interp_calls.proofs.calling.call_ready.Goals as goal
use Rattle.interp_calls.specs.Ways.{entry_with, goes_to_call, on_way}
use Rattle.interp_state.specs.Machines.{called_of, free_of, machine_of}
use Rattle.interp_state.specs.declared.frames.Ready.{Ready}
use Rattle.plan_mean.specs.Calls.{enters, later}
use Rattle.plan_mean.specs.Step.{alone}
use Rattle.plan_mean.specs.Unwinding.{meets}

pub returns-in-Function : goal.returns-in-Function
returns-in-Function c =
    let m = machine_of c.args.machine.now in
    let its = on_way c.args.machine.now in
    as_said c.enter.result c.args.machine.now c.enter.new.machine
    (λ w. goes_to_call w m c.args.to (later (called_of c.args.ready) c.args.chain its) c.args.deferred
    (called_of c.args.ready))
    (λ w. enters w (entry_with c.in-Function.function (free_of c.in-Function.bound) its (record {
      deferred = c.is_deferred.result;
      to = c.args.to;
      chain = c.args.chain;
    })) m)
    (λ w within. ap (λ (ready : Ready). goes_to_call w m c.args.to (later (called_of ready) c.args.chain its)
    c.args.deferred (called_of ready)) c.in-Function.is
    ∙ ap (λ deferred. enters w (record {
      function = c.in-Function.function;
      free = free_of c.in-Function.bound;
      arguments = its;
      deferred = deferred;
      result = c.args.to;
      chain = c.args.chain;
    }) m) (sym c.is_deferred.ensures)) c.enter.ensures

pub returns-in-Builtin : goal.returns-in-Builtin
returns-in-Builtin c =
    let m = machine_of c.args.machine.now in
    let its = on_way c.args.machine.now in
    as_said c.run_builtin.result c.args.machine.now c.run_builtin.new.machine
    (λ w. goes_to_call w m c.args.to (later (called_of c.args.ready) c.args.chain its) c.args.deferred
    (called_of c.args.ready))
    (λ w. alone w m c.in-Builtin.form.now (map value_of c.args.machine.now.waiting.items))
    (λ w within. ap (λ (ready : Ready). goes_to_call w m c.args.to (later (called_of ready) c.args.chain its)
    c.args.deferred (called_of ready)) c.in-Builtin.is) c.run_builtin.ensures

pub returns-in-Nil : goal.returns-in-Nil
returns-in-Nil c =
    let m = machine_of c.args.machine.now in
    let its = on_way c.args.machine.now in
    as_said c.meet.result c.args.machine.now c.meet.new.self
    (λ w. goes_to_call w m c.args.to (later (called_of c.args.ready) c.args.chain its) c.args.deferred
    (called_of c.args.ready))
    (λ w. meets w fault.NilPointer m)
    (λ w within. ap (λ (ready : Ready). goes_to_call w m c.args.to (later (called_of ready) c.args.chain its)
    c.args.deferred (called_of ready)) c.in-Nil.is) c.meet.ensures
