use Rattle.std.proofs.Common.{false}
use Rattle.interp_calls.proofs.Calls.{from_waiting, readied_goes, unreadied}
use Rattle.interp_calls.proofs.calling.call_function.Goals as goal
use Rattle.interp_calls.specs.Ways.{goes_to_call, on_way}
use Rattle.interp_state.specs.Machines.{called_of, machine_of}
use Rattle.plan_mean.specs.Calls.{later, readied}

pub returns-in-Ok : goal.returns-in-Ok
returns-in-Ok c =
    let it = later (called_of c.in-Ok.ready) c.in-Ok.chain (on_way c.ready.new.machine) in
    readied_goes (λ w. readied w (machine_of c.args.machine.now) c.args.call.now.callee c.args.call.now.arguments.items)
    (λ it w. goes_to_call w (machine_of c.args.machine.now) c.args.to it false it.called) it c.call_ready.result
    c.args.machine.now c.call_ready.new.machine c.in-Ok.ensures.readied
    (from_waiting c.call_ready.result c.args.machine.now c.ready.new.machine c.call_ready.new.machine
    (λ m w. goes_to_call w m c.args.to it false it.called) c.ready.ensures.others c.call_ready.ensures)

pub returns-in-Err : goal.returns-in-Err
returns-in-Err c =
    unreadied c.in-Err.met
    (λ w. readied w (machine_of c.args.machine.now) c.args.call.now.callee c.args.call.now.arguments.items)
    (λ it w. goes_to_call w (machine_of c.args.machine.now) c.args.to it false it.called) c.meet.result
    c.args.machine.now c.ready.new.machine c.meet.new.self c.ready.ensures.others c.meet.ensures
    c.in-Err.ensures.readied
