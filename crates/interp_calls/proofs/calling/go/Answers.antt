use Rattle.interp_calls.proofs.Calls.{from_waiting, readied_goes, unlater}
use Rattle.interp_calls.proofs.calling.go.Goals as goal
use Rattle.interp_state.specs.Machines.{later_of, machine_of}
use Rattle.plan_mean.specs.Calls.{readied}
use Rattle.plan_mean.specs.Step.{starts_call}

pub returns-in-Ok : goal.returns-in-Ok
returns-in-Ok c =
    readied_goes (λ w. readied w (machine_of c.args.machine.now) c.args.call.now.callee c.args.call.now.arguments.items)
    (λ it w. starts_call w (machine_of c.args.machine.now) it) (later_of c.in-Ok.later) c.start.result
    c.args.machine.now
    c.start.new.machine c.in-Ok.ensures.readied
    (from_waiting c.start.result c.args.machine.now c.later.new.machine c.start.new.machine
    (λ m w. starts_call w m (later_of c.in-Ok.later)) c.later.ensures.others c.start.ensures)

pub returns-in-Err : goal.returns-in-Err
returns-in-Err c =
    unlater c.in-Err.met
    (λ w. readied w (machine_of c.args.machine.now) c.args.call.now.callee c.args.call.now.arguments.items)
    (λ it w. starts_call w (machine_of c.args.machine.now) it) c.meet.result c.args.machine.now c.later.new.machine
    c.meet.new.self c.later.ensures.others c.meet.ensures c.in-Err.ensures.readied
