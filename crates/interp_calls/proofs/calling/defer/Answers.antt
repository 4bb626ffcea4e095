use Rattle.interp_calls.proofs.Calls.{done_or_wants, from_waiting, readied_goes, unlater}
use Rattle.interp_calls.proofs.calling.defer.Goals as goal
use Rattle.interp_state.proofs.Tops.{with_current_in}
use Rattle.interp_state.specs.Machines.{later_of, machine_of}
use Rattle.plan_mean.specs.Calls.{readied}
use Rattle.plan_mean.specs.Step.{puts_off}

pub returns-in-Ok : goal.returns-in-Ok
returns-in-Ok c =
    let it = later_of c.in-Ok.later in
    readied_goes (λ w. readied w (machine_of c.args.machine.now) c.args.call.now.callee c.args.call.now.arguments.items)
    (λ it w. puts_off it (machine_of c.args.machine.now).current.frames (machine_of c.args.machine.now)) it
    c.after.result
    c.args.machine.now c.put_off.new.machine c.in-Ok.ensures.readied
    (from_waiting c.after.result c.args.machine.now c.later.new.machine c.put_off.new.machine
    (λ m w. puts_off it m.current.frames m) c.later.ensures.others
    (done_or_wants c.put_off.result c.after.result c.later.new.machine c.put_off.new.machine
    (λ w. puts_off it (machine_of c.later.new.machine).current.frames (machine_of c.later.new.machine))
    c.after.ensures.ok
    c.after.ensures.err
    (λ w within. with_current_in w c.later.new.machine c.put_off.new.machine c.put_off.new.machine.current
    c.put_off.ensures.others within) (λ w within. c.put_off.ensures.put)))

pub returns-in-Err : goal.returns-in-Err
returns-in-Err c =
    unlater c.in-Err.met
    (λ w. readied w (machine_of c.args.machine.now) c.args.call.now.callee c.args.call.now.arguments.items)
    (λ it w. puts_off it (machine_of c.args.machine.now).current.frames (machine_of c.args.machine.now)) c.meet.result
    c.args.machine.now c.later.new.machine c.meet.new.self c.later.ensures.others c.meet.ensures
    c.in-Err.ensures.readied
