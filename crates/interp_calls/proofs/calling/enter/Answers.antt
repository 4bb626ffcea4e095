use Rattle.std.proofs.Common.{refl}
use Rattle.interp_calls.proofs.Frames.{entered_with}
use Rattle.interp_calls.proofs.calling.enter.Goals as goal
use Rattle.interp_calls.specs.Ways.{entry_with, on_way}
use Rattle.interp_state.specs.Machines.{free_of}

pub returns-in-Ok : goal.returns-in-Ok
returns-in-Ok c =
    let admitted =
    c.in-Ok.ensures.admitted (entry_with c.args.number (free_of c.args.bound) (on_way c.args.machine.now) c.args.manner)
    refl refl refl in
    entered_with c.in-Ok.function.now c.args.number c.args.manner (free_of c.args.bound) c.make_frame.result
    c.after.result
    c.args.machine.now c.admitted.new.machine c.make_frame.new.machine admitted
    (c.make_frame.ensures.pushed admitted.room)
    c.make_frame.ensures.others c.after.ensures.ok c.after.ensures.err

pub returns-in-Err : goal.returns-in-Err
returns-in-Err c =
    c.in-Err.ensures.done (entry_with c.args.number (free_of c.args.bound) (on_way c.args.machine.now) c.args.manner)
    refl refl refl
