use Rattle.std.proofs.Common.{ap, sym}
use Rattle.go_sched.specs.declared.scheduling.Point.TheVariants as point
use Rattle.interp_calls.proofs.Calls.{through}
use Rattle.interp_calls.proofs.Frames.{within_goroutines}
use Rattle.interp_calls.proofs.calling.start.Goals as goal
use Rattle.interp_state.specs.Machines.{later_of, machine_of}
use Rattle.plan_mean.specs.Step.{starts_call}
use Rattle.plan_mean.specs.Unwinding.{switches}

pub returns-in-Ok : goal.returns-in-Ok
returns-in-Ok c =
    through c.switch.result c.args.machine.now c.add.new.machine c.switch.new.machine
    (λ w. starts_call w (machine_of c.args.machine.now) (later_of c.args.later))
    (λ w. switches w point.After (machine_of c.add.new.machine))
    (λ w within. within_goroutines w c.args.machine.now c.add.new.machine c.add.ensures.others within)
    (λ w within. ap (switches w point.After) (sym c.in-Ok.ensures.added)) c.switch.ensures
