use Rattle.std.proofs.Common.{map}
use Rattle.go_sched.specs.Operations.{woken_of}
use Rattle.interp_builtins.proofs.Outcomes.{all_completed}
use Rattle.interp_builtins.proofs.channels.completed.Goals as goal

pub returns-in-Ok : goal.returns-in-Ok
returns-in-Ok c =
    all_completed c.switch.result c.args.machine.now c.wake_all.new.machine c.switch.new.machine
    (map woken_of c.args.wakes) c.in-Ok.ensures.woken c.wake_all.ensures.others c.switch.ensures
