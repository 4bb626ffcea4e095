use Rattle.std.proofs.Common.{map}
use Rattle.go_sched.specs.Operations.{woken_of}
use Rattle.interp_builtins.proofs.Outcomes.{completes_ok}
use Rattle.interp_builtins.proofs.channels.complete_with.Goals as goal

pub returns-in-Ok : goal.returns-in-Ok
returns-in-Ok c =
    completes_ok c.args.to c.args.given c.in-Ok.value (map woken_of c.args.wakes) c.completed.result c.args.machine.now
    c.set.new.self c.completed.new.machine c.in-Ok.is c.set.ensures c.completed.ensures
