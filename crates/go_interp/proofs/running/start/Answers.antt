use Rattle.go_interp.proofs.Driven.{first_from}
use Rattle.go_sched.specs.Goroutines.{state_of}
use Rattle.go_interp.proofs.running.start.Goals as goal

pub returns-in-Ok : goal.returns-in-Ok
returns-in-Ok c =
    first_from c.args.code.now c.args.plan.now c.args.choices.now c.args.bound (state_of c.in_ok-sched.sched) c.bare-machine.result
    c.make_ready.new.machine c.bare-machine.ensures c.in_ok-sched.ensures c.in-Ok.ensures.cells c.in-Ok.ensures.goroutine
    c.make_ready.ensures.others
