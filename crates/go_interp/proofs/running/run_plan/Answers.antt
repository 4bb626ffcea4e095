use Rattle.go_interp.proofs.Driven.{runs_so}
use Rattle.go_interp.proofs.running.run_plan.Goals as goal

pub returns-in-Ok-clause-exact : goal.returns-in-Ok-clause-exact
returns-in-Ok-clause-exact g c =
    runs_so c.drive-ending.result c.args.code.now c.args.plan.now c.args.choices.now c.args.bound c.in-Ok.machine
    (g.O.Sink.written c.args.out.now) (g.O.Sink.written c.drive-ending.new.out) c.in-Ok.ensures c.drive-ending.ensures.exact
