use Rattle.go_interp.proofs.Told.{told}
use Rattle.go_interp.proofs.running.run.Goals as goal

pub returns-in-Ok-clause-told : goal.returns-in-Ok-clause-told
returns-in-Ok-clause-told g c =
    told c.args.code.now c.in-Ok.plan c.args.choices.now c.args.bound c.in-Ok.ensures c.run_plan-ending.result
    (g.O.Sink.written c.args.out.now) (g.O.Sink.written c.run_plan-ending.new.out) c.run_plan-ending.ensures.exact
