use Rattle.program_work.proofs.Working.{has_run}
use Rattle.program_work.proofs.work.run_code.Goals as goal

pub returns-clause-ran : goal.returns-clause-ran
returns-clause-ran g c =
    has_run c.args.code.now c.args.choices.now c.args.bound c.in_ok-ending.ending (g.O.Sink.written c.args.out.now) (g.O.Sink.written c.run.new.out) c.requires.sound c.in_ok-ending.ensures.told c.in_ok-ending.ensures.written
