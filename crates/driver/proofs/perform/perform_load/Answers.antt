use Rattle.driver.proofs.Answering.{works_answers, stopped_answers}
use Rattle.driver.proofs.perform.perform_load.Goals as goal

pub returns-in-Ok-clause-answers : goal.returns-in-Ok-clause-answers
returns-in-Ok-clause-answers g c = λ words asked.
    works_answers words (g.F.Files.tree c.args.files.now) c.args.command.now c.in-Ok.sources c.check_and_work.result _ _ asked c.in-Ok.ensures.loaded c.check_and_work.ensures.comes

pub returns-in-Err-clause-answers : goal.returns-in-Err-clause-answers
returns-in-Err-clause-answers g c = λ words asked.
    stopped_answers words (g.F.Files.tree c.args.files.now) c.args.command.now c.in-Err.error c.stopped.result _ asked c.in-Err.ensures.stopped c.stopped.ensures
