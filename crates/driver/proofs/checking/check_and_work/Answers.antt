use Rattle.go_sources.specs.Sources.{files_of}
use Rattle.driver.proofs.Checked.{refusal_comes, wants_comes}
use Rattle.program_work.specs.Working.{IsResult}
use Rattle.driver.proofs.checking.check_and_work.Goals as goal

pub returns-in-Err-Refused-clause-comes : goal.returns-in-Err-Refused-clause-comes
returns-in-Err-Refused-clause-comes g c = refusal_comes c.args.command.now (files_of c.args.sources.now) c.refused.result _ c.refused.ensures

pub returns-in-Err-OutOfMemory-clause-comes : goal.returns-in-Err-OutOfMemory-clause-comes
returns-in-Err-OutOfMemory-clause-comes g c = wants_comes (λ whole. IsResult whole c.args.command.now (files_of c.args.sources.now)) _
