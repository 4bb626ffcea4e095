use Rattle.go_sources.specs.Sources.{files_of}
use Rattle.driver.proofs.Checked.{lost_comes, wants_comes}
use Rattle.program_work.specs.Working.{IsResult}
use Rattle.driver.proofs.checking.test_and_work.Goals as goal

pub returns-in_default-clause-comes : goal.returns-in_default-clause-comes
returns-in_default-clause-comes g c = wants_comes (λ whole. IsResult whole c.args.command.now (files_of c.args.sources.now)) _

pub returns-then-not-typed-clause-comes : goal.returns-then-not-typed-clause-comes
returns-then-not-typed-clause-comes g c =
    lost_comes (λ whole. IsResult whole c.args.command.now (files_of c.args.sources.now)) c.lost.result _ c.lost.ensures

pub work_checked-requires : goal.work_checked-requires
work_checked-requires g c = c.in-Ok.ensures.typed c.if-not-typed.false
