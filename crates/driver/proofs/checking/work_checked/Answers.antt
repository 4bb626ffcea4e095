use Rattle.go_sources.specs.Sources.{files_of}
use Rattle.driver.proofs.Checked.{refusal_comes, served_comes}
use Rattle.driver.proofs.checking.work_checked.Goals as goal

pub returns-then-lacks_main-clause-comes : goal.returns-then-lacks_main-clause-comes
returns-then-lacks_main-clause-comes g c =
    refusal_comes c.args.command.now (files_of c.args.sources.now) c.refused.result _ c.refused.ensures

pub returns-clause-comes : goal.returns-clause-comes
returns-clause-comes g c =
    served_comes c.args.command.now (files_of c.args.sources.now) c.args.program.now c.work_on.result _ _ c.requires c.work_on.ensures.comes
