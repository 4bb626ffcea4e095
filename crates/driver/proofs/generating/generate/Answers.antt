use Rattle.driver.proofs.Generated.{generated_comes, generated_stop_comes}
use Rattle.driver.proofs.generating.generate.Goals as goal

pub returns-in-Ok-clause-comes : goal.returns-in-Ok-clause-comes
returns-in-Ok-clause-comes g c =
    generated_comes c.args.count c.in-Ok.ending _ _ c.in-Ok.ensures.does

pub returns-in-Err-clause-comes : goal.returns-in-Err-clause-comes
returns-in-Err-clause-comes g c =
    generated_stop_comes c.args.count c.in-Err.stop c.outcome.result _ _ c.outcome.ensures c.in-Err.ensures.does
