use Rattle.plan_laws.proofs.Ends.{one_run_lem}
use Rattle.plan_laws.proofs.laws.one_run.Goals as goal

pub returns : goal.returns
returns c = one_run_lem
