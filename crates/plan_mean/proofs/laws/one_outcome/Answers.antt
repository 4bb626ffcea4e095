use Rattle.plan_mean.proofs.Outcomes.{one_outcome_lem}
use Rattle.plan_mean.proofs.laws.one_outcome.Goals as goal

pub returns : goal.returns
returns c = one_outcome_lem
