use Rattle.plan_mean.proofs.Fronts.{fronts}
use Rattle.plan_mean.proofs.laws.fronts_stand.Goals as goal

pub returns : goal.returns
returns c = fronts
