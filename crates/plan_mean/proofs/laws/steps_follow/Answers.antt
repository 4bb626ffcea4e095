use Rattle.plan_mean.proofs.Fronts.{follow}
use Rattle.plan_mean.proofs.laws.steps_follow.Goals as goal

pub returns : goal.returns
returns c = follow
