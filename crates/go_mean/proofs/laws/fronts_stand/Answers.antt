use Rattle.go_mean.proofs.Fronts.{fronts_stand}
use Rattle.go_mean.proofs.laws.fronts_stand.Goals as goal

pub returns : goal.returns
returns c = fronts_stand
