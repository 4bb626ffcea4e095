use Rattle.ssa_mean.proofs.Tied.{appends_one}
use Rattle.ssa_mean.proofs.laws.appends_are_one.Goals as goal

pub returns : goal.returns
returns c = appends_one
