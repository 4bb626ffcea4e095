use Rattle.ssa_mean.proofs.HandMade.{map_run}
use Rattle.ssa_mean.proofs.laws.ranges_choose.Goals as goal

pub returns : goal.returns
returns c = map_run
