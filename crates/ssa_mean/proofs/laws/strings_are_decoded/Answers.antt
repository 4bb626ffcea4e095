use Rattle.ssa_mean.proofs.Sampled.{range_run}
use Rattle.ssa_mean.proofs.laws.strings_are_decoded.Goals as goal

pub returns : goal.returns
returns c = range_run
