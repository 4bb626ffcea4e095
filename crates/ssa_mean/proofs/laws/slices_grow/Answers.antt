use Rattle.ssa_mean.proofs.Sampled.{append_run}
use Rattle.ssa_mean.proofs.laws.slices_grow.Goals as goal

pub returns : goal.returns
returns c = append_run
