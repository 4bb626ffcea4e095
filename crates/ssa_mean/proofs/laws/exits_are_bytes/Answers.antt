use Rattle.ssa_mean.proofs.Sampled.{exit_run}
use Rattle.ssa_mean.proofs.laws.exits_are_bytes.Goals as goal

pub returns : goal.returns
returns c = exit_run
