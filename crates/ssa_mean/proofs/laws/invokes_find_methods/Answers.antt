use Rattle.ssa_mean.proofs.Sampled.{invoke_run}
use Rattle.ssa_mean.proofs.laws.invokes_find_methods.Goals as goal

pub returns : goal.returns
returns c = invoke_run
