use Rattle.ssa_mean.proofs.Sampled.{fault_run}
use Rattle.ssa_mean.proofs.laws.faults_unwind.Goals as goal

pub returns : goal.returns
returns c = fault_run
