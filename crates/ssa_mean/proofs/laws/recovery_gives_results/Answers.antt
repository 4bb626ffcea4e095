use Rattle.ssa_mean.proofs.HandMade.{recover_run}
use Rattle.ssa_mean.proofs.laws.recovery_gives_results.Goals as goal

pub returns : goal.returns
returns c = recover_run
