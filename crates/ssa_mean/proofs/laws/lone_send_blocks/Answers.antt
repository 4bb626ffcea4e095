use Rattle.ssa_mean.proofs.HandMade.{send_run}
use Rattle.ssa_mean.proofs.laws.lone_send_blocks.Goals as goal

pub returns : goal.returns
returns c = send_run
