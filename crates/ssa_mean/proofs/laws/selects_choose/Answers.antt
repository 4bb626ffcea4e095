use Rattle.ssa_mean.proofs.Sampled.{select_first, select_second}
use Rattle.ssa_mean.proofs.laws.selects_choose.Goals as goal

pub returns-clause-first : goal.returns-clause-first
returns-clause-first c = select_first

pub returns-clause-second : goal.returns-clause-second
returns-clause-second c = select_second
