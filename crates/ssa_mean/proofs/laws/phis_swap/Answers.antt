use Rattle.ssa_mean.proofs.HandMade.{swap_run, swap_bound}
use Rattle.ssa_mean.proofs.laws.phis_swap.Goals as goal

pub returns-clause-swapped : goal.returns-clause-swapped
returns-clause-swapped c = swap_run

pub returns-clause-bound : goal.returns-clause-bound
returns-clause-bound c = swap_bound
