use Rattle.ssa_mean.proofs.HandMade.{go_run, go_choice}
use Rattle.ssa_mean.proofs.laws.choices_decide.Goals as goal

pub returns-clause-none : goal.returns-clause-none
returns-clause-none c = go_run

pub returns-clause-one : goal.returns-clause-one
returns-clause-one c = go_choice
