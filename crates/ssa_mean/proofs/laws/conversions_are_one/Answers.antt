use Rattle.ssa_mean.proofs.Converted.{texts_one, slices_one}
use Rattle.ssa_mean.proofs.laws.conversions_are_one.Goals as goal

pub returns-clause-texts : goal.returns-clause-texts
returns-clause-texts c = texts_one

pub returns-clause-slices : goal.returns-clause-slices
returns-clause-slices c = slices_one
