use Rattle.value_laws.proofs.OneZero.{kept, one}
use Rattle.value_laws.proofs.one_zero.Goals as goal

pub returns-clause-kept : goal.returns-clause-kept
returns-clause-kept c = kept

pub returns-clause-one : goal.returns-clause-one
returns-clause-one c = one
