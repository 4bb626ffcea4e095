use Rattle.ssa_mean.proofs.Decoded.{first_rune_one, runes_one}
use Rattle.ssa_mean.proofs.laws.runes_are_one.Goals as goal

pub returns-clause-first : goal.returns-clause-first
returns-clause-first c = first_rune_one

pub returns-clause-all : goal.returns-clause-all
returns-clause-all c = runes_one
