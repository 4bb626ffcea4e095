use Rattle.std.proofs.Common.{◌≡◌, None, Some, subst}
use Rattle.std.specs.Prelude.{IfSome}
use Rattle.cg_numbers.specs.Numbered.{IsAt}
use Rattle.cg_sets.proofs.implementing.Implementing.find.Goals as goal

pub returns-in-Some-clause-place : goal.returns-in-Some-clause-place
returns-in-Some-clause-place c = c.in-Some.ensures.some

pub returns-in-None-clause-found : goal.returns-in-None-clause-found
returns-in-None-clause-found c = λ p classes found. c.find_new.ensures.found (c.place_of.ensures.none c.in-None.is) p classes found

pub returns-in-None-clause-place : goal.returns-in-None-clause-place
returns-in-None-clause-place c = c.find_new.ensures.place (c.place_of.ensures.none c.in-None.is)
