use Rattle.typed_primaries.proofs.Lists.{told_each, told_not_each}
use Rattle.typed_primaries.proofs.listing.Parts.each.Goals as goal

pub returns-in-Some-clause-values : goal.returns-in-Some-clause-values
returns-in-Some-clause-values c = told_each c.in-Some.values c.args.self.values c.in-Some.is

pub returns-in-None-clause-values : goal.returns-in-None-clause-values
returns-in-None-clause-values c = told_not_each c.args.self.values c.in-None.is
