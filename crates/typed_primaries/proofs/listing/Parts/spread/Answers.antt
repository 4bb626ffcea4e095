use Rattle.std.proofs.Common.{◌∙◌, sym}
use Rattle.typed_primaries.proofs.Lists.{told_not_spread, told_spread}
use Rattle.typed_primaries.proofs.listing.Parts.spread.Goals as goal

pub returns-in-Some-clause-values : goal.returns-in-Some-clause-values
returns-in-Some-clause-values c =
    told_spread c.args.tuple c.in-Some.tuple c.in-Some.parts c.args.self.values (sym c.zip.ensures ∙ c.in-Some.is)

pub returns-in-None-clause-values : goal.returns-in-None-clause-values
returns-in-None-clause-values c = told_not_spread c.args.tuple c.args.self.values (sym c.zip.ensures ∙ c.in-None.is)
