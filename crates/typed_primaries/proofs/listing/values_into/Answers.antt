use Rattle.typed_primaries.specs.Listing.{outlined}
use Rattle.typed_primaries.proofs.Lists.{values_come}
use Rattle.typed_primaries.proofs.listing.values_into.Goals as goal

pub returns : goal.returns
returns c =
    values_come c.args.ground.now c.each_given.new.ground c.givens_into.new.ground c.args.at c.args.values.items c.args.targets.now c.args.with_ok
    c.in_ok-givens.givens.items (outlined c.givens_into.result) c.in_ok-givens.ensures.givens c.in_ok-givens.ensures.broken c.givens_into.ensures
