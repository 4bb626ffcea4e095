use Rattle.std.proofs.Common.{rules}
use Rattle.typed_primaries.specs.Listing.{outlined}
use Rattle.typed_primaries.proofs.Lists.{as_each, as_sole}
use Rattle.typed_primaries.proofs.listing.givens_into.Goals as goal

pub returns-then-len-targets : goal.returns-then-len-targets
returns-then-len-targets c =
    as_each c.args.ground.now c.each_into.new.ground c.args.at c.args.targets.now c.args.with_ok c.args.givens.items (outlined c.each_into.result)
    (search rules) c.each_into.ensures

pub returns-then-len-eq1 : goal.returns-then-len-eq1
returns-then-len-eq1 c =
    as_sole c.args.ground.now c.sole_into.new.ground c.args.at c.args.targets.now c.args.with_ok c.args.givens.items (outlined c.sole_into.result)
    (search rules) (search rules) c.sole_into.ensures
