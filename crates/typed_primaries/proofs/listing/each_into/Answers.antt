use Rattle.std.proofs.Common.{refl, Ok}
use Rattle.typed_primaries.proofs.Lists.{each_comes}
use Rattle.typed_primaries.proofs.listing.each_into.Goals as goal

pub returns : goal.returns
returns c =
    each_comes c.args.ground.now c.each_value.new.ground c.args.targets.now c.args.values.items (Ok c.in_ok-values.values) c.in_ok-values.values
    c.each_listed.result c.in_ok-values.ensures refl c.each_listed.ensures
