use Rattle.typed_parts.proofs.Turns.{nothing}
use Rattle.typed_primaries.specs.Listing.{IsOneInto}
use Rattle.typed_primaries.proofs.Lists.{goes}
use Rattle.typed_primaries.proofs.listing.value_into.Goals as goal

pub returns-in-Some : goal.returns-in-Some
returns-in-Some c =
    goes c.args.ground.now c.single-value.new.ground c.going.new.ground c.args.target c.args.value c.in-Some.value c.single-value.result c.going.result
    c.in-Some.is c.single-value.ensures.answer c.single-value.ensures.broken c.going.ensures

pub returns-in-None : goal.returns-in-None
returns-in-None c = nothing c.args.ground.now (IsOneInto c.args.target) c.args.value c.in-None.is
