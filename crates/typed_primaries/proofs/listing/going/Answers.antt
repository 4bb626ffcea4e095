use Rattle.typed_primaries.proofs.Lists.{going_nowhere}
use Rattle.typed_primaries.proofs.listing.going.Goals as goal

pub returns-in-Unsound : goal.returns-in-Unsound
returns-in-Unsound c = going_nowhere c.args.ground.now c.args.target c.args.value c.in-Unsound.is
