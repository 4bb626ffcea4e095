use Rattle.std.proofs.Common.{rules}
use Rattle.typed_primaries.proofs.Lists.{part_anywhere, part_nowhere}
use Rattle.typed_primaries.proofs.listing.part_into.Goals as goal

pub returns-in-Any : goal.returns-in-Any
returns-in-Any c =
    part_anywhere c.args.ground.now c.args.at c.args.number c.args.of c.args.target c.node.result c.in-Any.is (search rules)

pub returns-in-Unsound : goal.returns-in-Unsound
returns-in-Unsound c = part_nowhere c.args.ground.now c.args.at c.args.number c.args.of c.args.target c.in-Unsound.is
