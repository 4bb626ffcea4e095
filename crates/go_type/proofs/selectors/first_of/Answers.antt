use Rattle.go_type.specs.Levels.{found_of}
use Rattle.go_type.proofs.Spots.{two_first}
use Rattle.go_type.proofs.selectors.first_of.Goals as goal

pub returns : goal.returns
returns c =
    two_first (found_of c.args.levels.now) c.args.found.now _ _ c.in-Ok.first c.in-Ok-member_of.second c.requires c.if-found-eq1.false c.in-Ok.ensures c.in-Ok-member_of.ensures
