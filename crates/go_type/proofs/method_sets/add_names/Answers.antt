use Rattle.std.proofs.Common.{refl}
use Rattle.std.proofs.Math.ListN.{get_or}
use Rattle.go_type.specs.MethodSets.{offers}
use Rattle.go_type.proofs.Names.{any_turn}
use Rattle.go_type.proofs.method_sets.add_names.Goals as goal

pub loop-spot-preserved : goal.loop-spot-preserved
loop-spot-preserved c = λ wanted.
    any_turn (λ spot. offers c.args.types.now wanted spot.of) c.args.spots.now c.loop-spot.spot-index _ (get_or c.args.spots.now c.loop-spot.spot-index _) _ _ _ c.loop-spot-test.true refl
    (c.loop-spot.invariant wanted) (c.in_ok-add_names_of.ensures wanted)
