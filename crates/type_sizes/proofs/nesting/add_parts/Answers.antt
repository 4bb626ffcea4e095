use Rattle.go_type.proofs.Spots.{each_turn}
use Rattle.type_sizes.specs.Nesting.{whole}
use Rattle.type_sizes.proofs.nesting.add_parts.Goals as goal

pub loop-id-preserved : goal.loop-id-preserved
loop-id-preserved c =
    each_turn (whole c.args.types.now) c.args.parts.now.items c.loop-id.parts.items c.add_part.new.parts.items c.args.ids.now c.loop-id.id-index _ c.loop-id-test.true
    c.loop-id.invariant c.in_ok-add_part.ensures
