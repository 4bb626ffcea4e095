use Rattle.go_type.proofs.Spots.{each_turn}
use Rattle.type_sizes.specs.Nesting.{whole}
use Rattle.type_sizes.proofs.nesting.add_methods.Goals as goal

pub loop-method-preserved : goal.loop-method-preserved
loop-method-preserved c =
    each_turn (λ method. whole c.args.types.now method.of) c.args.parts.now.items c.loop-method.parts.items c.add_part.new.parts.items c.args.methods.now c.loop-method.method-index _ c.loop-method-test.true
    c.loop-method.invariant c.in_ok-add_part.ensures
