use Rattle.std.proofs.Common.{ap}
use Rattle.typed_parts.specs.Joining.{items_of, listed}
use Rattle.typed_parts.proofs.Turns.{nothing, something}
use Rattle.typed_calls.specs.Packing.{IsPacked}
use Rattle.typed_calls.proofs.packing.packed_sound.Goals as goal

pub returns-in-Some : goal.returns-in-Some
returns-in-Some c =
    something c.args.ground.now c.packed.new.ground (IsPacked c.args.plan) (items_of c.args.values) c.in-Some.values.items (listed c.packed.result)
    (ap items_of c.in-Some.is) c.packed.ensures

pub returns-in-None : goal.returns-in-None
returns-in-None c = nothing c.args.ground.now (IsPacked c.args.plan) (items_of c.args.values) (ap items_of c.in-None.is)
