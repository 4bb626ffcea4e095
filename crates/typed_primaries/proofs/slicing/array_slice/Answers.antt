use Rattle.typed_primaries.proofs.Slices.{array_slice_held}
use Rattle.typed_primaries.proofs.slicing.array_slice.Goals as goal

pub returns : goal.returns
returns c =
    array_slice_held c.args.ground.now c.hold.new.self c.args.elem c.in_ok-slice.slice c.hold.result c.in_ok-slice.was
    c.hold.ensures.named c.hold.ensures.held
