use Rattle.typed_primaries.proofs.Slices.{array_type, plain_type}
use Rattle.typed_parts.specs.Joining.{sound}
use Rattle.typed_primaries.proofs.slicing.slice_type.Goals as goal

pub returns-in-Some : goal.returns-in-Some
returns-in-Some c =
    array_type c.args.ground.now c.array_slice.new.ground c.args.shape c.args.of c.in-Some.elem c.array_elem.result (sound c.array_slice.result)
    c.array_elem.ensures c.in-Some.is c.array_slice.ensures

pub returns-in-None : goal.returns-in-None
returns-in-None c =
    plain_type c.args.ground.now c.args.shape c.args.of c.array_elem.result c.plain_base.result c.array_elem.ensures c.in-None.is
    c.plain_base.ensures
