use Rattle.typed_primaries.proofs.Slices.{array_operand, plain_operand}
use Rattle.typed_parts.specs.Joining.{sound}
use Rattle.typed_primaries.proofs.slicing.slice_operand.Goals as goal

pub returns-then-is_array : goal.returns-then-is_array
returns-then-is_array c =
    array_operand c.args.ground.now c.address.new.ground c.args.shape c.args.expr c.is_array.result (sound c.address.result)
    c.is_array.ensures c.if-is_array.true c.address.ensures

pub returns-else-is_array : goal.returns-else-is_array
returns-else-is_array c =
    plain_operand c.args.ground.now c.args.shape c.args.expr c.is_array.result c.is_array.ensures c.if-is_array.false
