use Rattle.typed_operators.proofs.Compared.{shift_comes}
use Rattle.typed_operators.proofs.shifting.shift_operands.Goals as goal

pub returns : goal.returns
returns c =
    shift_comes c.args.ground.now c.args.x c.args.y c.one_value-x.new.ground c.one_value-y.new.ground c.shifted_operand-x.new.ground c.shift_count-count.new.ground
    c.one_value-x.result c.one_value-y.result c.shifted_operand-x.result c.shift_count-count.result c.both.result
    c.one_value-x.ensures.answer c.one_value-x.ensures.broken c.one_value-y.ensures.answer c.one_value-y.ensures.broken
    c.shifted_operand-x.ensures.answer c.shifted_operand-x.ensures.broken c.shift_count-count.ensures c.both.ensures
