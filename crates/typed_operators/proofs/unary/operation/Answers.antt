use Rattle.std.proofs.Common.{◌∙◌, sym}
use Rattle.typed_operators.proofs.Operating.{operation_folded, operation_made}
use Rattle.typed_operators.proofs.unary.operation.Goals as goal

pub returns-then-is_constant : goal.returns-then-is_constant
returns-then-is_constant c =
    operation_folded c.args.ground.now c.folded-value.new.ground c.args.at c.args.op c.args.x c.folded-value.result (cc)
    c.folded-value.ensures.answer c.folded-value.ensures.broken

pub returns-else-is_constant : goal.returns-else-is_constant
returns-else-is_constant c =
    operation_made c.args.ground.now c.args.at c.args.op c.args.x c.operated.result c.sound.result (cc) c.operated.ensures c.sound.ensures
