use Rattle.typed_operators.specs.Unary.{IsPlus}
use Rattle.typed_parts.proofs.Steps.{fine_made}
use Rattle.typed_operators.proofs.Operating.{signed_plus}
use Rattle.typed_operators.proofs.unary.signed_as.Goals as goal

pub returns-in-Plus : goal.returns-in-Plus
returns-in-Plus c =
    signed_plus c.args.ground.now c.args.at c.args.op c.args.x c.sound.result c.in-Plus.is
    (fine_made c.args.ground.now (IsPlus c.args.ground.now.types c.args.at c.args.x.expr) c.plus.result c.sound.result c.plus.ensures c.sound.ensures)
