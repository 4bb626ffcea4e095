use Rattle.typed_operators.proofs.Compared.{constant_typed, constant_untyped}
use Rattle.typed_operators.proofs.stating.constant_as.Goals as goal

pub returns-in-Some : goal.returns-in-Some
returns-in-Some c =
    constant_typed c.args.ground.now c.typed_constant.new.ground c.args.to c.in-Some.to c.args.x c.typed_constant.result c.in-Some.is c.typed_constant.ensures

pub returns-in-None : goal.returns-in-None
returns-in-None c =
    constant_untyped c.args.ground.now c.args.to c.args.x c.in-None.is
