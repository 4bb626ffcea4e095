use Rattle.typed_operators.specs.Stating.{IsConstantAs, one_constant}
use Rattle.go_type.specs.Table.{Table}
use Rattle.typed_operators.proofs.Operating.{exact_nothing, exact_then}
use Rattle.typed_operators.proofs.stating.constant_value.Goals as goal

pub returns-in-Some : goal.returns-in-Some
returns-in-Some c =
    exact_then c.args.ground.now c.one_constant.new.ground c.constant_as.new.ground (one_constant c.args.ground.now.types c.args.x) (λ (types : Table). IsConstantAs types c.args.to) c.one_constant.result c.in-Some.x
    c.constant_as.result c.one_constant.ensures.answer c.one_constant.ensures.broken c.in-Some.is c.constant_as.ensures

pub returns-in-None : goal.returns-in-None
returns-in-None c =
    exact_nothing c.args.ground.now c.one_constant.new.ground (one_constant c.args.ground.now.types c.args.x) (λ (types : Table). IsConstantAs types c.args.to) c.one_constant.result c.one_constant.ensures.answer
    c.one_constant.ensures.broken c.in-None.is
