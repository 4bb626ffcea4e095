use Rattle.typed_parts.specs.Meanings.{one_value}
use Rattle.typed_operators.specs.Unary.{IsIndirect}
use Rattle.go_type.specs.Table.{Table}
use Rattle.typed_operators.proofs.Operating.{exact_nothing, exact_then}
use Rattle.typed_operators.proofs.unary.dereference.Goals as goal

pub returns-in-Some : goal.returns-in-Some
returns-in-Some c =
    exact_then c.args.ground.now c.one_value.new.ground c.indirect.new.ground (one_value c.args.ground.now.types c.args.x) (λ (types : Table). IsIndirect types c.args.at) c.one_value.result c.in-Some.x
    c.indirect.result c.one_value.ensures.answer c.one_value.ensures.broken c.in-Some.is c.indirect.ensures

pub returns-in-None : goal.returns-in-None
returns-in-None c =
    exact_nothing c.args.ground.now c.one_value.new.ground (one_value c.args.ground.now.types c.args.x) (λ (types : Table). IsIndirect types c.args.at) c.one_value.result c.one_value.ensures.answer
    c.one_value.ensures.broken c.in-None.is
