use Rattle.typed_operators.specs.Unary.{IsSignedAs, signed}
use Rattle.go_type.specs.Table.{Table}
use Rattle.typed_operators.proofs.Operating.{exact_nothing, exact_then}
use Rattle.typed_operators.proofs.unary.sign.Goals as goal

pub returns-in-Some : goal.returns-in-Some
returns-in-Some c =
    exact_then c.args.ground.now c.signed.new.ground c.signed_as.new.ground (signed c.args.ground.now.types c.args.x) (λ (types : Table). IsSignedAs types c.args.at c.args.op) c.signed.result c.in-Some.x
    c.signed_as.result c.signed.ensures.answer c.signed.ensures.broken c.in-Some.is c.signed_as.ensures

pub returns-in-None : goal.returns-in-None
returns-in-None c =
    exact_nothing c.args.ground.now c.signed.new.ground (signed c.args.ground.now.types c.args.x) (λ (types : Table). IsSignedAs types c.args.at c.args.op) c.signed.result c.signed.ensures.answer
    c.signed.ensures.broken c.in-None.is
