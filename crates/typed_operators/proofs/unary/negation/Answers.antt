use Rattle.typed_parts.specs.declared.meaning.Given.{Given}
use Rattle.go_type.specs.declared.operators.UnaryOp.TheVariants as unary
use Rattle.typed_operators.specs.Unary.{IsOperation, boolean}
use Rattle.go_type.specs.Table.{Table}
use Rattle.typed_operators.proofs.Operating.{exact_nothing, exact_then}
use Rattle.typed_operators.proofs.unary.negation.Goals as goal

pub returns-in-Some : goal.returns-in-Some
returns-in-Some c =
    exact_then c.args.ground.now c.boolean.new.ground c.operation.new.ground (boolean c.args.ground.now.types c.args.x) (λ (types : Table). λ (given : Given). IsOperation types c.args.at unary.Not given.expr) c.boolean.result c.in-Some.x
    c.operation.result c.boolean.ensures.answer c.boolean.ensures.broken c.in-Some.is c.operation.ensures

pub returns-in-None : goal.returns-in-None
returns-in-None c =
    exact_nothing c.args.ground.now c.boolean.new.ground (boolean c.args.ground.now.types c.args.x) (λ (types : Table). λ (given : Given). IsOperation types c.args.at unary.Not given.expr) c.boolean.result c.boolean.ensures.answer
    c.boolean.ensures.broken c.in-None.is
