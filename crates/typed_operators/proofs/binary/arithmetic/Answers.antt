use Rattle.typed_operators.specs.Binary.{IsOperated, arithmetic_operands}
use Rattle.go_type.specs.Table.{Table}
use Rattle.typed_operators.proofs.Operating.{exact_nothing, exact_then}
use Rattle.typed_operators.proofs.binary.arithmetic.Goals as goal

pub returns-in-Some : goal.returns-in-Some
returns-in-Some c =
    exact_then c.args.ground.now c.arithmetic_operands.new.ground c.operated.new.ground (arithmetic_operands c.args.ground.now.types c.args.op c.args.x c.args.y) (λ (types : Table). IsOperated types c.args.op) c.arithmetic_operands.result c.in-Some.operands
    c.operated.result c.arithmetic_operands.ensures.answer c.arithmetic_operands.ensures.broken c.in-Some.is c.operated.ensures

pub returns-in-None : goal.returns-in-None
returns-in-None c =
    exact_nothing c.args.ground.now c.arithmetic_operands.new.ground (arithmetic_operands c.args.ground.now.types c.args.op c.args.x c.args.y) (λ (types : Table). IsOperated types c.args.op) c.arithmetic_operands.result c.arithmetic_operands.ensures.answer
    c.arithmetic_operands.ensures.broken c.in-None.is
