use Rattle.typed_operators.specs.Binary.{IsJoined, logic_operands}
use Rattle.go_type.specs.Table.{Table}
use Rattle.typed_operators.proofs.Operating.{exact_nothing, exact_then}
use Rattle.typed_operators.proofs.binary.logical.Goals as goal

pub returns-in-Some : goal.returns-in-Some
returns-in-Some c =
    exact_then c.args.ground.now c.logic_operands.new.ground c.joined.new.ground (logic_operands c.args.ground.now.types c.args.x c.args.y) (λ (types : Table). IsJoined types c.args.op) c.logic_operands.result c.in-Some.operands
    c.joined.result c.logic_operands.ensures.answer c.logic_operands.ensures.broken c.in-Some.is c.joined.ensures

pub returns-in-None : goal.returns-in-None
returns-in-None c =
    exact_nothing c.args.ground.now c.logic_operands.new.ground (logic_operands c.args.ground.now.types c.args.x c.args.y) (λ (types : Table). IsJoined types c.args.op) c.logic_operands.result c.logic_operands.ensures.answer
    c.logic_operands.ensures.broken c.in-None.is
