use Rattle.go_type.specs.Table.{Table}
use Rattle.typed_operators.specs.Binary.{operands_break}
use Rattle.typed_operators.proofs.Operating.{asked_reported}
use Rattle.typed_operators.proofs.binary.arithmetic_operands.Goals as goal

pub returns-clause-broken : goal.returns-clause-broken
returns-clause-broken c =
    asked_reported c.args.ground.now c.args.x c.args.y (λ (types : Table). operands_break types c.args.op) c.one_value-x.new.ground c.one_value-y.new.ground c.ask_operands-taken.new.ground
    c.one_value-x.result c.one_value-y.result c.one_value-x.ensures.answer c.one_value-x.ensures.broken c.one_value-y.ensures.answer c.one_value-y.ensures.broken c.ask_operands-taken.ensures.broken
