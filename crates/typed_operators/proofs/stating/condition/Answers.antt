use Rattle.typed_parts.specs.Adapting.{IsByDefault}
use Rattle.typed_operators.specs.Stating.{condition_value}
use Rattle.go_type.specs.Table.{Table}
use Rattle.typed_operators.proofs.Operating.{exact_rest}
use Rattle.typed_operators.proofs.stating.condition.Goals as goal

pub returns : goal.returns
returns c =
    exact_rest c.args.ground.now c.condition_value-x.new.ground c.by_default.new.ground (condition_value c.args.ground.now.types c.args.x) (λ (types : Table). IsByDefault types) c.condition_value-x.result
    c.by_default.result c.condition_value-x.ensures.answer c.condition_value-x.ensures.broken c.by_default.ensures
