use Rattle.typed_parts.specs.Adapting.{IsByDefault}
use Rattle.typed_parts.specs.Meanings.{one_value}
use Rattle.go_type.specs.Table.{Table}
use Rattle.typed_operators.proofs.Operating.{exact_rest}
use Rattle.typed_operators.proofs.stating.switch_tag.Goals as goal

pub returns : goal.returns
returns c =
    exact_rest c.args.ground.now c.one_value-x.new.ground c.by_default.new.ground (one_value c.args.ground.now.types c.args.x) (λ (types : Table). IsByDefault types) c.one_value-x.result
    c.by_default.result c.one_value-x.ensures.answer c.one_value-x.ensures.broken c.by_default.ensures
