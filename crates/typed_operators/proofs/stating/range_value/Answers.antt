use Rattle.typed_parts.specs.declared.meaning.Given.{Given}
use Rattle.typed_parts.specs.Shapes.{is_untyped_text}
use Rattle.typed_parts.specs.Wholes.{IsTextWhere}
use Rattle.typed_parts.specs.Meanings.{one_value}
use Rattle.go_type.specs.Table.{Table}
use Rattle.typed_operators.proofs.Operating.{exact_rest}
use Rattle.typed_operators.proofs.stating.range_value.Goals as goal

pub returns : goal.returns
returns c =
    exact_rest c.args.ground.now c.one_value-x.new.ground c.with_text_type.new.ground (one_value c.args.ground.now.types c.args.x) (λ (types : Table). λ (given : Given). IsTextWhere types given (is_untyped_text types given.expr.of)) c.one_value-x.result
    c.with_text_type.result c.one_value-x.ensures.answer c.one_value-x.ensures.broken c.with_text_type.ensures
