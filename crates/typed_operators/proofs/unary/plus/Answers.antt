use Rattle.std.proofs.Common.{◌∙◌, sym}
use Rattle.typed_operators.proofs.Operating.{plus_same, plus_value}
use Rattle.typed_operators.proofs.unary.plus.Goals as goal

pub returns-then-is_plain : goal.returns-then-is_plain
returns-then-is_plain c =
    plus_same c.args.ground.now.types c.args.at c.args.x c.placed.result (sym c.is_plain.ensures ∙ c.if-is_plain.true) c.placed.ensures

pub returns-else-is_plain : goal.returns-else-is_plain
returns-else-is_plain c =
    plus_value c.args.ground.now.types c.args.at c.args.x c.converted.result (sym c.is_plain.ensures ∙ c.if-is_plain.false) c.converted.ensures
