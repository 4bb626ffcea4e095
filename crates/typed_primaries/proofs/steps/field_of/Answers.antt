use Rattle.std.proofs.Common.{◌∙◌, sym}
use Rattle.typed_primaries.proofs.Stepping.{field_made}
use Rattle.typed_primaries.proofs.steps.field_of.Goals as goal

pub returns : goal.returns
returns c =
    field_made c.args.ground.now.types c.args.expr c.in_ok-expr.expr c.in_ok-of.expr c.node.result c.args.field c.field_type-of.result
    c.in_ok-of.of c.in_ok-operand.operand c.in_ok-expr.ensures c.field_type-of.ensures (sym c.beside.ensures ∙ c.in_ok-of.was)
    c.in_ok-operand.ensures c.node.ensures
