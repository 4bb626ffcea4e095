use Rattle.go_tree.specs.declared.exprs.ExprKind.TheVariants as kinds
use Rattle.typed_parts.proofs.InBoxes.{one_made, one_not_made}
use Rattle.typed_parts.proofs.retyping.unary_of.Goals as goal

pub returns-in-Some : goal.returns-in-Some
returns-in-Some c =
    one_made c.args.at c.args.of (kinds.UnaryOf c.args.op) c.args.operand c.boxed_sound.result _ c.in-Some.operand c.node.result
    c.boxed_sound.ensures c.in_ok-operand.was c.in-Some.is c.node.ensures

pub returns-in-None : goal.returns-in-None
returns-in-None c =
    one_not_made c.args.at c.args.of (kinds.UnaryOf c.args.op) c.args.operand c.boxed_sound.result _
    c.boxed_sound.ensures c.in_ok-operand.was c.in-None.is
