use Rattle.go_tree.specs.declared.exprs.ExprKind.TheVariants as kinds
use Rattle.typed_operators.proofs.Operating.{on_one}
use Rattle.typed_operators.proofs.unary.pointer_to.Goals as goal

pub returns : goal.returns
returns c =
    on_one c.args.at c.args.pointer kinds.AddressOf c.args.x c.in_ok-operand.operand c.node.result c.in_ok-operand.ensures c.node.ensures
