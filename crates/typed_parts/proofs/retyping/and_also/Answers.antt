use Rattle.go_tree.specs.declared.exprs.ExprKind.TheVariants as kinds
use Rattle.typed_parts.specs.Joining.{both}
use Rattle.typed_parts.proofs.InBoxes.{two_made, two_not_made}
use Rattle.typed_parts.proofs.retyping.and_also.Goals as goal

pub returns-in-Some : goal.returns-in-Some
returns-in-Some c =
    two_made c.args.at c.args.of kinds.AndAlso (both c.args.left c.args.right) c.boxed_both.result _ c.in-Some.left c.in-Some.right
    c.node.result c.boxed_both.ensures c.in_ok-left.was c.in-Some.is c.node.ensures

pub returns-in-None : goal.returns-in-None
returns-in-None c =
    two_not_made c.args.at c.args.of kinds.AndAlso (both c.args.left c.args.right) c.boxed_both.result _
    c.boxed_both.ensures c.in_ok-left.was c.in-None.is
