use Rattle.std.proofs.Common.{sym, arith}
use Rattle.go_fragments.proofs.Variants.{primary}
use Rattle.go_grammar.proofs.Views.{view_expr_unary, view_expr_binary}
use Rattle.go_fragments.proofs.operands.is_primary.Goals as goal

pub returns-in_default : goal.returns-in_default
returns-in_default c = sym (primary c.args.expr.now c.in_default.not-Unary c.in_default.not-Binary)

pub returns-in-Unary : goal.returns-in-Unary
returns-in-Unary c = grind (arith, view_expr_unary)

pub returns-in-Unary-2 : goal.returns-in-Unary-2
returns-in-Unary-2 c = grind (arith, view_expr_binary)
