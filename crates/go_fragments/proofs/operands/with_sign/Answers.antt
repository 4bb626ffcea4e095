use Rattle.std.proofs.Common.{arith}
use Rattle.go_grammar.proofs.Views.{view_expr_unary}
use Rattle.go_fragments.proofs.operands.with_sign.Goals as goal

pub returns : goal.returns
returns c = grind (arith, view_expr_unary)
