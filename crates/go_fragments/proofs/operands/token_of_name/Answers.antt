use Rattle.go_fragments.proofs.Variants.{no_name_token}
use Rattle.std.proofs.Common.{arith}
use Rattle.go_grammar.proofs.Views.{view_expr_name}
use Rattle.go_fragments.proofs.operands.token_of_name.Goals as goal

pub returns-in_default : goal.returns-in_default
returns-in_default c = no_name_token c.args.expr.now c.in_default.not-Name

pub returns-in-Name : goal.returns-in-Name
returns-in-Name c = grind (arith, view_expr_name)
