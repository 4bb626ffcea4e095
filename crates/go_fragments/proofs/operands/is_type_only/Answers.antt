use Rattle.std.proofs.Common.{sym, arith}
use Rattle.go_fragments.proofs.Variants.{not_type_form}
use Rattle.go_grammar.proofs.Views.{view_expr_type_form}
use Rattle.go_fragments.proofs.operands.is_type_only.Goals as goal

pub returns-in_default : goal.returns-in_default
returns-in_default c = sym (not_type_form c.args.expr.now c.in_default.not-TypeForm)

pub returns-in-TypeForm : goal.returns-in-TypeForm
returns-in-TypeForm c = grind (arith, view_expr_type_form)
