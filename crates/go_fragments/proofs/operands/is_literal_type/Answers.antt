use Rattle.std.proofs.Common.{sym, arith}
use Rattle.go_fragments.specs.Expressions.{view_context}
use Rattle.go_fragments.proofs.Variants.{no_literal}
use Rattle.go_grammar.proofs.Views.{view_expr_type_form, view_expr_name}
use Rattle.go_grammar.proofs.Views.{view_expr_selector}
use Rattle.go_fragments.proofs.Variants.{name_before}
use Rattle.go_fragments.proofs.operands.is_literal_type.Goals as goal

pub returns-in_default : goal.returns-in_default
returns-in_default c = sym (no_literal (view_context c.args.context) c.args.expr.now c.in_default.not-TypeForm c.in_default.not-Name c.in_default.not-Selector)

pub returns-in-TypeForm : goal.returns-in-TypeForm
returns-in-TypeForm c = grind (arith, view_expr_type_form)

pub returns-in-Name : goal.returns-in-Name
returns-in-Name c = grind (arith, view_expr_name)

pub returns-then-not-is_header : goal.returns-then-not-is_header
returns-then-not-is_header c = grind (arith, view_expr_selector, name_before)

pub returns-else-not-is_header : goal.returns-else-not-is_header
returns-else-not-is_header c = grind (arith, view_expr_selector, name_before)
