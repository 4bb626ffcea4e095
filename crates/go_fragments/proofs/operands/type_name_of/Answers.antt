use Rattle.go_fragments.proofs.Variants.{no_type_named}
use Rattle.std.proofs.Common.{arith}
use Rattle.go_grammar.proofs.Views.{view_expr_name, view_expr_selector}
use Rattle.go_fragments.proofs.Variants.{imported_none, imported_some}
use Rattle.go_fragments.proofs.operands.type_name_of.Goals as goal

pub returns-in_default : goal.returns-in_default
returns-in_default c = no_type_named c.args.expr.now c.in_default.not-Name c.in_default.not-Selector

pub returns-in-Name : goal.returns-in-Name
returns-in-Name c = grind (arith, view_expr_name)

pub returns-in_ok-package-in-Selector : goal.returns-in_ok-package-in-Selector
returns-in_ok-package-in-Selector c = grind (arith, view_expr_selector, imported_some)

pub returns-in_err-package-in-Selector : goal.returns-in_err-package-in-Selector
returns-in_err-package-in-Selector c = grind (arith, view_expr_selector, imported_none)
