use Rattle.std.proofs.Common.{arith}
use Rattle.go_grammar.proofs.Views.{view_expr_type_form, view_type_expr_name}
use Rattle.go_fragments.proofs.Variants.{literal_named}
use Rattle.go_fragments.proofs.operands.literal_type.Goals as goal

pub returns-in-Ok : goal.returns-in-Ok
returns-in-Ok c = grind (arith, view_expr_type_form)

pub returns-in_default : goal.returns-in_default
returns-in_default c = grind (arith, literal_named)

pub returns-in_ok-boxed-in-Err : goal.returns-in_ok-boxed-in-Err
returns-in_ok-boxed-in-Err c = grind (arith, literal_named, view_type_expr_name)
