use Rattle.std.proofs.Common.{sym, arith}
use Rattle.go_fragments.proofs.Variants.{not_only_a_type}
use Rattle.go_grammar.proofs.Views.{view_type_expr_pointer, view_type_expr_chan, view_type_expr_receive_chan, view_type_expr_function}
use Rattle.go_fragments.proofs.operands.is_only_a_type.Goals as goal

pub returns-in_default : goal.returns-in_default
returns-in_default c = sym (not_only_a_type c.args.form.now c.in_default.not-Pointer c.in_default.not-Chan c.in_default.not-ReceiveChan c.in_default.not-Function)

pub returns-in-Pointer : goal.returns-in-Pointer
returns-in-Pointer c = grind (arith, view_type_expr_pointer)

pub returns-in-Pointer-2 : goal.returns-in-Pointer-2
returns-in-Pointer-2 c = grind (arith, view_type_expr_chan)

pub returns-in-Pointer-3 : goal.returns-in-Pointer-3
returns-in-Pointer-3 c = grind (arith, view_type_expr_receive_chan)

pub returns-in-Pointer-4 : goal.returns-in-Pointer-4
returns-in-Pointer-4 c = grind (arith, view_type_expr_function)
