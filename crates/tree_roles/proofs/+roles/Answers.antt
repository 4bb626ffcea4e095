use Rattle.std.proofs.Common.{arith, rules}
use Rattle.tree_roles.specs.Roles.{roles_of_element, roles_of_element_line, roles_of_field_line, roles_of_listed_expr}
use Rattle.tree_roles.specs.Roles.{roles_of_param, roles_of_stmt_line, roles_of_type_spec, roles_of_value_spec}
use Rattle.tree_roles.proofs.Calls.{call_seen}
use Rattle.tree_roles.proofs.Turns.{ended, kept}
use Rattle.tree_roles.proofs.Forms.{block_read, case_clause_read, comm_clause_read, decl_const, decl_func}
use Rattle.tree_roles.proofs.Forms.{decl_type_decl, decl_var, element_line_embedded, element_line_empty}
use Rattle.tree_roles.proofs.Forms.{element_line_method, element_read, expr_assertion, expr_binary, expr_composite}
use Rattle.tree_roles.proofs.Forms.{expr_full_slice, expr_function, expr_index, expr_int, expr_name, expr_paren}
use Rattle.tree_roles.proofs.Forms.{expr_rune, expr_selector, expr_slice, expr_text, expr_type_form, expr_unary}
use Rattle.tree_roles.proofs.Forms.{field_line_embedded, field_line_empty, field_line_named, for_stmt_read}
use Rattle.tree_roles.proofs.Forms.{func_decl_read, if_arm_read, listed_expr_read, param_read, params_read}
use Rattle.tree_roles.proofs.Forms.{range_stmt_read, result_form_none, result_form_params, result_form_type_form}
use Rattle.tree_roles.proofs.Forms.{signature_read, stmt_assign, stmt_block, stmt_break, stmt_continue, stmt_decl}
use Rattle.tree_roles.proofs.Forms.{stmt_defer, stmt_define, stmt_expr, stmt_fallthrough, stmt_for, stmt_go, stmt_if}
use Rattle.tree_roles.proofs.Forms.{stmt_labeled, stmt_line_read, stmt_range, stmt_return, stmt_select, stmt_send}
use Rattle.tree_roles.proofs.Forms.{stmt_step, stmt_switch, stmt_type_switch, stmt_while, switch_stmt_read}
use Rattle.tree_roles.proofs.Forms.{type_expr_array, type_expr_chan, type_expr_function, type_expr_interface}
use Rattle.tree_roles.proofs.Forms.{type_expr_map, type_expr_name, type_expr_open_array, type_expr_paren}
use Rattle.tree_roles.proofs.Forms.{type_expr_pointer, type_expr_receive_chan, type_expr_slice, type_expr_struct}
use Rattle.tree_roles.proofs.Forms.{type_spec_read, type_switch_stmt_read, value_spec_read}
use Rattle.tree_roles.proofs.+roles.Goals as goal

pub decls::have_type_spec_roles-returns-then-not-has_type_spec_roles : goal.decls::have_type_spec_roles-returns-then-not-has_type_spec_roles
decls::have_type_spec_roles-returns-then-not-has_type_spec_roles t c =
    ended roles_of_type_spec c.args.specs.now c.loop-index.index c.index-specs-index.result c.has_type_spec_roles.result _ c.loop-index-test.true c.index-specs-index.is c.has_type_spec_roles.ensures (search rules) c.loop-index.invariant

pub decls::have_type_spec_roles-loop-index-preserved : goal.decls::have_type_spec_roles-loop-index-preserved
decls::have_type_spec_roles-loop-index-preserved t c =
    kept roles_of_type_spec c.args.specs.now c.loop-index.index c.index-specs-index.result c.has_type_spec_roles.result _ c.loop-index-test.true c.index-specs-index.is c.has_type_spec_roles.ensures (search rules) c.loop-index.invariant

pub decls::have_value_roles-returns-then-not-has_value_roles : goal.decls::have_value_roles-returns-then-not-has_value_roles
decls::have_value_roles-returns-then-not-has_value_roles t c =
    ended roles_of_value_spec c.args.specs.now c.loop-index.index c.index-specs-index.result c.has_value_roles.result _ c.loop-index-test.true c.index-specs-index.is c.has_value_roles.ensures (search rules) c.loop-index.invariant

pub decls::have_value_roles-loop-index-preserved : goal.decls::have_value_roles-loop-index-preserved
decls::have_value_roles-loop-index-preserved t c =
    kept roles_of_value_spec c.args.specs.now c.loop-index.index c.index-specs-index.result c.has_value_roles.result _ c.loop-index-test.true c.index-specs-index.is c.has_value_roles.ensures (search rules) c.loop-index.invariant

pub exprs::have_element_roles-returns-then-not-has_element_roles : goal.exprs::have_element_roles-returns-then-not-has_element_roles
exprs::have_element_roles-returns-then-not-has_element_roles t c =
    ended roles_of_element c.args.elements.now c.loop-index.index c.index-elements-index.result c.has_element_roles.result _ c.loop-index-test.true c.index-elements-index.is c.has_element_roles.ensures (search rules) c.loop-index.invariant

pub exprs::have_element_roles-loop-index-preserved : goal.exprs::have_element_roles-loop-index-preserved
exprs::have_element_roles-loop-index-preserved t c =
    kept roles_of_element c.args.elements.now c.loop-index.index c.index-elements-index.result c.has_element_roles.result _ c.loop-index-test.true c.index-elements-index.is c.has_element_roles.ensures (search rules) c.loop-index.invariant

pub exprs::have_expr_roles-returns-then-not-has_listed_roles : goal.exprs::have_expr_roles-returns-then-not-has_listed_roles
exprs::have_expr_roles-returns-then-not-has_listed_roles t c =
    ended roles_of_listed_expr c.args.exprs.now c.loop-index.index c.index-exprs-index.result c.has_listed_roles.result _ c.loop-index-test.true c.index-exprs-index.is c.has_listed_roles.ensures (search rules) c.loop-index.invariant

pub exprs::have_expr_roles-loop-index-preserved : goal.exprs::have_expr_roles-loop-index-preserved
exprs::have_expr_roles-loop-index-preserved t c =
    kept roles_of_listed_expr c.args.exprs.now c.loop-index.index c.index-exprs-index.result c.has_listed_roles.result _ c.loop-index-test.true c.index-exprs-index.is c.has_listed_roles.ensures (search rules) c.loop-index.invariant

pub stmts::have_line_roles-returns-then-not-has_line_roles : goal.stmts::have_line_roles-returns-then-not-has_line_roles
stmts::have_line_roles-returns-then-not-has_line_roles t c =
    ended roles_of_stmt_line c.args.lines.now c.loop-index.index c.index-lines-index.result c.has_line_roles.result _ c.loop-index-test.true c.index-lines-index.is c.has_line_roles.ensures (search rules) c.loop-index.invariant

pub stmts::have_line_roles-loop-index-preserved : goal.stmts::have_line_roles-loop-index-preserved
stmts::have_line_roles-loop-index-preserved t c =
    kept roles_of_stmt_line c.args.lines.now c.loop-index.index c.index-lines-index.result c.has_line_roles.result _ c.loop-index-test.true c.index-lines-index.is c.has_line_roles.ensures (search rules) c.loop-index.invariant

pub types::have_element_roles-returns-then-not-has_element_roles : goal.types::have_element_roles-returns-then-not-has_element_roles
types::have_element_roles-returns-then-not-has_element_roles t c =
    ended roles_of_element_line c.args.elements.now c.loop-index.index c.index-elements-index.result c.has_element_roles.result _ c.loop-index-test.true c.index-elements-index.is c.has_element_roles.ensures (search rules) c.loop-index.invariant

pub types::have_element_roles-loop-index-preserved : goal.types::have_element_roles-loop-index-preserved
types::have_element_roles-loop-index-preserved t c =
    kept roles_of_element_line c.args.elements.now c.loop-index.index c.index-elements-index.result c.has_element_roles.result _ c.loop-index-test.true c.index-elements-index.is c.has_element_roles.ensures (search rules) c.loop-index.invariant

pub types::have_field_roles-returns-then-not-has_field_roles : goal.types::have_field_roles-returns-then-not-has_field_roles
types::have_field_roles-returns-then-not-has_field_roles t c =
    ended roles_of_field_line c.args.fields.now c.loop-index.index c.index-fields-index.result c.has_field_roles.result _ c.loop-index-test.true c.index-fields-index.is c.has_field_roles.ensures (search rules) c.loop-index.invariant

pub types::have_field_roles-loop-index-preserved : goal.types::have_field_roles-loop-index-preserved
types::have_field_roles-loop-index-preserved t c =
    kept roles_of_field_line c.args.fields.now c.loop-index.index c.index-fields-index.result c.has_field_roles.result _ c.loop-index-test.true c.index-fields-index.is c.has_field_roles.ensures (search rules) c.loop-index.invariant

pub types::have_param_roles-returns-then-not-has_param_roles : goal.types::have_param_roles-returns-then-not-has_param_roles
types::have_param_roles-returns-then-not-has_param_roles t c =
    ended roles_of_param c.args.params.now c.loop-index.index c.index-params-index.result c.has_param_roles.result _ c.loop-index-test.true c.index-params-index.is c.has_param_roles.ensures (search rules) c.loop-index.invariant

pub types::have_param_roles-loop-index-preserved : goal.types::have_param_roles-loop-index-preserved
types::have_param_roles-loop-index-preserved t c =
    kept roles_of_param c.args.params.now c.loop-index.index c.index-params-index.result c.has_param_roles.result _ c.loop-index-test.true c.index-params-index.is c.has_param_roles.ensures (search rules) c.loop-index.invariant

pub exprs::has_expr_roles-returns-in-Call : goal.exprs::has_expr_roles-returns-in-Call
exprs::has_expr_roles-returns-in-Call t c =
    call_seen c.args.expr.now c.has_expr_roles-in-Call.result c.are_call_marks.result c.have_expr_roles.result _ _ _ _ _ _ _ _ c.in-Call.is c.has_expr_roles-in-Call.ensures c.are_call_marks.ensures c.have_expr_roles.ensures (first_of (search rules, cc)) (first_of (search rules, cc))

pub decls::has_decl_roles-returns-in-Const : goal.decls::has_decl_roles-returns-in-Const
decls::has_decl_roles-returns-in-Const t c = grind (arith, decl_const)

pub decls::has_decl_roles-returns-in-Func : goal.decls::has_decl_roles-returns-in-Func
decls::has_decl_roles-returns-in-Func t c = grind (arith, decl_func)

pub decls::has_decl_roles-returns-in-TypeDecl : goal.decls::has_decl_roles-returns-in-TypeDecl
decls::has_decl_roles-returns-in-TypeDecl t c = grind (arith, decl_type_decl)

pub decls::has_decl_roles-returns-in-Var : goal.decls::has_decl_roles-returns-in-Var
decls::has_decl_roles-returns-in-Var t c = grind (arith, decl_var)

pub decls::has_func_roles-returns : goal.decls::has_func_roles-returns
decls::has_func_roles-returns t c = grind (arith, func_decl_read)

pub decls::has_type_spec_roles-returns : goal.decls::has_type_spec_roles-returns
decls::has_type_spec_roles-returns t c = grind (arith, type_spec_read)

pub decls::has_value_roles-returns : goal.decls::has_value_roles-returns
decls::has_value_roles-returns t c = grind (arith, value_spec_read)

pub exprs::has_element_roles-returns : goal.exprs::has_element_roles-returns
exprs::has_element_roles-returns t c = grind (arith, element_read)

pub exprs::has_expr_roles-returns-in-Assertion : goal.exprs::has_expr_roles-returns-in-Assertion
exprs::has_expr_roles-returns-in-Assertion t c = grind (arith, expr_assertion)

pub exprs::has_expr_roles-returns-in-Binary : goal.exprs::has_expr_roles-returns-in-Binary
exprs::has_expr_roles-returns-in-Binary t c = grind (arith, expr_binary)

pub exprs::has_expr_roles-returns-in-Composite : goal.exprs::has_expr_roles-returns-in-Composite
exprs::has_expr_roles-returns-in-Composite t c = grind (arith, expr_composite)

pub exprs::has_expr_roles-returns-in-FullSlice : goal.exprs::has_expr_roles-returns-in-FullSlice
exprs::has_expr_roles-returns-in-FullSlice t c = grind (arith, expr_full_slice)

pub exprs::has_expr_roles-returns-in-Function : goal.exprs::has_expr_roles-returns-in-Function
exprs::has_expr_roles-returns-in-Function t c = grind (arith, expr_function)

pub exprs::has_expr_roles-returns-in-Index : goal.exprs::has_expr_roles-returns-in-Index
exprs::has_expr_roles-returns-in-Index t c = grind (arith, expr_index)

pub exprs::has_expr_roles-returns-in-Int : goal.exprs::has_expr_roles-returns-in-Int
exprs::has_expr_roles-returns-in-Int t c = grind (arith, expr_int)

pub exprs::has_expr_roles-returns-in-Name : goal.exprs::has_expr_roles-returns-in-Name
exprs::has_expr_roles-returns-in-Name t c = grind (arith, expr_name)

pub exprs::has_expr_roles-returns-in-Paren : goal.exprs::has_expr_roles-returns-in-Paren
exprs::has_expr_roles-returns-in-Paren t c = grind (arith, expr_paren)

pub exprs::has_expr_roles-returns-in-Rune : goal.exprs::has_expr_roles-returns-in-Rune
exprs::has_expr_roles-returns-in-Rune t c = grind (arith, expr_rune)

pub exprs::has_expr_roles-returns-in-Selector : goal.exprs::has_expr_roles-returns-in-Selector
exprs::has_expr_roles-returns-in-Selector t c = grind (arith, expr_selector)

pub exprs::has_expr_roles-returns-in-Slice : goal.exprs::has_expr_roles-returns-in-Slice
exprs::has_expr_roles-returns-in-Slice t c = grind (arith, expr_slice)

pub exprs::has_expr_roles-returns-in-Text : goal.exprs::has_expr_roles-returns-in-Text
exprs::has_expr_roles-returns-in-Text t c = grind (arith, expr_text)

pub exprs::has_expr_roles-returns-in-TypeForm : goal.exprs::has_expr_roles-returns-in-TypeForm
exprs::has_expr_roles-returns-in-TypeForm t c = grind (arith, expr_type_form)

pub exprs::has_expr_roles-returns-in-Unary : goal.exprs::has_expr_roles-returns-in-Unary
exprs::has_expr_roles-returns-in-Unary t c = grind (arith, expr_unary)

pub exprs::has_listed_roles-returns : goal.exprs::has_listed_roles-returns
exprs::has_listed_roles-returns t c = grind (arith, listed_expr_read)

pub stmts::has_arm_roles-returns : goal.stmts::has_arm_roles-returns
stmts::has_arm_roles-returns t c = grind (arith, if_arm_read)

pub stmts::has_block_roles-returns : goal.stmts::has_block_roles-returns
stmts::has_block_roles-returns t c = grind (arith, block_read)

pub stmts::has_clause_roles-returns : goal.stmts::has_clause_roles-returns
stmts::has_clause_roles-returns t c = grind (arith, case_clause_read)

pub stmts::has_comm_roles-returns : goal.stmts::has_comm_roles-returns
stmts::has_comm_roles-returns t c = grind (arith, comm_clause_read)

pub stmts::has_for_roles-returns : goal.stmts::has_for_roles-returns
stmts::has_for_roles-returns t c = grind (arith, for_stmt_read)

pub stmts::has_line_roles-returns : goal.stmts::has_line_roles-returns
stmts::has_line_roles-returns t c = grind (arith, stmt_line_read)

pub stmts::has_range_roles-returns : goal.stmts::has_range_roles-returns
stmts::has_range_roles-returns t c = grind (arith, range_stmt_read)

pub stmts::has_stmt_roles-returns-in-Assign : goal.stmts::has_stmt_roles-returns-in-Assign
stmts::has_stmt_roles-returns-in-Assign t c = grind (arith, stmt_assign)

pub stmts::has_stmt_roles-returns-in-Block : goal.stmts::has_stmt_roles-returns-in-Block
stmts::has_stmt_roles-returns-in-Block t c = grind (arith, stmt_block)

pub stmts::has_stmt_roles-returns-in-Break : goal.stmts::has_stmt_roles-returns-in-Break
stmts::has_stmt_roles-returns-in-Break t c = grind (arith, stmt_break)

pub stmts::has_stmt_roles-returns-in-Continue : goal.stmts::has_stmt_roles-returns-in-Continue
stmts::has_stmt_roles-returns-in-Continue t c = grind (arith, stmt_continue)

pub stmts::has_stmt_roles-returns-in-Decl : goal.stmts::has_stmt_roles-returns-in-Decl
stmts::has_stmt_roles-returns-in-Decl t c = grind (arith, stmt_decl)

pub stmts::has_stmt_roles-returns-in-Defer : goal.stmts::has_stmt_roles-returns-in-Defer
stmts::has_stmt_roles-returns-in-Defer t c = grind (arith, stmt_defer)

pub stmts::has_stmt_roles-returns-in-Define : goal.stmts::has_stmt_roles-returns-in-Define
stmts::has_stmt_roles-returns-in-Define t c = grind (arith, stmt_define)

pub stmts::has_stmt_roles-returns-in-Expr : goal.stmts::has_stmt_roles-returns-in-Expr
stmts::has_stmt_roles-returns-in-Expr t c = grind (arith, stmt_expr)

pub stmts::has_stmt_roles-returns-in-Fallthrough : goal.stmts::has_stmt_roles-returns-in-Fallthrough
stmts::has_stmt_roles-returns-in-Fallthrough t c = grind (arith, stmt_fallthrough)

pub stmts::has_stmt_roles-returns-in-For : goal.stmts::has_stmt_roles-returns-in-For
stmts::has_stmt_roles-returns-in-For t c = grind (arith, stmt_for)

pub stmts::has_stmt_roles-returns-in-Go : goal.stmts::has_stmt_roles-returns-in-Go
stmts::has_stmt_roles-returns-in-Go t c = grind (arith, stmt_go)

pub stmts::has_stmt_roles-returns-in-If : goal.stmts::has_stmt_roles-returns-in-If
stmts::has_stmt_roles-returns-in-If t c = grind (arith, stmt_if)

pub stmts::has_stmt_roles-returns-in-Labeled : goal.stmts::has_stmt_roles-returns-in-Labeled
stmts::has_stmt_roles-returns-in-Labeled t c = grind (arith, stmt_labeled)

pub stmts::has_stmt_roles-returns-in-Range : goal.stmts::has_stmt_roles-returns-in-Range
stmts::has_stmt_roles-returns-in-Range t c = grind (arith, stmt_range)

pub stmts::has_stmt_roles-returns-in-Return : goal.stmts::has_stmt_roles-returns-in-Return
stmts::has_stmt_roles-returns-in-Return t c = grind (arith, stmt_return)

pub stmts::has_stmt_roles-returns-in-Select : goal.stmts::has_stmt_roles-returns-in-Select
stmts::has_stmt_roles-returns-in-Select t c = grind (arith, stmt_select)

pub stmts::has_stmt_roles-returns-in-Send : goal.stmts::has_stmt_roles-returns-in-Send
stmts::has_stmt_roles-returns-in-Send t c = grind (arith, stmt_send)

pub stmts::has_stmt_roles-returns-in-Step : goal.stmts::has_stmt_roles-returns-in-Step
stmts::has_stmt_roles-returns-in-Step t c = grind (arith, stmt_step)

pub stmts::has_stmt_roles-returns-in-Switch : goal.stmts::has_stmt_roles-returns-in-Switch
stmts::has_stmt_roles-returns-in-Switch t c = grind (arith, stmt_switch)

pub stmts::has_stmt_roles-returns-in-TypeSwitch : goal.stmts::has_stmt_roles-returns-in-TypeSwitch
stmts::has_stmt_roles-returns-in-TypeSwitch t c = grind (arith, stmt_type_switch)

pub stmts::has_stmt_roles-returns-in-While : goal.stmts::has_stmt_roles-returns-in-While
stmts::has_stmt_roles-returns-in-While t c = grind (arith, stmt_while)

pub stmts::has_switch_roles-returns : goal.stmts::has_switch_roles-returns
stmts::has_switch_roles-returns t c = grind (arith, switch_stmt_read)

pub stmts::has_type_switch_roles-returns : goal.stmts::has_type_switch_roles-returns
stmts::has_type_switch_roles-returns t c = grind (arith, type_switch_stmt_read)

pub types::has_element_roles-returns-in-Embedded : goal.types::has_element_roles-returns-in-Embedded
types::has_element_roles-returns-in-Embedded t c = grind (arith, element_line_embedded)

pub types::has_element_roles-returns-in-Empty : goal.types::has_element_roles-returns-in-Empty
types::has_element_roles-returns-in-Empty t c = grind (arith, element_line_empty)

pub types::has_element_roles-returns-in-Method : goal.types::has_element_roles-returns-in-Method
types::has_element_roles-returns-in-Method t c = grind (arith, element_line_method)

pub types::has_field_roles-returns-in-Embedded : goal.types::has_field_roles-returns-in-Embedded
types::has_field_roles-returns-in-Embedded t c = grind (arith, field_line_embedded)

pub types::has_field_roles-returns-in-Empty : goal.types::has_field_roles-returns-in-Empty
types::has_field_roles-returns-in-Empty t c = grind (arith, field_line_empty)

pub types::has_field_roles-returns-in-Named : goal.types::has_field_roles-returns-in-Named
types::has_field_roles-returns-in-Named t c = grind (arith, field_line_named)

pub types::has_param_roles-returns : goal.types::has_param_roles-returns
types::has_param_roles-returns t c = grind (arith, param_read)

pub types::has_params_roles-returns : goal.types::has_params_roles-returns
types::has_params_roles-returns t c = grind (arith, params_read)

pub types::has_result_roles-returns-in-None : goal.types::has_result_roles-returns-in-None
types::has_result_roles-returns-in-None t c = grind (arith, result_form_none)

pub types::has_result_roles-returns-in-Params : goal.types::has_result_roles-returns-in-Params
types::has_result_roles-returns-in-Params t c = grind (arith, result_form_params)

pub types::has_result_roles-returns-in-TypeForm : goal.types::has_result_roles-returns-in-TypeForm
types::has_result_roles-returns-in-TypeForm t c = grind (arith, result_form_type_form)

pub types::has_signature_roles-returns : goal.types::has_signature_roles-returns
types::has_signature_roles-returns t c = grind (arith, signature_read)

pub types::has_type_roles-returns-in-Array : goal.types::has_type_roles-returns-in-Array
types::has_type_roles-returns-in-Array t c = grind (arith, type_expr_array)

pub types::has_type_roles-returns-in-Chan : goal.types::has_type_roles-returns-in-Chan
types::has_type_roles-returns-in-Chan t c = grind (arith, type_expr_chan)

pub types::has_type_roles-returns-in-Function : goal.types::has_type_roles-returns-in-Function
types::has_type_roles-returns-in-Function t c = grind (arith, type_expr_function)

pub types::has_type_roles-returns-in-Interface : goal.types::has_type_roles-returns-in-Interface
types::has_type_roles-returns-in-Interface t c = grind (arith, type_expr_interface)

pub types::has_type_roles-returns-in-Map : goal.types::has_type_roles-returns-in-Map
types::has_type_roles-returns-in-Map t c = grind (arith, type_expr_map)

pub types::has_type_roles-returns-in-Name : goal.types::has_type_roles-returns-in-Name
types::has_type_roles-returns-in-Name t c = grind (arith, type_expr_name)

pub types::has_type_roles-returns-in-OpenArray : goal.types::has_type_roles-returns-in-OpenArray
types::has_type_roles-returns-in-OpenArray t c = grind (arith, type_expr_open_array)

pub types::has_type_roles-returns-in-Paren : goal.types::has_type_roles-returns-in-Paren
types::has_type_roles-returns-in-Paren t c = grind (arith, type_expr_paren)

pub types::has_type_roles-returns-in-Pointer : goal.types::has_type_roles-returns-in-Pointer
types::has_type_roles-returns-in-Pointer t c = grind (arith, type_expr_pointer)

pub types::has_type_roles-returns-in-ReceiveChan : goal.types::has_type_roles-returns-in-ReceiveChan
types::has_type_roles-returns-in-ReceiveChan t c = grind (arith, type_expr_receive_chan)

pub types::has_type_roles-returns-in-Slice : goal.types::has_type_roles-returns-in-Slice
types::has_type_roles-returns-in-Slice t c = grind (arith, type_expr_slice)

pub types::has_type_roles-returns-in-Struct : goal.types::has_type_roles-returns-in-Struct
types::has_type_roles-returns-in-Struct t c = grind (arith, type_expr_struct)
