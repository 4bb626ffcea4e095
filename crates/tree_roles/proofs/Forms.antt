-- What the roles of each tree are, by its parts.
use Rattle.std.proofs.Common.{◌≡◌, refl, sym, ap, ◌∙◌, map, Option, Some, None}
use Rattle.std.specs.Prelude.{Bool, true, ◌&&◌}
use Rattle.std.specs.Global.{Box, Vec}
use Rattle.go_ast.specs.declared.token.Token.{Token}
use Rattle.go_ast.specs.declared.token.Kind.TheVariants as kinds
use Rattle.go_syntax.specs.declared.decls.Decl.{Decl}
use Rattle.go_syntax.specs.declared.exprs.Expr.{Expr}
use Rattle.go_syntax.specs.declared.stmts.Stmt.{Stmt}
use Rattle.go_syntax.specs.declared.type_exprs.ElementLine.{ElementLine}
use Rattle.go_syntax.specs.declared.type_exprs.FieldLine.{FieldLine}
use Rattle.go_syntax.specs.declared.type_exprs.ResultForm.{ResultForm}
use Rattle.go_syntax.specs.declared.type_exprs.TypeExpr.{TypeExpr}
use Rattle.go_syntax.specs.declared.decls.FuncDecl.{FuncDecl}
use Rattle.go_syntax.specs.declared.decls.TypeSpec.{TypeSpec}
use Rattle.go_syntax.specs.declared.decls.ValueSpec.{ValueSpec}
use Rattle.go_syntax.specs.declared.exprs.Element.{Element}
use Rattle.go_syntax.specs.declared.exprs.ListedExpr.{ListedExpr}
use Rattle.go_syntax.specs.declared.stmts.Block.{Block}
use Rattle.go_syntax.specs.declared.stmts.CaseClause.{CaseClause}
use Rattle.go_syntax.specs.declared.stmts.CommClause.{CommClause}
use Rattle.go_syntax.specs.declared.stmts.ForStmt.{ForStmt}
use Rattle.go_syntax.specs.declared.stmts.IfArm.{IfArm}
use Rattle.go_syntax.specs.declared.stmts.RangeStmt.{RangeStmt}
use Rattle.go_syntax.specs.declared.stmts.StmtLine.{StmtLine}
use Rattle.go_syntax.specs.declared.stmts.SwitchStmt.{SwitchStmt}
use Rattle.go_syntax.specs.declared.stmts.TypeSwitchStmt.{TypeSwitchStmt}
use Rattle.go_syntax.specs.declared.type_exprs.Param.{Param}
use Rattle.go_syntax.specs.declared.type_exprs.Params.{Params}
use Rattle.go_syntax.specs.declared.type_exprs.Signature.{Signature}
use Rattle.go_syntax.specs.declared.stmts.Binding.{Binding}
use Rattle.go_syntax.specs.declared.stmts.Label.{Label}
use Rattle.go_syntax.specs.declared.type_exprs.ListedName.{ListedName}
use Rattle.go_syntax.specs.declared.type_exprs.NamedType.{NamedType}
use Rattle.go_syntax.specs.declared.decls.Decl.TheVariants as decls
use Rattle.go_syntax.specs.declared.exprs.Expr.TheVariants as exprs
use Rattle.go_syntax.specs.declared.stmts.Stmt.TheVariants as stmts
use Rattle.go_syntax.specs.declared.type_exprs.ElementLine.TheVariants as element_lines
use Rattle.go_syntax.specs.declared.type_exprs.FieldLine.TheVariants as field_lines
use Rattle.go_syntax.specs.declared.type_exprs.ResultForm.TheVariants as results
use Rattle.go_syntax.specs.declared.type_exprs.TypeExpr.TheVariants as types
use Rattle.go_syntax.specs.declared.decls.Decl.TheOpen as layers
use Rattle.go_syntax.specs.declared.decls.Decl.TheOpen.{Decl-F, Expr-F, Stmt-F, ElementLine-F, FieldLine-F}
use Rattle.go_syntax.specs.declared.decls.Decl.TheOpen.{ResultForm-F, TypeExpr-F, FuncDecl-F, TypeSpec-F, ValueSpec-F}
use Rattle.go_syntax.specs.declared.decls.Decl.TheOpen.{Element-F, ListedExpr-F, Block-F, CaseClause-F, CommClause-F}
use Rattle.go_syntax.specs.declared.decls.Decl.TheOpen.{ForStmt-F, IfArm-F, RangeStmt-F, StmtLine-F, SwitchStmt-F}
use Rattle.go_syntax.specs.declared.decls.Decl.TheOpen.{TypeSwitchStmt-F, Param-F, Params-F, Signature-F}
use Rattle.go_syntax.specs.declared.decls.Decl.TheViews.{roll-Decl, roll-Expr, roll-Stmt, roll-ElementLine}
use Rattle.go_syntax.specs.declared.decls.Decl.TheViews.{roll-FieldLine, roll-ResultForm, roll-TypeExpr, roll-FuncDecl}
use Rattle.go_syntax.specs.declared.decls.Decl.TheViews.{roll-TypeSpec, roll-ValueSpec, roll-Element, roll-ListedExpr}
use Rattle.go_syntax.specs.declared.decls.Decl.TheViews.{roll-Block, roll-CaseClause, roll-CommClause, roll-ForStmt}
use Rattle.go_syntax.specs.declared.decls.Decl.TheViews.{roll-IfArm, roll-RangeStmt, roll-StmtLine, roll-SwitchStmt}
use Rattle.go_syntax.specs.declared.decls.Decl.TheViews.{roll-TypeSwitchStmt, roll-Param, roll-Params, roll-Signature}
use Rattle.go_syntax.specs.declared.decls.Decl.TheViews.{out-FuncDecl, roll-out-FuncDecl, out-TypeSpec}
use Rattle.go_syntax.specs.declared.decls.Decl.TheViews.{roll-out-TypeSpec, out-ValueSpec, roll-out-ValueSpec}
use Rattle.go_syntax.specs.declared.decls.Decl.TheViews.{out-Element, roll-out-Element, out-ListedExpr}
use Rattle.go_syntax.specs.declared.decls.Decl.TheViews.{roll-out-ListedExpr, out-Block, roll-out-Block, out-CaseClause}
use Rattle.go_syntax.specs.declared.decls.Decl.TheViews.{roll-out-CaseClause, out-CommClause, roll-out-CommClause}
use Rattle.go_syntax.specs.declared.decls.Decl.TheViews.{out-ForStmt, roll-out-ForStmt, out-IfArm, roll-out-IfArm}
use Rattle.go_syntax.specs.declared.decls.Decl.TheViews.{out-RangeStmt, roll-out-RangeStmt, out-StmtLine}
use Rattle.go_syntax.specs.declared.decls.Decl.TheViews.{roll-out-StmtLine, out-SwitchStmt, roll-out-SwitchStmt}
use Rattle.go_syntax.specs.declared.decls.Decl.TheViews.{out-TypeSwitchStmt, roll-out-TypeSwitchStmt, out-Param}
use Rattle.go_syntax.specs.declared.decls.Decl.TheViews.{roll-out-Param, out-Params, roll-out-Params, out-Signature}
use Rattle.go_syntax.specs.declared.decls.Decl.TheViews.{roll-out-Signature}
use Rattle.go_syntax.specs.declared.decls.Decl.TheFolds.{fold-roll-Decl, fold-roll-Expr, fold-roll-Stmt}
use Rattle.go_syntax.specs.declared.decls.Decl.TheFolds.{fold-roll-ElementLine, fold-roll-FieldLine}
use Rattle.go_syntax.specs.declared.decls.Decl.TheFolds.{fold-roll-ResultForm, fold-roll-TypeExpr, fold-roll-FuncDecl}
use Rattle.go_syntax.specs.declared.decls.Decl.TheFolds.{fold-roll-TypeSpec, fold-roll-ValueSpec, fold-roll-Element}
use Rattle.go_syntax.specs.declared.decls.Decl.TheFolds.{fold-roll-ListedExpr, fold-roll-Block, fold-roll-CaseClause}
use Rattle.go_syntax.specs.declared.decls.Decl.TheFolds.{fold-roll-CommClause, fold-roll-ForStmt, fold-roll-IfArm}
use Rattle.go_syntax.specs.declared.decls.Decl.TheFolds.{fold-roll-RangeStmt, fold-roll-StmtLine, fold-roll-SwitchStmt}
use Rattle.go_syntax.specs.declared.decls.Decl.TheFolds.{fold-roll-TypeSwitchStmt, fold-roll-Param, fold-roll-Params}
use Rattle.go_syntax.specs.declared.decls.Decl.TheFolds.{fold-roll-Signature, map-Decl, map-Expr, map-Stmt}
use Rattle.go_syntax.specs.declared.decls.Decl.TheFolds.{map-ElementLine, map-FieldLine, map-ResultForm, map-TypeExpr}
use Rattle.go_syntax.specs.declared.decls.Decl.TheFolds.{map-FuncDecl, map-TypeSpec, map-ValueSpec, map-Element}
use Rattle.go_syntax.specs.declared.decls.Decl.TheFolds.{map-ListedExpr, map-Block, map-CaseClause, map-CommClause}
use Rattle.go_syntax.specs.declared.decls.Decl.TheFolds.{map-ForStmt, map-IfArm, map-RangeStmt, map-StmtLine}
use Rattle.go_syntax.specs.declared.decls.Decl.TheFolds.{map-SwitchStmt, map-TypeSwitchStmt, map-Param, map-Params}
use Rattle.go_syntax.specs.declared.decls.Decl.TheFolds.{map-Signature}
use Rattle.go_grammar.specs.Grammar.{is_assign, is_semicolon, is_sign, is_step}
use Rattle.tree_roles.specs.Tokens.{is_kind, is_if, passes_if, parens, brackets, braces, group, held, given, in_turn}
use Rattle.tree_roles.specs.Tokens.{every, ends, between, are_labels, are_names, is_named, is_binding_if, is_guard}
use Rattle.tree_roles.specs.Tokens.{is_binary, is_comma, is_range_operator, begins_clause, InList, held_by, given_by}
use Rattle.tree_roles.specs.Tokens.{slice_marks, full_slice_marks, call_marks}
use Rattle.tree_roles.specs.Parts.{decl_layer, expr_layer, stmt_layer, element_line_layer, field_line_layer}
use Rattle.tree_roles.specs.Parts.{result_form_layer, type_expr_layer, func_decl_layer, type_spec_layer}
use Rattle.tree_roles.specs.Parts.{value_spec_layer, element_layer, listed_expr_layer, block_layer, case_clause_layer}
use Rattle.tree_roles.specs.Parts.{comm_clause_layer, for_stmt_layer, if_arm_layer, range_stmt_layer, stmt_line_layer}
use Rattle.tree_roles.specs.Parts.{switch_stmt_layer, type_switch_stmt_layer, param_layer, params_layer}
use Rattle.tree_roles.specs.Parts.{signature_layer}
use Rattle.tree_roles.specs.Roles.{roles_of_decl, roles_of_expr, roles_of_stmt, roles_of_element_line}
use Rattle.tree_roles.specs.Roles.{roles_of_field_line, roles_of_result_form, roles_of_type_expr, roles_of_func_decl}
use Rattle.tree_roles.specs.Roles.{roles_of_type_spec, roles_of_value_spec, roles_of_element, roles_of_listed_expr}
use Rattle.tree_roles.specs.Roles.{roles_of_block, roles_of_case_clause, roles_of_comm_clause, roles_of_for_stmt}
use Rattle.tree_roles.specs.Roles.{roles_of_if_arm, roles_of_range_stmt, roles_of_stmt_line, roles_of_switch_stmt}
use Rattle.tree_roles.specs.Roles.{roles_of_type_switch_stmt, roles_of_param, roles_of_params, roles_of_signature}

-- ---- a tree that is put together, by its layer

put_decl : (x : Decl-F Decl Expr Stmt ElementLine FieldLine ResultForm TypeExpr FuncDecl TypeSpec ValueSpec Element ListedExpr Block CaseClause CommClause ForStmt IfArm RangeStmt StmtLine SwitchStmt TypeSwitchStmt Param Params Signature) → roles_of_decl (roll-Decl x) ≡ decl_layer (map-Decl Decl Expr Stmt ElementLine FieldLine ResultForm TypeExpr FuncDecl TypeSpec ValueSpec Element ListedExpr Block CaseClause CommClause ForStmt IfArm RangeStmt StmtLine SwitchStmt TypeSwitchStmt Param Params Signature Bool Bool Bool InList InList Bool Bool Bool InList InList InList InList Bool Bool Bool Bool Bool Bool InList Bool Bool InList Bool Bool roles_of_decl roles_of_expr roles_of_stmt roles_of_element_line roles_of_field_line roles_of_result_form roles_of_type_expr roles_of_func_decl roles_of_type_spec roles_of_value_spec roles_of_element roles_of_listed_expr roles_of_block roles_of_case_clause roles_of_comm_clause roles_of_for_stmt roles_of_if_arm roles_of_range_stmt roles_of_stmt_line roles_of_switch_stmt roles_of_type_switch_stmt roles_of_param roles_of_params roles_of_signature x)
unfolding roles_of_decl roles_of_expr roles_of_stmt roles_of_element_line roles_of_field_line roles_of_result_form roles_of_type_expr roles_of_func_decl roles_of_type_spec roles_of_value_spec roles_of_element roles_of_listed_expr roles_of_block roles_of_case_clause roles_of_comm_clause roles_of_for_stmt roles_of_if_arm roles_of_range_stmt roles_of_stmt_line roles_of_switch_stmt roles_of_type_switch_stmt roles_of_param roles_of_params roles_of_signature
put_decl x = fold-roll-Decl Bool Bool Bool InList InList Bool Bool Bool InList InList InList InList Bool Bool Bool Bool Bool Bool InList Bool Bool InList Bool Bool decl_layer expr_layer stmt_layer element_line_layer field_line_layer result_form_layer type_expr_layer func_decl_layer type_spec_layer value_spec_layer element_layer listed_expr_layer block_layer case_clause_layer comm_clause_layer for_stmt_layer if_arm_layer range_stmt_layer stmt_line_layer switch_stmt_layer type_switch_stmt_layer param_layer params_layer signature_layer x

put_expr : (x : Expr-F Decl Expr Stmt ElementLine FieldLine ResultForm TypeExpr FuncDecl TypeSpec ValueSpec Element ListedExpr Block CaseClause CommClause ForStmt IfArm RangeStmt StmtLine SwitchStmt TypeSwitchStmt Param Params Signature) → roles_of_expr (roll-Expr x) ≡ expr_layer (map-Expr Decl Expr Stmt ElementLine FieldLine ResultForm TypeExpr FuncDecl TypeSpec ValueSpec Element ListedExpr Block CaseClause CommClause ForStmt IfArm RangeStmt StmtLine SwitchStmt TypeSwitchStmt Param Params Signature Bool Bool Bool InList InList Bool Bool Bool InList InList InList InList Bool Bool Bool Bool Bool Bool InList Bool Bool InList Bool Bool roles_of_decl roles_of_expr roles_of_stmt roles_of_element_line roles_of_field_line roles_of_result_form roles_of_type_expr roles_of_func_decl roles_of_type_spec roles_of_value_spec roles_of_element roles_of_listed_expr roles_of_block roles_of_case_clause roles_of_comm_clause roles_of_for_stmt roles_of_if_arm roles_of_range_stmt roles_of_stmt_line roles_of_switch_stmt roles_of_type_switch_stmt roles_of_param roles_of_params roles_of_signature x)
unfolding roles_of_decl roles_of_expr roles_of_stmt roles_of_element_line roles_of_field_line roles_of_result_form roles_of_type_expr roles_of_func_decl roles_of_type_spec roles_of_value_spec roles_of_element roles_of_listed_expr roles_of_block roles_of_case_clause roles_of_comm_clause roles_of_for_stmt roles_of_if_arm roles_of_range_stmt roles_of_stmt_line roles_of_switch_stmt roles_of_type_switch_stmt roles_of_param roles_of_params roles_of_signature
put_expr x = fold-roll-Expr Bool Bool Bool InList InList Bool Bool Bool InList InList InList InList Bool Bool Bool Bool Bool Bool InList Bool Bool InList Bool Bool decl_layer expr_layer stmt_layer element_line_layer field_line_layer result_form_layer type_expr_layer func_decl_layer type_spec_layer value_spec_layer element_layer listed_expr_layer block_layer case_clause_layer comm_clause_layer for_stmt_layer if_arm_layer range_stmt_layer stmt_line_layer switch_stmt_layer type_switch_stmt_layer param_layer params_layer signature_layer x

put_stmt : (x : Stmt-F Decl Expr Stmt ElementLine FieldLine ResultForm TypeExpr FuncDecl TypeSpec ValueSpec Element ListedExpr Block CaseClause CommClause ForStmt IfArm RangeStmt StmtLine SwitchStmt TypeSwitchStmt Param Params Signature) → roles_of_stmt (roll-Stmt x) ≡ stmt_layer (map-Stmt Decl Expr Stmt ElementLine FieldLine ResultForm TypeExpr FuncDecl TypeSpec ValueSpec Element ListedExpr Block CaseClause CommClause ForStmt IfArm RangeStmt StmtLine SwitchStmt TypeSwitchStmt Param Params Signature Bool Bool Bool InList InList Bool Bool Bool InList InList InList InList Bool Bool Bool Bool Bool Bool InList Bool Bool InList Bool Bool roles_of_decl roles_of_expr roles_of_stmt roles_of_element_line roles_of_field_line roles_of_result_form roles_of_type_expr roles_of_func_decl roles_of_type_spec roles_of_value_spec roles_of_element roles_of_listed_expr roles_of_block roles_of_case_clause roles_of_comm_clause roles_of_for_stmt roles_of_if_arm roles_of_range_stmt roles_of_stmt_line roles_of_switch_stmt roles_of_type_switch_stmt roles_of_param roles_of_params roles_of_signature x)
unfolding roles_of_decl roles_of_expr roles_of_stmt roles_of_element_line roles_of_field_line roles_of_result_form roles_of_type_expr roles_of_func_decl roles_of_type_spec roles_of_value_spec roles_of_element roles_of_listed_expr roles_of_block roles_of_case_clause roles_of_comm_clause roles_of_for_stmt roles_of_if_arm roles_of_range_stmt roles_of_stmt_line roles_of_switch_stmt roles_of_type_switch_stmt roles_of_param roles_of_params roles_of_signature
put_stmt x = fold-roll-Stmt Bool Bool Bool InList InList Bool Bool Bool InList InList InList InList Bool Bool Bool Bool Bool Bool InList Bool Bool InList Bool Bool decl_layer expr_layer stmt_layer element_line_layer field_line_layer result_form_layer type_expr_layer func_decl_layer type_spec_layer value_spec_layer element_layer listed_expr_layer block_layer case_clause_layer comm_clause_layer for_stmt_layer if_arm_layer range_stmt_layer stmt_line_layer switch_stmt_layer type_switch_stmt_layer param_layer params_layer signature_layer x

put_element_line : (x : ElementLine-F Decl Expr Stmt ElementLine FieldLine ResultForm TypeExpr FuncDecl TypeSpec ValueSpec Element ListedExpr Block CaseClause CommClause ForStmt IfArm RangeStmt StmtLine SwitchStmt TypeSwitchStmt Param Params Signature) → roles_of_element_line (roll-ElementLine x) ≡ element_line_layer (map-ElementLine Decl Expr Stmt ElementLine FieldLine ResultForm TypeExpr FuncDecl TypeSpec ValueSpec Element ListedExpr Block CaseClause CommClause ForStmt IfArm RangeStmt StmtLine SwitchStmt TypeSwitchStmt Param Params Signature Bool Bool Bool InList InList Bool Bool Bool InList InList InList InList Bool Bool Bool Bool Bool Bool InList Bool Bool InList Bool Bool roles_of_decl roles_of_expr roles_of_stmt roles_of_element_line roles_of_field_line roles_of_result_form roles_of_type_expr roles_of_func_decl roles_of_type_spec roles_of_value_spec roles_of_element roles_of_listed_expr roles_of_block roles_of_case_clause roles_of_comm_clause roles_of_for_stmt roles_of_if_arm roles_of_range_stmt roles_of_stmt_line roles_of_switch_stmt roles_of_type_switch_stmt roles_of_param roles_of_params roles_of_signature x)
unfolding roles_of_decl roles_of_expr roles_of_stmt roles_of_element_line roles_of_field_line roles_of_result_form roles_of_type_expr roles_of_func_decl roles_of_type_spec roles_of_value_spec roles_of_element roles_of_listed_expr roles_of_block roles_of_case_clause roles_of_comm_clause roles_of_for_stmt roles_of_if_arm roles_of_range_stmt roles_of_stmt_line roles_of_switch_stmt roles_of_type_switch_stmt roles_of_param roles_of_params roles_of_signature
put_element_line x = fold-roll-ElementLine Bool Bool Bool InList InList Bool Bool Bool InList InList InList InList Bool Bool Bool Bool Bool Bool InList Bool Bool InList Bool Bool decl_layer expr_layer stmt_layer element_line_layer field_line_layer result_form_layer type_expr_layer func_decl_layer type_spec_layer value_spec_layer element_layer listed_expr_layer block_layer case_clause_layer comm_clause_layer for_stmt_layer if_arm_layer range_stmt_layer stmt_line_layer switch_stmt_layer type_switch_stmt_layer param_layer params_layer signature_layer x

put_field_line : (x : FieldLine-F Decl Expr Stmt ElementLine FieldLine ResultForm TypeExpr FuncDecl TypeSpec ValueSpec Element ListedExpr Block CaseClause CommClause ForStmt IfArm RangeStmt StmtLine SwitchStmt TypeSwitchStmt Param Params Signature) → roles_of_field_line (roll-FieldLine x) ≡ field_line_layer (map-FieldLine Decl Expr Stmt ElementLine FieldLine ResultForm TypeExpr FuncDecl TypeSpec ValueSpec Element ListedExpr Block CaseClause CommClause ForStmt IfArm RangeStmt StmtLine SwitchStmt TypeSwitchStmt Param Params Signature Bool Bool Bool InList InList Bool Bool Bool InList InList InList InList Bool Bool Bool Bool Bool Bool InList Bool Bool InList Bool Bool roles_of_decl roles_of_expr roles_of_stmt roles_of_element_line roles_of_field_line roles_of_result_form roles_of_type_expr roles_of_func_decl roles_of_type_spec roles_of_value_spec roles_of_element roles_of_listed_expr roles_of_block roles_of_case_clause roles_of_comm_clause roles_of_for_stmt roles_of_if_arm roles_of_range_stmt roles_of_stmt_line roles_of_switch_stmt roles_of_type_switch_stmt roles_of_param roles_of_params roles_of_signature x)
unfolding roles_of_decl roles_of_expr roles_of_stmt roles_of_element_line roles_of_field_line roles_of_result_form roles_of_type_expr roles_of_func_decl roles_of_type_spec roles_of_value_spec roles_of_element roles_of_listed_expr roles_of_block roles_of_case_clause roles_of_comm_clause roles_of_for_stmt roles_of_if_arm roles_of_range_stmt roles_of_stmt_line roles_of_switch_stmt roles_of_type_switch_stmt roles_of_param roles_of_params roles_of_signature
put_field_line x = fold-roll-FieldLine Bool Bool Bool InList InList Bool Bool Bool InList InList InList InList Bool Bool Bool Bool Bool Bool InList Bool Bool InList Bool Bool decl_layer expr_layer stmt_layer element_line_layer field_line_layer result_form_layer type_expr_layer func_decl_layer type_spec_layer value_spec_layer element_layer listed_expr_layer block_layer case_clause_layer comm_clause_layer for_stmt_layer if_arm_layer range_stmt_layer stmt_line_layer switch_stmt_layer type_switch_stmt_layer param_layer params_layer signature_layer x

put_result_form : (x : ResultForm-F Decl Expr Stmt ElementLine FieldLine ResultForm TypeExpr FuncDecl TypeSpec ValueSpec Element ListedExpr Block CaseClause CommClause ForStmt IfArm RangeStmt StmtLine SwitchStmt TypeSwitchStmt Param Params Signature) → roles_of_result_form (roll-ResultForm x) ≡ result_form_layer (map-ResultForm Decl Expr Stmt ElementLine FieldLine ResultForm TypeExpr FuncDecl TypeSpec ValueSpec Element ListedExpr Block CaseClause CommClause ForStmt IfArm RangeStmt StmtLine SwitchStmt TypeSwitchStmt Param Params Signature Bool Bool Bool InList InList Bool Bool Bool InList InList InList InList Bool Bool Bool Bool Bool Bool InList Bool Bool InList Bool Bool roles_of_decl roles_of_expr roles_of_stmt roles_of_element_line roles_of_field_line roles_of_result_form roles_of_type_expr roles_of_func_decl roles_of_type_spec roles_of_value_spec roles_of_element roles_of_listed_expr roles_of_block roles_of_case_clause roles_of_comm_clause roles_of_for_stmt roles_of_if_arm roles_of_range_stmt roles_of_stmt_line roles_of_switch_stmt roles_of_type_switch_stmt roles_of_param roles_of_params roles_of_signature x)
unfolding roles_of_decl roles_of_expr roles_of_stmt roles_of_element_line roles_of_field_line roles_of_result_form roles_of_type_expr roles_of_func_decl roles_of_type_spec roles_of_value_spec roles_of_element roles_of_listed_expr roles_of_block roles_of_case_clause roles_of_comm_clause roles_of_for_stmt roles_of_if_arm roles_of_range_stmt roles_of_stmt_line roles_of_switch_stmt roles_of_type_switch_stmt roles_of_param roles_of_params roles_of_signature
put_result_form x = fold-roll-ResultForm Bool Bool Bool InList InList Bool Bool Bool InList InList InList InList Bool Bool Bool Bool Bool Bool InList Bool Bool InList Bool Bool decl_layer expr_layer stmt_layer element_line_layer field_line_layer result_form_layer type_expr_layer func_decl_layer type_spec_layer value_spec_layer element_layer listed_expr_layer block_layer case_clause_layer comm_clause_layer for_stmt_layer if_arm_layer range_stmt_layer stmt_line_layer switch_stmt_layer type_switch_stmt_layer param_layer params_layer signature_layer x

put_type_expr : (x : TypeExpr-F Decl Expr Stmt ElementLine FieldLine ResultForm TypeExpr FuncDecl TypeSpec ValueSpec Element ListedExpr Block CaseClause CommClause ForStmt IfArm RangeStmt StmtLine SwitchStmt TypeSwitchStmt Param Params Signature) → roles_of_type_expr (roll-TypeExpr x) ≡ type_expr_layer (map-TypeExpr Decl Expr Stmt ElementLine FieldLine ResultForm TypeExpr FuncDecl TypeSpec ValueSpec Element ListedExpr Block CaseClause CommClause ForStmt IfArm RangeStmt StmtLine SwitchStmt TypeSwitchStmt Param Params Signature Bool Bool Bool InList InList Bool Bool Bool InList InList InList InList Bool Bool Bool Bool Bool Bool InList Bool Bool InList Bool Bool roles_of_decl roles_of_expr roles_of_stmt roles_of_element_line roles_of_field_line roles_of_result_form roles_of_type_expr roles_of_func_decl roles_of_type_spec roles_of_value_spec roles_of_element roles_of_listed_expr roles_of_block roles_of_case_clause roles_of_comm_clause roles_of_for_stmt roles_of_if_arm roles_of_range_stmt roles_of_stmt_line roles_of_switch_stmt roles_of_type_switch_stmt roles_of_param roles_of_params roles_of_signature x)
unfolding roles_of_decl roles_of_expr roles_of_stmt roles_of_element_line roles_of_field_line roles_of_result_form roles_of_type_expr roles_of_func_decl roles_of_type_spec roles_of_value_spec roles_of_element roles_of_listed_expr roles_of_block roles_of_case_clause roles_of_comm_clause roles_of_for_stmt roles_of_if_arm roles_of_range_stmt roles_of_stmt_line roles_of_switch_stmt roles_of_type_switch_stmt roles_of_param roles_of_params roles_of_signature
put_type_expr x = fold-roll-TypeExpr Bool Bool Bool InList InList Bool Bool Bool InList InList InList InList Bool Bool Bool Bool Bool Bool InList Bool Bool InList Bool Bool decl_layer expr_layer stmt_layer element_line_layer field_line_layer result_form_layer type_expr_layer func_decl_layer type_spec_layer value_spec_layer element_layer listed_expr_layer block_layer case_clause_layer comm_clause_layer for_stmt_layer if_arm_layer range_stmt_layer stmt_line_layer switch_stmt_layer type_switch_stmt_layer param_layer params_layer signature_layer x

put_func_decl : (x : FuncDecl-F Decl Expr Stmt ElementLine FieldLine ResultForm TypeExpr FuncDecl TypeSpec ValueSpec Element ListedExpr Block CaseClause CommClause ForStmt IfArm RangeStmt StmtLine SwitchStmt TypeSwitchStmt Param Params Signature) → roles_of_func_decl (roll-FuncDecl x) ≡ func_decl_layer (map-FuncDecl Decl Expr Stmt ElementLine FieldLine ResultForm TypeExpr FuncDecl TypeSpec ValueSpec Element ListedExpr Block CaseClause CommClause ForStmt IfArm RangeStmt StmtLine SwitchStmt TypeSwitchStmt Param Params Signature Bool Bool Bool InList InList Bool Bool Bool InList InList InList InList Bool Bool Bool Bool Bool Bool InList Bool Bool InList Bool Bool roles_of_decl roles_of_expr roles_of_stmt roles_of_element_line roles_of_field_line roles_of_result_form roles_of_type_expr roles_of_func_decl roles_of_type_spec roles_of_value_spec roles_of_element roles_of_listed_expr roles_of_block roles_of_case_clause roles_of_comm_clause roles_of_for_stmt roles_of_if_arm roles_of_range_stmt roles_of_stmt_line roles_of_switch_stmt roles_of_type_switch_stmt roles_of_param roles_of_params roles_of_signature x)
unfolding roles_of_decl roles_of_expr roles_of_stmt roles_of_element_line roles_of_field_line roles_of_result_form roles_of_type_expr roles_of_func_decl roles_of_type_spec roles_of_value_spec roles_of_element roles_of_listed_expr roles_of_block roles_of_case_clause roles_of_comm_clause roles_of_for_stmt roles_of_if_arm roles_of_range_stmt roles_of_stmt_line roles_of_switch_stmt roles_of_type_switch_stmt roles_of_param roles_of_params roles_of_signature
put_func_decl x = fold-roll-FuncDecl Bool Bool Bool InList InList Bool Bool Bool InList InList InList InList Bool Bool Bool Bool Bool Bool InList Bool Bool InList Bool Bool decl_layer expr_layer stmt_layer element_line_layer field_line_layer result_form_layer type_expr_layer func_decl_layer type_spec_layer value_spec_layer element_layer listed_expr_layer block_layer case_clause_layer comm_clause_layer for_stmt_layer if_arm_layer range_stmt_layer stmt_line_layer switch_stmt_layer type_switch_stmt_layer param_layer params_layer signature_layer x

put_type_spec : (x : TypeSpec-F Decl Expr Stmt ElementLine FieldLine ResultForm TypeExpr FuncDecl TypeSpec ValueSpec Element ListedExpr Block CaseClause CommClause ForStmt IfArm RangeStmt StmtLine SwitchStmt TypeSwitchStmt Param Params Signature) → roles_of_type_spec (roll-TypeSpec x) ≡ type_spec_layer (map-TypeSpec Decl Expr Stmt ElementLine FieldLine ResultForm TypeExpr FuncDecl TypeSpec ValueSpec Element ListedExpr Block CaseClause CommClause ForStmt IfArm RangeStmt StmtLine SwitchStmt TypeSwitchStmt Param Params Signature Bool Bool Bool InList InList Bool Bool Bool InList InList InList InList Bool Bool Bool Bool Bool Bool InList Bool Bool InList Bool Bool roles_of_decl roles_of_expr roles_of_stmt roles_of_element_line roles_of_field_line roles_of_result_form roles_of_type_expr roles_of_func_decl roles_of_type_spec roles_of_value_spec roles_of_element roles_of_listed_expr roles_of_block roles_of_case_clause roles_of_comm_clause roles_of_for_stmt roles_of_if_arm roles_of_range_stmt roles_of_stmt_line roles_of_switch_stmt roles_of_type_switch_stmt roles_of_param roles_of_params roles_of_signature x)
unfolding roles_of_decl roles_of_expr roles_of_stmt roles_of_element_line roles_of_field_line roles_of_result_form roles_of_type_expr roles_of_func_decl roles_of_type_spec roles_of_value_spec roles_of_element roles_of_listed_expr roles_of_block roles_of_case_clause roles_of_comm_clause roles_of_for_stmt roles_of_if_arm roles_of_range_stmt roles_of_stmt_line roles_of_switch_stmt roles_of_type_switch_stmt roles_of_param roles_of_params roles_of_signature
put_type_spec x = fold-roll-TypeSpec Bool Bool Bool InList InList Bool Bool Bool InList InList InList InList Bool Bool Bool Bool Bool Bool InList Bool Bool InList Bool Bool decl_layer expr_layer stmt_layer element_line_layer field_line_layer result_form_layer type_expr_layer func_decl_layer type_spec_layer value_spec_layer element_layer listed_expr_layer block_layer case_clause_layer comm_clause_layer for_stmt_layer if_arm_layer range_stmt_layer stmt_line_layer switch_stmt_layer type_switch_stmt_layer param_layer params_layer signature_layer x

put_value_spec : (x : ValueSpec-F Decl Expr Stmt ElementLine FieldLine ResultForm TypeExpr FuncDecl TypeSpec ValueSpec Element ListedExpr Block CaseClause CommClause ForStmt IfArm RangeStmt StmtLine SwitchStmt TypeSwitchStmt Param Params Signature) → roles_of_value_spec (roll-ValueSpec x) ≡ value_spec_layer (map-ValueSpec Decl Expr Stmt ElementLine FieldLine ResultForm TypeExpr FuncDecl TypeSpec ValueSpec Element ListedExpr Block CaseClause CommClause ForStmt IfArm RangeStmt StmtLine SwitchStmt TypeSwitchStmt Param Params Signature Bool Bool Bool InList InList Bool Bool Bool InList InList InList InList Bool Bool Bool Bool Bool Bool InList Bool Bool InList Bool Bool roles_of_decl roles_of_expr roles_of_stmt roles_of_element_line roles_of_field_line roles_of_result_form roles_of_type_expr roles_of_func_decl roles_of_type_spec roles_of_value_spec roles_of_element roles_of_listed_expr roles_of_block roles_of_case_clause roles_of_comm_clause roles_of_for_stmt roles_of_if_arm roles_of_range_stmt roles_of_stmt_line roles_of_switch_stmt roles_of_type_switch_stmt roles_of_param roles_of_params roles_of_signature x)
unfolding roles_of_decl roles_of_expr roles_of_stmt roles_of_element_line roles_of_field_line roles_of_result_form roles_of_type_expr roles_of_func_decl roles_of_type_spec roles_of_value_spec roles_of_element roles_of_listed_expr roles_of_block roles_of_case_clause roles_of_comm_clause roles_of_for_stmt roles_of_if_arm roles_of_range_stmt roles_of_stmt_line roles_of_switch_stmt roles_of_type_switch_stmt roles_of_param roles_of_params roles_of_signature
put_value_spec x = fold-roll-ValueSpec Bool Bool Bool InList InList Bool Bool Bool InList InList InList InList Bool Bool Bool Bool Bool Bool InList Bool Bool InList Bool Bool decl_layer expr_layer stmt_layer element_line_layer field_line_layer result_form_layer type_expr_layer func_decl_layer type_spec_layer value_spec_layer element_layer listed_expr_layer block_layer case_clause_layer comm_clause_layer for_stmt_layer if_arm_layer range_stmt_layer stmt_line_layer switch_stmt_layer type_switch_stmt_layer param_layer params_layer signature_layer x

put_element : (x : Element-F Decl Expr Stmt ElementLine FieldLine ResultForm TypeExpr FuncDecl TypeSpec ValueSpec Element ListedExpr Block CaseClause CommClause ForStmt IfArm RangeStmt StmtLine SwitchStmt TypeSwitchStmt Param Params Signature) → roles_of_element (roll-Element x) ≡ element_layer (map-Element Decl Expr Stmt ElementLine FieldLine ResultForm TypeExpr FuncDecl TypeSpec ValueSpec Element ListedExpr Block CaseClause CommClause ForStmt IfArm RangeStmt StmtLine SwitchStmt TypeSwitchStmt Param Params Signature Bool Bool Bool InList InList Bool Bool Bool InList InList InList InList Bool Bool Bool Bool Bool Bool InList Bool Bool InList Bool Bool roles_of_decl roles_of_expr roles_of_stmt roles_of_element_line roles_of_field_line roles_of_result_form roles_of_type_expr roles_of_func_decl roles_of_type_spec roles_of_value_spec roles_of_element roles_of_listed_expr roles_of_block roles_of_case_clause roles_of_comm_clause roles_of_for_stmt roles_of_if_arm roles_of_range_stmt roles_of_stmt_line roles_of_switch_stmt roles_of_type_switch_stmt roles_of_param roles_of_params roles_of_signature x)
unfolding roles_of_decl roles_of_expr roles_of_stmt roles_of_element_line roles_of_field_line roles_of_result_form roles_of_type_expr roles_of_func_decl roles_of_type_spec roles_of_value_spec roles_of_element roles_of_listed_expr roles_of_block roles_of_case_clause roles_of_comm_clause roles_of_for_stmt roles_of_if_arm roles_of_range_stmt roles_of_stmt_line roles_of_switch_stmt roles_of_type_switch_stmt roles_of_param roles_of_params roles_of_signature
put_element x = fold-roll-Element Bool Bool Bool InList InList Bool Bool Bool InList InList InList InList Bool Bool Bool Bool Bool Bool InList Bool Bool InList Bool Bool decl_layer expr_layer stmt_layer element_line_layer field_line_layer result_form_layer type_expr_layer func_decl_layer type_spec_layer value_spec_layer element_layer listed_expr_layer block_layer case_clause_layer comm_clause_layer for_stmt_layer if_arm_layer range_stmt_layer stmt_line_layer switch_stmt_layer type_switch_stmt_layer param_layer params_layer signature_layer x

put_listed_expr : (x : ListedExpr-F Decl Expr Stmt ElementLine FieldLine ResultForm TypeExpr FuncDecl TypeSpec ValueSpec Element ListedExpr Block CaseClause CommClause ForStmt IfArm RangeStmt StmtLine SwitchStmt TypeSwitchStmt Param Params Signature) → roles_of_listed_expr (roll-ListedExpr x) ≡ listed_expr_layer (map-ListedExpr Decl Expr Stmt ElementLine FieldLine ResultForm TypeExpr FuncDecl TypeSpec ValueSpec Element ListedExpr Block CaseClause CommClause ForStmt IfArm RangeStmt StmtLine SwitchStmt TypeSwitchStmt Param Params Signature Bool Bool Bool InList InList Bool Bool Bool InList InList InList InList Bool Bool Bool Bool Bool Bool InList Bool Bool InList Bool Bool roles_of_decl roles_of_expr roles_of_stmt roles_of_element_line roles_of_field_line roles_of_result_form roles_of_type_expr roles_of_func_decl roles_of_type_spec roles_of_value_spec roles_of_element roles_of_listed_expr roles_of_block roles_of_case_clause roles_of_comm_clause roles_of_for_stmt roles_of_if_arm roles_of_range_stmt roles_of_stmt_line roles_of_switch_stmt roles_of_type_switch_stmt roles_of_param roles_of_params roles_of_signature x)
unfolding roles_of_decl roles_of_expr roles_of_stmt roles_of_element_line roles_of_field_line roles_of_result_form roles_of_type_expr roles_of_func_decl roles_of_type_spec roles_of_value_spec roles_of_element roles_of_listed_expr roles_of_block roles_of_case_clause roles_of_comm_clause roles_of_for_stmt roles_of_if_arm roles_of_range_stmt roles_of_stmt_line roles_of_switch_stmt roles_of_type_switch_stmt roles_of_param roles_of_params roles_of_signature
put_listed_expr x = fold-roll-ListedExpr Bool Bool Bool InList InList Bool Bool Bool InList InList InList InList Bool Bool Bool Bool Bool Bool InList Bool Bool InList Bool Bool decl_layer expr_layer stmt_layer element_line_layer field_line_layer result_form_layer type_expr_layer func_decl_layer type_spec_layer value_spec_layer element_layer listed_expr_layer block_layer case_clause_layer comm_clause_layer for_stmt_layer if_arm_layer range_stmt_layer stmt_line_layer switch_stmt_layer type_switch_stmt_layer param_layer params_layer signature_layer x

put_block : (x : Block-F Decl Expr Stmt ElementLine FieldLine ResultForm TypeExpr FuncDecl TypeSpec ValueSpec Element ListedExpr Block CaseClause CommClause ForStmt IfArm RangeStmt StmtLine SwitchStmt TypeSwitchStmt Param Params Signature) → roles_of_block (roll-Block x) ≡ block_layer (map-Block Decl Expr Stmt ElementLine FieldLine ResultForm TypeExpr FuncDecl TypeSpec ValueSpec Element ListedExpr Block CaseClause CommClause ForStmt IfArm RangeStmt StmtLine SwitchStmt TypeSwitchStmt Param Params Signature Bool Bool Bool InList InList Bool Bool Bool InList InList InList InList Bool Bool Bool Bool Bool Bool InList Bool Bool InList Bool Bool roles_of_decl roles_of_expr roles_of_stmt roles_of_element_line roles_of_field_line roles_of_result_form roles_of_type_expr roles_of_func_decl roles_of_type_spec roles_of_value_spec roles_of_element roles_of_listed_expr roles_of_block roles_of_case_clause roles_of_comm_clause roles_of_for_stmt roles_of_if_arm roles_of_range_stmt roles_of_stmt_line roles_of_switch_stmt roles_of_type_switch_stmt roles_of_param roles_of_params roles_of_signature x)
unfolding roles_of_decl roles_of_expr roles_of_stmt roles_of_element_line roles_of_field_line roles_of_result_form roles_of_type_expr roles_of_func_decl roles_of_type_spec roles_of_value_spec roles_of_element roles_of_listed_expr roles_of_block roles_of_case_clause roles_of_comm_clause roles_of_for_stmt roles_of_if_arm roles_of_range_stmt roles_of_stmt_line roles_of_switch_stmt roles_of_type_switch_stmt roles_of_param roles_of_params roles_of_signature
put_block x = fold-roll-Block Bool Bool Bool InList InList Bool Bool Bool InList InList InList InList Bool Bool Bool Bool Bool Bool InList Bool Bool InList Bool Bool decl_layer expr_layer stmt_layer element_line_layer field_line_layer result_form_layer type_expr_layer func_decl_layer type_spec_layer value_spec_layer element_layer listed_expr_layer block_layer case_clause_layer comm_clause_layer for_stmt_layer if_arm_layer range_stmt_layer stmt_line_layer switch_stmt_layer type_switch_stmt_layer param_layer params_layer signature_layer x

put_case_clause : (x : CaseClause-F Decl Expr Stmt ElementLine FieldLine ResultForm TypeExpr FuncDecl TypeSpec ValueSpec Element ListedExpr Block CaseClause CommClause ForStmt IfArm RangeStmt StmtLine SwitchStmt TypeSwitchStmt Param Params Signature) → roles_of_case_clause (roll-CaseClause x) ≡ case_clause_layer (map-CaseClause Decl Expr Stmt ElementLine FieldLine ResultForm TypeExpr FuncDecl TypeSpec ValueSpec Element ListedExpr Block CaseClause CommClause ForStmt IfArm RangeStmt StmtLine SwitchStmt TypeSwitchStmt Param Params Signature Bool Bool Bool InList InList Bool Bool Bool InList InList InList InList Bool Bool Bool Bool Bool Bool InList Bool Bool InList Bool Bool roles_of_decl roles_of_expr roles_of_stmt roles_of_element_line roles_of_field_line roles_of_result_form roles_of_type_expr roles_of_func_decl roles_of_type_spec roles_of_value_spec roles_of_element roles_of_listed_expr roles_of_block roles_of_case_clause roles_of_comm_clause roles_of_for_stmt roles_of_if_arm roles_of_range_stmt roles_of_stmt_line roles_of_switch_stmt roles_of_type_switch_stmt roles_of_param roles_of_params roles_of_signature x)
unfolding roles_of_decl roles_of_expr roles_of_stmt roles_of_element_line roles_of_field_line roles_of_result_form roles_of_type_expr roles_of_func_decl roles_of_type_spec roles_of_value_spec roles_of_element roles_of_listed_expr roles_of_block roles_of_case_clause roles_of_comm_clause roles_of_for_stmt roles_of_if_arm roles_of_range_stmt roles_of_stmt_line roles_of_switch_stmt roles_of_type_switch_stmt roles_of_param roles_of_params roles_of_signature
put_case_clause x = fold-roll-CaseClause Bool Bool Bool InList InList Bool Bool Bool InList InList InList InList Bool Bool Bool Bool Bool Bool InList Bool Bool InList Bool Bool decl_layer expr_layer stmt_layer element_line_layer field_line_layer result_form_layer type_expr_layer func_decl_layer type_spec_layer value_spec_layer element_layer listed_expr_layer block_layer case_clause_layer comm_clause_layer for_stmt_layer if_arm_layer range_stmt_layer stmt_line_layer switch_stmt_layer type_switch_stmt_layer param_layer params_layer signature_layer x

put_comm_clause : (x : CommClause-F Decl Expr Stmt ElementLine FieldLine ResultForm TypeExpr FuncDecl TypeSpec ValueSpec Element ListedExpr Block CaseClause CommClause ForStmt IfArm RangeStmt StmtLine SwitchStmt TypeSwitchStmt Param Params Signature) → roles_of_comm_clause (roll-CommClause x) ≡ comm_clause_layer (map-CommClause Decl Expr Stmt ElementLine FieldLine ResultForm TypeExpr FuncDecl TypeSpec ValueSpec Element ListedExpr Block CaseClause CommClause ForStmt IfArm RangeStmt StmtLine SwitchStmt TypeSwitchStmt Param Params Signature Bool Bool Bool InList InList Bool Bool Bool InList InList InList InList Bool Bool Bool Bool Bool Bool InList Bool Bool InList Bool Bool roles_of_decl roles_of_expr roles_of_stmt roles_of_element_line roles_of_field_line roles_of_result_form roles_of_type_expr roles_of_func_decl roles_of_type_spec roles_of_value_spec roles_of_element roles_of_listed_expr roles_of_block roles_of_case_clause roles_of_comm_clause roles_of_for_stmt roles_of_if_arm roles_of_range_stmt roles_of_stmt_line roles_of_switch_stmt roles_of_type_switch_stmt roles_of_param roles_of_params roles_of_signature x)
unfolding roles_of_decl roles_of_expr roles_of_stmt roles_of_element_line roles_of_field_line roles_of_result_form roles_of_type_expr roles_of_func_decl roles_of_type_spec roles_of_value_spec roles_of_element roles_of_listed_expr roles_of_block roles_of_case_clause roles_of_comm_clause roles_of_for_stmt roles_of_if_arm roles_of_range_stmt roles_of_stmt_line roles_of_switch_stmt roles_of_type_switch_stmt roles_of_param roles_of_params roles_of_signature
put_comm_clause x = fold-roll-CommClause Bool Bool Bool InList InList Bool Bool Bool InList InList InList InList Bool Bool Bool Bool Bool Bool InList Bool Bool InList Bool Bool decl_layer expr_layer stmt_layer element_line_layer field_line_layer result_form_layer type_expr_layer func_decl_layer type_spec_layer value_spec_layer element_layer listed_expr_layer block_layer case_clause_layer comm_clause_layer for_stmt_layer if_arm_layer range_stmt_layer stmt_line_layer switch_stmt_layer type_switch_stmt_layer param_layer params_layer signature_layer x

put_for_stmt : (x : ForStmt-F Decl Expr Stmt ElementLine FieldLine ResultForm TypeExpr FuncDecl TypeSpec ValueSpec Element ListedExpr Block CaseClause CommClause ForStmt IfArm RangeStmt StmtLine SwitchStmt TypeSwitchStmt Param Params Signature) → roles_of_for_stmt (roll-ForStmt x) ≡ for_stmt_layer (map-ForStmt Decl Expr Stmt ElementLine FieldLine ResultForm TypeExpr FuncDecl TypeSpec ValueSpec Element ListedExpr Block CaseClause CommClause ForStmt IfArm RangeStmt StmtLine SwitchStmt TypeSwitchStmt Param Params Signature Bool Bool Bool InList InList Bool Bool Bool InList InList InList InList Bool Bool Bool Bool Bool Bool InList Bool Bool InList Bool Bool roles_of_decl roles_of_expr roles_of_stmt roles_of_element_line roles_of_field_line roles_of_result_form roles_of_type_expr roles_of_func_decl roles_of_type_spec roles_of_value_spec roles_of_element roles_of_listed_expr roles_of_block roles_of_case_clause roles_of_comm_clause roles_of_for_stmt roles_of_if_arm roles_of_range_stmt roles_of_stmt_line roles_of_switch_stmt roles_of_type_switch_stmt roles_of_param roles_of_params roles_of_signature x)
unfolding roles_of_decl roles_of_expr roles_of_stmt roles_of_element_line roles_of_field_line roles_of_result_form roles_of_type_expr roles_of_func_decl roles_of_type_spec roles_of_value_spec roles_of_element roles_of_listed_expr roles_of_block roles_of_case_clause roles_of_comm_clause roles_of_for_stmt roles_of_if_arm roles_of_range_stmt roles_of_stmt_line roles_of_switch_stmt roles_of_type_switch_stmt roles_of_param roles_of_params roles_of_signature
put_for_stmt x = fold-roll-ForStmt Bool Bool Bool InList InList Bool Bool Bool InList InList InList InList Bool Bool Bool Bool Bool Bool InList Bool Bool InList Bool Bool decl_layer expr_layer stmt_layer element_line_layer field_line_layer result_form_layer type_expr_layer func_decl_layer type_spec_layer value_spec_layer element_layer listed_expr_layer block_layer case_clause_layer comm_clause_layer for_stmt_layer if_arm_layer range_stmt_layer stmt_line_layer switch_stmt_layer type_switch_stmt_layer param_layer params_layer signature_layer x

put_if_arm : (x : IfArm-F Decl Expr Stmt ElementLine FieldLine ResultForm TypeExpr FuncDecl TypeSpec ValueSpec Element ListedExpr Block CaseClause CommClause ForStmt IfArm RangeStmt StmtLine SwitchStmt TypeSwitchStmt Param Params Signature) → roles_of_if_arm (roll-IfArm x) ≡ if_arm_layer (map-IfArm Decl Expr Stmt ElementLine FieldLine ResultForm TypeExpr FuncDecl TypeSpec ValueSpec Element ListedExpr Block CaseClause CommClause ForStmt IfArm RangeStmt StmtLine SwitchStmt TypeSwitchStmt Param Params Signature Bool Bool Bool InList InList Bool Bool Bool InList InList InList InList Bool Bool Bool Bool Bool Bool InList Bool Bool InList Bool Bool roles_of_decl roles_of_expr roles_of_stmt roles_of_element_line roles_of_field_line roles_of_result_form roles_of_type_expr roles_of_func_decl roles_of_type_spec roles_of_value_spec roles_of_element roles_of_listed_expr roles_of_block roles_of_case_clause roles_of_comm_clause roles_of_for_stmt roles_of_if_arm roles_of_range_stmt roles_of_stmt_line roles_of_switch_stmt roles_of_type_switch_stmt roles_of_param roles_of_params roles_of_signature x)
unfolding roles_of_decl roles_of_expr roles_of_stmt roles_of_element_line roles_of_field_line roles_of_result_form roles_of_type_expr roles_of_func_decl roles_of_type_spec roles_of_value_spec roles_of_element roles_of_listed_expr roles_of_block roles_of_case_clause roles_of_comm_clause roles_of_for_stmt roles_of_if_arm roles_of_range_stmt roles_of_stmt_line roles_of_switch_stmt roles_of_type_switch_stmt roles_of_param roles_of_params roles_of_signature
put_if_arm x = fold-roll-IfArm Bool Bool Bool InList InList Bool Bool Bool InList InList InList InList Bool Bool Bool Bool Bool Bool InList Bool Bool InList Bool Bool decl_layer expr_layer stmt_layer element_line_layer field_line_layer result_form_layer type_expr_layer func_decl_layer type_spec_layer value_spec_layer element_layer listed_expr_layer block_layer case_clause_layer comm_clause_layer for_stmt_layer if_arm_layer range_stmt_layer stmt_line_layer switch_stmt_layer type_switch_stmt_layer param_layer params_layer signature_layer x

put_range_stmt : (x : RangeStmt-F Decl Expr Stmt ElementLine FieldLine ResultForm TypeExpr FuncDecl TypeSpec ValueSpec Element ListedExpr Block CaseClause CommClause ForStmt IfArm RangeStmt StmtLine SwitchStmt TypeSwitchStmt Param Params Signature) → roles_of_range_stmt (roll-RangeStmt x) ≡ range_stmt_layer (map-RangeStmt Decl Expr Stmt ElementLine FieldLine ResultForm TypeExpr FuncDecl TypeSpec ValueSpec Element ListedExpr Block CaseClause CommClause ForStmt IfArm RangeStmt StmtLine SwitchStmt TypeSwitchStmt Param Params Signature Bool Bool Bool InList InList Bool Bool Bool InList InList InList InList Bool Bool Bool Bool Bool Bool InList Bool Bool InList Bool Bool roles_of_decl roles_of_expr roles_of_stmt roles_of_element_line roles_of_field_line roles_of_result_form roles_of_type_expr roles_of_func_decl roles_of_type_spec roles_of_value_spec roles_of_element roles_of_listed_expr roles_of_block roles_of_case_clause roles_of_comm_clause roles_of_for_stmt roles_of_if_arm roles_of_range_stmt roles_of_stmt_line roles_of_switch_stmt roles_of_type_switch_stmt roles_of_param roles_of_params roles_of_signature x)
unfolding roles_of_decl roles_of_expr roles_of_stmt roles_of_element_line roles_of_field_line roles_of_result_form roles_of_type_expr roles_of_func_decl roles_of_type_spec roles_of_value_spec roles_of_element roles_of_listed_expr roles_of_block roles_of_case_clause roles_of_comm_clause roles_of_for_stmt roles_of_if_arm roles_of_range_stmt roles_of_stmt_line roles_of_switch_stmt roles_of_type_switch_stmt roles_of_param roles_of_params roles_of_signature
put_range_stmt x = fold-roll-RangeStmt Bool Bool Bool InList InList Bool Bool Bool InList InList InList InList Bool Bool Bool Bool Bool Bool InList Bool Bool InList Bool Bool decl_layer expr_layer stmt_layer element_line_layer field_line_layer result_form_layer type_expr_layer func_decl_layer type_spec_layer value_spec_layer element_layer listed_expr_layer block_layer case_clause_layer comm_clause_layer for_stmt_layer if_arm_layer range_stmt_layer stmt_line_layer switch_stmt_layer type_switch_stmt_layer param_layer params_layer signature_layer x

put_stmt_line : (x : StmtLine-F Decl Expr Stmt ElementLine FieldLine ResultForm TypeExpr FuncDecl TypeSpec ValueSpec Element ListedExpr Block CaseClause CommClause ForStmt IfArm RangeStmt StmtLine SwitchStmt TypeSwitchStmt Param Params Signature) → roles_of_stmt_line (roll-StmtLine x) ≡ stmt_line_layer (map-StmtLine Decl Expr Stmt ElementLine FieldLine ResultForm TypeExpr FuncDecl TypeSpec ValueSpec Element ListedExpr Block CaseClause CommClause ForStmt IfArm RangeStmt StmtLine SwitchStmt TypeSwitchStmt Param Params Signature Bool Bool Bool InList InList Bool Bool Bool InList InList InList InList Bool Bool Bool Bool Bool Bool InList Bool Bool InList Bool Bool roles_of_decl roles_of_expr roles_of_stmt roles_of_element_line roles_of_field_line roles_of_result_form roles_of_type_expr roles_of_func_decl roles_of_type_spec roles_of_value_spec roles_of_element roles_of_listed_expr roles_of_block roles_of_case_clause roles_of_comm_clause roles_of_for_stmt roles_of_if_arm roles_of_range_stmt roles_of_stmt_line roles_of_switch_stmt roles_of_type_switch_stmt roles_of_param roles_of_params roles_of_signature x)
unfolding roles_of_decl roles_of_expr roles_of_stmt roles_of_element_line roles_of_field_line roles_of_result_form roles_of_type_expr roles_of_func_decl roles_of_type_spec roles_of_value_spec roles_of_element roles_of_listed_expr roles_of_block roles_of_case_clause roles_of_comm_clause roles_of_for_stmt roles_of_if_arm roles_of_range_stmt roles_of_stmt_line roles_of_switch_stmt roles_of_type_switch_stmt roles_of_param roles_of_params roles_of_signature
put_stmt_line x = fold-roll-StmtLine Bool Bool Bool InList InList Bool Bool Bool InList InList InList InList Bool Bool Bool Bool Bool Bool InList Bool Bool InList Bool Bool decl_layer expr_layer stmt_layer element_line_layer field_line_layer result_form_layer type_expr_layer func_decl_layer type_spec_layer value_spec_layer element_layer listed_expr_layer block_layer case_clause_layer comm_clause_layer for_stmt_layer if_arm_layer range_stmt_layer stmt_line_layer switch_stmt_layer type_switch_stmt_layer param_layer params_layer signature_layer x

put_switch_stmt : (x : SwitchStmt-F Decl Expr Stmt ElementLine FieldLine ResultForm TypeExpr FuncDecl TypeSpec ValueSpec Element ListedExpr Block CaseClause CommClause ForStmt IfArm RangeStmt StmtLine SwitchStmt TypeSwitchStmt Param Params Signature) → roles_of_switch_stmt (roll-SwitchStmt x) ≡ switch_stmt_layer (map-SwitchStmt Decl Expr Stmt ElementLine FieldLine ResultForm TypeExpr FuncDecl TypeSpec ValueSpec Element ListedExpr Block CaseClause CommClause ForStmt IfArm RangeStmt StmtLine SwitchStmt TypeSwitchStmt Param Params Signature Bool Bool Bool InList InList Bool Bool Bool InList InList InList InList Bool Bool Bool Bool Bool Bool InList Bool Bool InList Bool Bool roles_of_decl roles_of_expr roles_of_stmt roles_of_element_line roles_of_field_line roles_of_result_form roles_of_type_expr roles_of_func_decl roles_of_type_spec roles_of_value_spec roles_of_element roles_of_listed_expr roles_of_block roles_of_case_clause roles_of_comm_clause roles_of_for_stmt roles_of_if_arm roles_of_range_stmt roles_of_stmt_line roles_of_switch_stmt roles_of_type_switch_stmt roles_of_param roles_of_params roles_of_signature x)
unfolding roles_of_decl roles_of_expr roles_of_stmt roles_of_element_line roles_of_field_line roles_of_result_form roles_of_type_expr roles_of_func_decl roles_of_type_spec roles_of_value_spec roles_of_element roles_of_listed_expr roles_of_block roles_of_case_clause roles_of_comm_clause roles_of_for_stmt roles_of_if_arm roles_of_range_stmt roles_of_stmt_line roles_of_switch_stmt roles_of_type_switch_stmt roles_of_param roles_of_params roles_of_signature
put_switch_stmt x = fold-roll-SwitchStmt Bool Bool Bool InList InList Bool Bool Bool InList InList InList InList Bool Bool Bool Bool Bool Bool InList Bool Bool InList Bool Bool decl_layer expr_layer stmt_layer element_line_layer field_line_layer result_form_layer type_expr_layer func_decl_layer type_spec_layer value_spec_layer element_layer listed_expr_layer block_layer case_clause_layer comm_clause_layer for_stmt_layer if_arm_layer range_stmt_layer stmt_line_layer switch_stmt_layer type_switch_stmt_layer param_layer params_layer signature_layer x

put_type_switch_stmt : (x : TypeSwitchStmt-F Decl Expr Stmt ElementLine FieldLine ResultForm TypeExpr FuncDecl TypeSpec ValueSpec Element ListedExpr Block CaseClause CommClause ForStmt IfArm RangeStmt StmtLine SwitchStmt TypeSwitchStmt Param Params Signature) → roles_of_type_switch_stmt (roll-TypeSwitchStmt x) ≡ type_switch_stmt_layer (map-TypeSwitchStmt Decl Expr Stmt ElementLine FieldLine ResultForm TypeExpr FuncDecl TypeSpec ValueSpec Element ListedExpr Block CaseClause CommClause ForStmt IfArm RangeStmt StmtLine SwitchStmt TypeSwitchStmt Param Params Signature Bool Bool Bool InList InList Bool Bool Bool InList InList InList InList Bool Bool Bool Bool Bool Bool InList Bool Bool InList Bool Bool roles_of_decl roles_of_expr roles_of_stmt roles_of_element_line roles_of_field_line roles_of_result_form roles_of_type_expr roles_of_func_decl roles_of_type_spec roles_of_value_spec roles_of_element roles_of_listed_expr roles_of_block roles_of_case_clause roles_of_comm_clause roles_of_for_stmt roles_of_if_arm roles_of_range_stmt roles_of_stmt_line roles_of_switch_stmt roles_of_type_switch_stmt roles_of_param roles_of_params roles_of_signature x)
unfolding roles_of_decl roles_of_expr roles_of_stmt roles_of_element_line roles_of_field_line roles_of_result_form roles_of_type_expr roles_of_func_decl roles_of_type_spec roles_of_value_spec roles_of_element roles_of_listed_expr roles_of_block roles_of_case_clause roles_of_comm_clause roles_of_for_stmt roles_of_if_arm roles_of_range_stmt roles_of_stmt_line roles_of_switch_stmt roles_of_type_switch_stmt roles_of_param roles_of_params roles_of_signature
put_type_switch_stmt x = fold-roll-TypeSwitchStmt Bool Bool Bool InList InList Bool Bool Bool InList InList InList InList Bool Bool Bool Bool Bool Bool InList Bool Bool InList Bool Bool decl_layer expr_layer stmt_layer element_line_layer field_line_layer result_form_layer type_expr_layer func_decl_layer type_spec_layer value_spec_layer element_layer listed_expr_layer block_layer case_clause_layer comm_clause_layer for_stmt_layer if_arm_layer range_stmt_layer stmt_line_layer switch_stmt_layer type_switch_stmt_layer param_layer params_layer signature_layer x

put_param : (x : Param-F Decl Expr Stmt ElementLine FieldLine ResultForm TypeExpr FuncDecl TypeSpec ValueSpec Element ListedExpr Block CaseClause CommClause ForStmt IfArm RangeStmt StmtLine SwitchStmt TypeSwitchStmt Param Params Signature) → roles_of_param (roll-Param x) ≡ param_layer (map-Param Decl Expr Stmt ElementLine FieldLine ResultForm TypeExpr FuncDecl TypeSpec ValueSpec Element ListedExpr Block CaseClause CommClause ForStmt IfArm RangeStmt StmtLine SwitchStmt TypeSwitchStmt Param Params Signature Bool Bool Bool InList InList Bool Bool Bool InList InList InList InList Bool Bool Bool Bool Bool Bool InList Bool Bool InList Bool Bool roles_of_decl roles_of_expr roles_of_stmt roles_of_element_line roles_of_field_line roles_of_result_form roles_of_type_expr roles_of_func_decl roles_of_type_spec roles_of_value_spec roles_of_element roles_of_listed_expr roles_of_block roles_of_case_clause roles_of_comm_clause roles_of_for_stmt roles_of_if_arm roles_of_range_stmt roles_of_stmt_line roles_of_switch_stmt roles_of_type_switch_stmt roles_of_param roles_of_params roles_of_signature x)
unfolding roles_of_decl roles_of_expr roles_of_stmt roles_of_element_line roles_of_field_line roles_of_result_form roles_of_type_expr roles_of_func_decl roles_of_type_spec roles_of_value_spec roles_of_element roles_of_listed_expr roles_of_block roles_of_case_clause roles_of_comm_clause roles_of_for_stmt roles_of_if_arm roles_of_range_stmt roles_of_stmt_line roles_of_switch_stmt roles_of_type_switch_stmt roles_of_param roles_of_params roles_of_signature
put_param x = fold-roll-Param Bool Bool Bool InList InList Bool Bool Bool InList InList InList InList Bool Bool Bool Bool Bool Bool InList Bool Bool InList Bool Bool decl_layer expr_layer stmt_layer element_line_layer field_line_layer result_form_layer type_expr_layer func_decl_layer type_spec_layer value_spec_layer element_layer listed_expr_layer block_layer case_clause_layer comm_clause_layer for_stmt_layer if_arm_layer range_stmt_layer stmt_line_layer switch_stmt_layer type_switch_stmt_layer param_layer params_layer signature_layer x

put_params : (x : Params-F Decl Expr Stmt ElementLine FieldLine ResultForm TypeExpr FuncDecl TypeSpec ValueSpec Element ListedExpr Block CaseClause CommClause ForStmt IfArm RangeStmt StmtLine SwitchStmt TypeSwitchStmt Param Params Signature) → roles_of_params (roll-Params x) ≡ params_layer (map-Params Decl Expr Stmt ElementLine FieldLine ResultForm TypeExpr FuncDecl TypeSpec ValueSpec Element ListedExpr Block CaseClause CommClause ForStmt IfArm RangeStmt StmtLine SwitchStmt TypeSwitchStmt Param Params Signature Bool Bool Bool InList InList Bool Bool Bool InList InList InList InList Bool Bool Bool Bool Bool Bool InList Bool Bool InList Bool Bool roles_of_decl roles_of_expr roles_of_stmt roles_of_element_line roles_of_field_line roles_of_result_form roles_of_type_expr roles_of_func_decl roles_of_type_spec roles_of_value_spec roles_of_element roles_of_listed_expr roles_of_block roles_of_case_clause roles_of_comm_clause roles_of_for_stmt roles_of_if_arm roles_of_range_stmt roles_of_stmt_line roles_of_switch_stmt roles_of_type_switch_stmt roles_of_param roles_of_params roles_of_signature x)
unfolding roles_of_decl roles_of_expr roles_of_stmt roles_of_element_line roles_of_field_line roles_of_result_form roles_of_type_expr roles_of_func_decl roles_of_type_spec roles_of_value_spec roles_of_element roles_of_listed_expr roles_of_block roles_of_case_clause roles_of_comm_clause roles_of_for_stmt roles_of_if_arm roles_of_range_stmt roles_of_stmt_line roles_of_switch_stmt roles_of_type_switch_stmt roles_of_param roles_of_params roles_of_signature
put_params x = fold-roll-Params Bool Bool Bool InList InList Bool Bool Bool InList InList InList InList Bool Bool Bool Bool Bool Bool InList Bool Bool InList Bool Bool decl_layer expr_layer stmt_layer element_line_layer field_line_layer result_form_layer type_expr_layer func_decl_layer type_spec_layer value_spec_layer element_layer listed_expr_layer block_layer case_clause_layer comm_clause_layer for_stmt_layer if_arm_layer range_stmt_layer stmt_line_layer switch_stmt_layer type_switch_stmt_layer param_layer params_layer signature_layer x

put_signature : (x : Signature-F Decl Expr Stmt ElementLine FieldLine ResultForm TypeExpr FuncDecl TypeSpec ValueSpec Element ListedExpr Block CaseClause CommClause ForStmt IfArm RangeStmt StmtLine SwitchStmt TypeSwitchStmt Param Params Signature) → roles_of_signature (roll-Signature x) ≡ signature_layer (map-Signature Decl Expr Stmt ElementLine FieldLine ResultForm TypeExpr FuncDecl TypeSpec ValueSpec Element ListedExpr Block CaseClause CommClause ForStmt IfArm RangeStmt StmtLine SwitchStmt TypeSwitchStmt Param Params Signature Bool Bool Bool InList InList Bool Bool Bool InList InList InList InList Bool Bool Bool Bool Bool Bool InList Bool Bool InList Bool Bool roles_of_decl roles_of_expr roles_of_stmt roles_of_element_line roles_of_field_line roles_of_result_form roles_of_type_expr roles_of_func_decl roles_of_type_spec roles_of_value_spec roles_of_element roles_of_listed_expr roles_of_block roles_of_case_clause roles_of_comm_clause roles_of_for_stmt roles_of_if_arm roles_of_range_stmt roles_of_stmt_line roles_of_switch_stmt roles_of_type_switch_stmt roles_of_param roles_of_params roles_of_signature x)
unfolding roles_of_decl roles_of_expr roles_of_stmt roles_of_element_line roles_of_field_line roles_of_result_form roles_of_type_expr roles_of_func_decl roles_of_type_spec roles_of_value_spec roles_of_element roles_of_listed_expr roles_of_block roles_of_case_clause roles_of_comm_clause roles_of_for_stmt roles_of_if_arm roles_of_range_stmt roles_of_stmt_line roles_of_switch_stmt roles_of_type_switch_stmt roles_of_param roles_of_params roles_of_signature
put_signature x = fold-roll-Signature Bool Bool Bool InList InList Bool Bool Bool InList InList InList InList Bool Bool Bool Bool Bool Bool InList Bool Bool InList Bool Bool decl_layer expr_layer stmt_layer element_line_layer field_line_layer result_form_layer type_expr_layer func_decl_layer type_spec_layer value_spec_layer element_layer listed_expr_layer block_layer case_clause_layer comm_clause_layer for_stmt_layer if_arm_layer range_stmt_layer stmt_line_layer switch_stmt_layer type_switch_stmt_layer param_layer params_layer signature_layer x

-- ---- Decl

pub decl_const : (word : Token) («open» : Option Token) (specs : Vec ValueSpec) (close : Option Token) → roles_of_decl (decls.Const word «open» specs close) ≡ (group kinds.ConstWord word «open» (in_turn (map roles_of_value_spec specs.items)) close)
decl_const word «open» specs close = ap roles_of_decl (sym (decls.rolls-Const word «open» specs close)) ∙ put_decl (layers.Decl-F.Const word «open» specs close)

pub decl_type_decl : (word : Token) («open» : Option Token) (specs : Vec TypeSpec) (close : Option Token) → roles_of_decl (decls.TypeDecl word «open» specs close) ≡ (group kinds.TypeWord word «open» (in_turn (map roles_of_type_spec specs.items)) close)
decl_type_decl word «open» specs close = ap roles_of_decl (sym (decls.rolls-TypeDecl word «open» specs close)) ∙ put_decl (layers.Decl-F.TypeDecl word «open» specs close)

pub decl_var : (word : Token) («open» : Option Token) (specs : Vec ValueSpec) (close : Option Token) → roles_of_decl (decls.Var word «open» specs close) ≡ (group kinds.VarWord word «open» (in_turn (map roles_of_value_spec specs.items)) close)
decl_var word «open» specs close = ap roles_of_decl (sym (decls.rolls-Var word «open» specs close)) ∙ put_decl (layers.Decl-F.Var word «open» specs close)

pub decl_func : (decl : Box FuncDecl) → roles_of_decl (decls.Func decl) ≡ (roles_of_func_decl decl.value)
decl_func decl = ap roles_of_decl (sym (decls.rolls-Func decl)) ∙ put_decl (layers.Decl-F.Func decl)

-- ---- Expr

pub expr_int : (token : Token) → roles_of_expr (exprs.Int token) ≡ (is_kind kinds.Int token)
expr_int token = ap roles_of_expr (sym (exprs.rolls-Int token)) ∙ put_expr (layers.Expr-F.Int token)

pub expr_rune : (token : Token) → roles_of_expr (exprs.Rune token) ≡ (is_kind kinds.Rune token)
expr_rune token = ap roles_of_expr (sym (exprs.rolls-Rune token)) ∙ put_expr (layers.Expr-F.Rune token)

pub expr_text : (token : Token) → roles_of_expr (exprs.Text token) ≡ (is_kind kinds.Text token)
expr_text token = ap roles_of_expr (sym (exprs.rolls-Text token)) ∙ put_expr (layers.Expr-F.Text token)

pub expr_name : (token : Token) → roles_of_expr (exprs.Name token) ≡ (is_kind kinds.Name token)
expr_name token = ap roles_of_expr (sym (exprs.rolls-Name token)) ∙ put_expr (layers.Expr-F.Expr::Name token)

pub expr_paren : («open» : Token) (inner : Box Expr) (close : Token) → roles_of_expr (exprs.Paren «open» inner close) ≡ (parens «open» close && roles_of_expr inner.value)
expr_paren «open» inner close = ap roles_of_expr (sym (exprs.rolls-Paren «open» inner close)) ∙ put_expr (layers.Expr-F.Expr::Paren «open» inner close)

pub expr_function : (word : Token) (signature : Box Signature) (body : Box Block) → roles_of_expr (exprs.Function word signature body) ≡ (is_kind kinds.FuncWord word && roles_of_signature signature.value && roles_of_block body.value)
expr_function word signature body = ap roles_of_expr (sym (exprs.rolls-Function word signature body)) ∙ put_expr (layers.Expr-F.Expr::Function word signature body)

pub expr_type_form : (form : Box TypeExpr) → roles_of_expr (exprs.TypeForm form) ≡ (roles_of_type_expr form.value)
expr_type_form form = ap roles_of_expr (sym (exprs.rolls-TypeForm form)) ∙ put_expr (layers.Expr-F.Expr::TypeForm form)

pub expr_composite : (form : Option (Box TypeExpr)) («open» : Token) (elements : Vec Element) (close : Token) → roles_of_expr (exprs.Composite form «open» elements close) ≡ (held_by roles_of_type_expr form && braces «open» close && in_turn (map roles_of_element elements.items))
expr_composite None «open» elements close = ap roles_of_expr (sym (exprs.rolls-Composite None «open» elements close)) ∙ put_expr (layers.Expr-F.Composite None «open» elements close)
expr_composite (Some form) «open» elements close = ap roles_of_expr (sym (exprs.rolls-Composite (Some form) «open» elements close)) ∙ put_expr (layers.Expr-F.Composite (Some form) «open» elements close)

pub expr_selector : (operand : Box Expr) (dot : Token) (name : Token) → roles_of_expr (exprs.Selector operand dot name) ≡ (roles_of_expr operand.value && is_kind kinds.Dot dot && is_kind kinds.Name name)
expr_selector operand dot name = ap roles_of_expr (sym (exprs.rolls-Selector operand dot name)) ∙ put_expr (layers.Expr-F.Selector operand dot name)

pub expr_assertion : (operand : Box Expr) (dot : Token) («open» : Token) (form : Box TypeExpr) (close : Token) → roles_of_expr (exprs.Assertion operand dot «open» form close) ≡ (roles_of_expr operand.value && is_kind kinds.Dot dot && parens «open» close && roles_of_type_expr form.value)
expr_assertion operand dot «open» form close = ap roles_of_expr (sym (exprs.rolls-Assertion operand dot «open» form close)) ∙ put_expr (layers.Expr-F.Assertion operand dot «open» form close)

pub expr_index : (operand : Box Expr) («open» : Token) (index : Box Expr) (close : Token) → roles_of_expr (exprs.Index operand «open» index close) ≡ (roles_of_expr operand.value && brackets «open» close && roles_of_expr index.value)
expr_index operand «open» index close = ap roles_of_expr (sym (exprs.rolls-Index operand «open» index close)) ∙ put_expr (layers.Expr-F.Index operand «open» index close)

pub expr_slice : (operand : Box Expr) («open» : Token) (low : Option (Box Expr)) (colon : Token) (high : Option (Box Expr)) (close : Token) → roles_of_expr (exprs.Slice operand «open» low colon high close) ≡ (roles_of_expr operand.value && slice_marks «open» colon close && held_by roles_of_expr low && held_by roles_of_expr high)
expr_slice operand «open» None colon None close = ap roles_of_expr (sym (exprs.rolls-Slice operand «open» None colon None close)) ∙ put_expr (layers.Expr-F.Expr::Slice operand «open» None colon None close)
expr_slice operand «open» None colon (Some high) close = ap roles_of_expr (sym (exprs.rolls-Slice operand «open» None colon (Some high) close)) ∙ put_expr (layers.Expr-F.Expr::Slice operand «open» None colon (Some high) close)
expr_slice operand «open» (Some low) colon None close = ap roles_of_expr (sym (exprs.rolls-Slice operand «open» (Some low) colon None close)) ∙ put_expr (layers.Expr-F.Expr::Slice operand «open» (Some low) colon None close)
expr_slice operand «open» (Some low) colon (Some high) close = ap roles_of_expr (sym (exprs.rolls-Slice operand «open» (Some low) colon (Some high) close)) ∙ put_expr (layers.Expr-F.Expr::Slice operand «open» (Some low) colon (Some high) close)

pub expr_full_slice : (operand : Box Expr) («open» : Token) (low : Option (Box Expr)) (colon : Token) (high : Box Expr) (second_colon : Token) (max : Box Expr) (close : Token) → roles_of_expr (exprs.FullSlice operand «open» low colon high second_colon max close) ≡ (roles_of_expr operand.value && full_slice_marks «open» colon second_colon close && (held_by roles_of_expr low && roles_of_expr high.value && roles_of_expr max.value))
expr_full_slice operand «open» None colon high second_colon max close = ap roles_of_expr (sym (exprs.rolls-FullSlice operand «open» None colon high second_colon max close)) ∙ put_expr (layers.Expr-F.FullSlice operand «open» None colon high second_colon max close)
expr_full_slice operand «open» (Some low) colon high second_colon max close = ap roles_of_expr (sym (exprs.rolls-FullSlice operand «open» (Some low) colon high second_colon max close)) ∙ put_expr (layers.Expr-F.FullSlice operand «open» (Some low) colon high second_colon max close)

pub expr_call : (callee : Box Expr) («open» : Token) (arguments : Vec ListedExpr) (ellipsis : Option Token) (comma : Option Token) (close : Token) → roles_of_expr (exprs.Call callee «open» arguments ellipsis comma close) ≡ (roles_of_expr callee.value && call_marks «open» ellipsis comma close && in_turn (map roles_of_listed_expr arguments.items))
expr_call callee «open» arguments ellipsis comma close = ap roles_of_expr (sym (exprs.rolls-Call callee «open» arguments ellipsis comma close)) ∙ put_expr (layers.Expr-F.Call callee «open» arguments ellipsis comma close)

pub expr_unary : (operator : Token) (operand : Box Expr) → roles_of_expr (exprs.Unary operator operand) ≡ (is_sign operator.kind && roles_of_expr operand.value)
expr_unary operator operand = ap roles_of_expr (sym (exprs.rolls-Unary operator operand)) ∙ put_expr (layers.Expr-F.Unary operator operand)

pub expr_binary : (left : Box Expr) (operator : Token) (right : Box Expr) → roles_of_expr (exprs.Binary left operator right) ≡ (roles_of_expr left.value && is_binary operator.kind && roles_of_expr right.value)
expr_binary left operator right = ap roles_of_expr (sym (exprs.rolls-Binary left operator right)) ∙ put_expr (layers.Expr-F.Binary left operator right)

-- ---- Stmt

pub stmt_decl : (decl : Box Decl) → roles_of_stmt (stmts.Decl decl) ≡ (roles_of_decl decl.value)
stmt_decl decl = ap roles_of_stmt (sym (stmts.rolls-Decl decl)) ∙ put_stmt (layers.Stmt-F.Decl decl)

pub stmt_labeled : (labels : Vec Label) (stmt : Option (Box Stmt)) → roles_of_stmt (stmts.Labeled labels stmt) ≡ (are_labels labels.items && held_by roles_of_stmt stmt)
stmt_labeled labels None = ap roles_of_stmt (sym (stmts.rolls-Labeled labels None)) ∙ put_stmt (layers.Stmt-F.Labeled labels None)
stmt_labeled labels (Some stmt) = ap roles_of_stmt (sym (stmts.rolls-Labeled labels (Some stmt))) ∙ put_stmt (layers.Stmt-F.Labeled labels (Some stmt))

pub stmt_expr : (expr : Box Expr) → roles_of_stmt (stmts.Expr expr) ≡ (roles_of_expr expr.value)
stmt_expr expr = ap roles_of_stmt (sym (stmts.rolls-Expr expr)) ∙ put_stmt (layers.Stmt-F.Expr expr)

pub stmt_send : (channel : Box Expr) (arrow : Token) (value : Box Expr) → roles_of_stmt (stmts.Send channel arrow value) ≡ (roles_of_expr channel.value && is_kind kinds.Arrow arrow && roles_of_expr value.value)
stmt_send channel arrow value = ap roles_of_stmt (sym (stmts.rolls-Send channel arrow value)) ∙ put_stmt (layers.Stmt-F.Send channel arrow value)

pub stmt_step : (operand : Box Expr) (operator : Token) → roles_of_stmt (stmts.Step operand operator) ≡ (roles_of_expr operand.value && is_step operator.kind)
stmt_step operand operator = ap roles_of_stmt (sym (stmts.rolls-Step operand operator)) ∙ put_stmt (layers.Stmt-F.Step operand operator)

pub stmt_assign : (targets : Vec ListedExpr) (operator : Token) (values : Vec ListedExpr) → roles_of_stmt (stmts.Assign targets operator values) ≡ (in_turn (map roles_of_listed_expr targets.items) && is_assign operator.kind && in_turn (map roles_of_listed_expr values.items))
stmt_assign targets operator values = ap roles_of_stmt (sym (stmts.rolls-Assign targets operator values)) ∙ put_stmt (layers.Stmt-F.Assign targets operator values)

pub stmt_define : (targets : Vec ListedExpr) (operator : Token) (values : Vec ListedExpr) → roles_of_stmt (stmts.Define targets operator values) ≡ (in_turn (map roles_of_listed_expr targets.items) && is_kind kinds.Define operator && in_turn (map roles_of_listed_expr values.items))
stmt_define targets operator values = ap roles_of_stmt (sym (stmts.rolls-Define targets operator values)) ∙ put_stmt (layers.Stmt-F.Define targets operator values)

pub stmt_go : (word : Token) (call : Box Expr) → roles_of_stmt (stmts.Go word call) ≡ (is_kind kinds.GoWord word && roles_of_expr call.value)
stmt_go word call = ap roles_of_stmt (sym (stmts.rolls-Go word call)) ∙ put_stmt (layers.Stmt-F.Go word call)

pub stmt_defer : (word : Token) (call : Box Expr) → roles_of_stmt (stmts.Defer word call) ≡ (is_kind kinds.DeferWord word && roles_of_expr call.value)
stmt_defer word call = ap roles_of_stmt (sym (stmts.rolls-Defer word call)) ∙ put_stmt (layers.Stmt-F.Defer word call)

pub stmt_return : (word : Token) (results : Vec ListedExpr) → roles_of_stmt (stmts.Return word results) ≡ (is_kind kinds.ReturnWord word && in_turn (map roles_of_listed_expr results.items))
stmt_return word results = ap roles_of_stmt (sym (stmts.rolls-Return word results)) ∙ put_stmt (layers.Stmt-F.Return word results)

pub stmt_break : (word : Token) (label : Option Token) → roles_of_stmt (stmts.Break word label) ≡ (is_kind kinds.BreakWord word && is_if kinds.Name label)
stmt_break word label = ap roles_of_stmt (sym (stmts.rolls-Break word label)) ∙ put_stmt (layers.Stmt-F.Break word label)

pub stmt_continue : (word : Token) (label : Option Token) → roles_of_stmt (stmts.Continue word label) ≡ (is_kind kinds.ContinueWord word && is_if kinds.Name label)
stmt_continue word label = ap roles_of_stmt (sym (stmts.rolls-Continue word label)) ∙ put_stmt (layers.Stmt-F.Continue word label)

pub stmt_fallthrough : (token : Token) → roles_of_stmt (stmts.Fallthrough token) ≡ (is_kind kinds.FallthroughWord token)
stmt_fallthrough token = ap roles_of_stmt (sym (stmts.rolls-Fallthrough token)) ∙ put_stmt (layers.Stmt-F.Fallthrough token)

pub stmt_block : (block : Block) → roles_of_stmt (stmts.Block block) ≡ (roles_of_block block)
stmt_block block = ap roles_of_stmt (sym (stmts.rolls-Block block)) ∙ put_stmt (layers.Stmt-F.Block block)

pub stmt_if : (arms : Vec IfArm) (else_word : Option Token) (otherwise : Option (Box Block)) → roles_of_stmt (stmts.If arms else_word otherwise) ≡ (every (map roles_of_if_arm arms.items) && is_if kinds.ElseWord else_word && held_by roles_of_block otherwise)
stmt_if arms else_word None = ap roles_of_stmt (sym (stmts.rolls-If arms else_word None)) ∙ put_stmt (layers.Stmt-F.If arms else_word None)
stmt_if arms else_word (Some otherwise) = ap roles_of_stmt (sym (stmts.rolls-If arms else_word (Some otherwise))) ∙ put_stmt (layers.Stmt-F.If arms else_word (Some otherwise))

pub stmt_switch : (stmt : Box SwitchStmt) → roles_of_stmt (stmts.Switch stmt) ≡ (roles_of_switch_stmt stmt.value)
stmt_switch stmt = ap roles_of_stmt (sym (stmts.rolls-Switch stmt)) ∙ put_stmt (layers.Stmt-F.Switch stmt)

pub stmt_type_switch : (stmt : Box TypeSwitchStmt) → roles_of_stmt (stmts.TypeSwitch stmt) ≡ (roles_of_type_switch_stmt stmt.value)
stmt_type_switch stmt = ap roles_of_stmt (sym (stmts.rolls-TypeSwitch stmt)) ∙ put_stmt (layers.Stmt-F.TypeSwitch stmt)

pub stmt_select : (word : Token) («open» : Token) (clauses : Vec CommClause) (close : Token) → roles_of_stmt (stmts.Select word «open» clauses close) ≡ (is_kind kinds.SelectWord word && braces «open» close && every (map roles_of_comm_clause clauses.items))
stmt_select word «open» clauses close = ap roles_of_stmt (sym (stmts.rolls-Select word «open» clauses close)) ∙ put_stmt (layers.Stmt-F.Select word «open» clauses close)

pub stmt_while : (word : Token) (condition : Option (Box Expr)) (body : Box Block) → roles_of_stmt (stmts.While word condition body) ≡ (is_kind kinds.ForWord word && held_by roles_of_expr condition && roles_of_block body.value)
stmt_while word None body = ap roles_of_stmt (sym (stmts.rolls-While word None body)) ∙ put_stmt (layers.Stmt-F.While word None body)
stmt_while word (Some condition) body = ap roles_of_stmt (sym (stmts.rolls-While word (Some condition) body)) ∙ put_stmt (layers.Stmt-F.While word (Some condition) body)

pub stmt_for : (stmt : Box ForStmt) → roles_of_stmt (stmts.For stmt) ≡ (roles_of_for_stmt stmt.value)
stmt_for stmt = ap roles_of_stmt (sym (stmts.rolls-For stmt)) ∙ put_stmt (layers.Stmt-F.For stmt)

pub stmt_range : (stmt : Box RangeStmt) → roles_of_stmt (stmts.Range stmt) ≡ (roles_of_range_stmt stmt.value)
stmt_range stmt = ap roles_of_stmt (sym (stmts.rolls-Range stmt)) ∙ put_stmt (layers.Stmt-F.Range stmt)

-- ---- ElementLine

pub element_line_empty : (token : Token) (more : Bool) → roles_of_element_line (element_lines.Empty token) more ≡ (is_semicolon token.kind)
element_line_empty token more = ap (λ (f : InList). f more) (ap roles_of_element_line (sym (element_lines.rolls-Empty token)) ∙ put_element_line (layers.ElementLine-F.ElementLine::Empty token))

pub element_line_method : (name : Token) (signature : Box Signature) (semicolon : Option Token) (more : Bool) → roles_of_element_line (element_lines.Method name signature semicolon) more ≡ (is_kind kinds.Name name && roles_of_signature signature.value && ends is_semicolon semicolon more)
element_line_method name signature semicolon more = ap (λ (f : InList). f more) (ap roles_of_element_line (sym (element_lines.rolls-Method name signature semicolon)) ∙ put_element_line (layers.ElementLine-F.Method name signature semicolon))

pub element_line_embedded : (name : NamedType) (semicolon : Option Token) (more : Bool) → roles_of_element_line (element_lines.Embedded name semicolon) more ≡ (is_named name && ends is_semicolon semicolon more)
element_line_embedded name semicolon more = ap (λ (f : InList). f more) (ap roles_of_element_line (sym (element_lines.rolls-Embedded name semicolon)) ∙ put_element_line (layers.ElementLine-F.ElementLine::Embedded name semicolon))

-- ---- FieldLine

pub field_line_empty : (token : Token) (more : Bool) → roles_of_field_line (field_lines.Empty token) more ≡ (is_semicolon token.kind)
field_line_empty token more = ap (λ (f : InList). f more) (ap roles_of_field_line (sym (field_lines.rolls-Empty token)) ∙ put_field_line (layers.FieldLine-F.FieldLine::Empty token))

pub field_line_named : (names : Vec ListedName) (form : Box TypeExpr) (tag : Option Token) (semicolon : Option Token) (more : Bool) → roles_of_field_line (field_lines.Named names form tag semicolon) more ≡ (are_names names.items && roles_of_type_expr form.value && is_if kinds.Text tag && ends is_semicolon semicolon more)
field_line_named names form tag semicolon more = ap (λ (f : InList). f more) (ap roles_of_field_line (sym (field_lines.rolls-Named names form tag semicolon)) ∙ put_field_line (layers.FieldLine-F.Named names form tag semicolon))

pub field_line_embedded : (star : Option Token) (name : NamedType) (tag : Option Token) (semicolon : Option Token) (more : Bool) → roles_of_field_line (field_lines.Embedded star name tag semicolon) more ≡ (is_if kinds.Star star && is_named name && is_if kinds.Text tag && ends is_semicolon semicolon more)
field_line_embedded star name tag semicolon more = ap (λ (f : InList). f more) (ap roles_of_field_line (sym (field_lines.rolls-Embedded star name tag semicolon)) ∙ put_field_line (layers.FieldLine-F.FieldLine::Embedded star name tag semicolon))

-- ---- ResultForm

pub result_form_none : roles_of_result_form (results.None) ≡ (true)
result_form_none = ap roles_of_result_form (sym results.rolls-None) ∙ put_result_form layers.ResultForm-F.None

pub result_form_params : (params : Params) → roles_of_result_form (results.Params params) ≡ (roles_of_params params)
result_form_params params = ap roles_of_result_form (sym (results.rolls-Params params)) ∙ put_result_form (layers.ResultForm-F.Params params)

pub result_form_type_form : (form : Box TypeExpr) → roles_of_result_form (results.TypeForm form) ≡ (roles_of_type_expr form.value)
result_form_type_form form = ap roles_of_result_form (sym (results.rolls-TypeForm form)) ∙ put_result_form (layers.ResultForm-F.ResultForm::TypeForm form)

-- ---- TypeExpr

pub type_expr_name : (name : NamedType) → roles_of_type_expr (types.Name name) ≡ (is_named name)
type_expr_name name = ap roles_of_type_expr (sym (types.rolls-Name name)) ∙ put_type_expr (layers.TypeExpr-F.TypeExpr::Name name)

pub type_expr_paren : («open» : Token) (inner : Box TypeExpr) (close : Token) → roles_of_type_expr (types.Paren «open» inner close) ≡ (parens «open» close && roles_of_type_expr inner.value)
type_expr_paren «open» inner close = ap roles_of_type_expr (sym (types.rolls-Paren «open» inner close)) ∙ put_type_expr (layers.TypeExpr-F.TypeExpr::Paren «open» inner close)

pub type_expr_pointer : (star : Token) (base : Box TypeExpr) → roles_of_type_expr (types.Pointer star base) ≡ (is_kind kinds.Star star && roles_of_type_expr base.value)
type_expr_pointer star base = ap roles_of_type_expr (sym (types.rolls-Pointer star base)) ∙ put_type_expr (layers.TypeExpr-F.Pointer star base)

pub type_expr_slice : («open» : Token) (close : Token) (element : Box TypeExpr) → roles_of_type_expr (types.Slice «open» close element) ≡ (brackets «open» close && roles_of_type_expr element.value)
type_expr_slice «open» close element = ap roles_of_type_expr (sym (types.rolls-Slice «open» close element)) ∙ put_type_expr (layers.TypeExpr-F.TypeExpr::Slice «open» close element)

pub type_expr_array : («open» : Token) (length : Box Expr) (close : Token) (element : Box TypeExpr) → roles_of_type_expr (types.Array «open» length close element) ≡ (brackets «open» close && roles_of_expr length.value && roles_of_type_expr element.value)
type_expr_array «open» length close element = ap roles_of_type_expr (sym (types.rolls-Array «open» length close element)) ∙ put_type_expr (layers.TypeExpr-F.Array «open» length close element)

pub type_expr_open_array : («open» : Token) (ellipsis : Token) (close : Token) (element : Box TypeExpr) → roles_of_type_expr (types.OpenArray «open» ellipsis close element) ≡ (brackets «open» close && is_kind kinds.Ellipsis ellipsis && roles_of_type_expr element.value)
type_expr_open_array «open» ellipsis close element = ap roles_of_type_expr (sym (types.rolls-OpenArray «open» ellipsis close element)) ∙ put_type_expr (layers.TypeExpr-F.OpenArray «open» ellipsis close element)

pub type_expr_map : (word : Token) («open» : Token) (key : Box TypeExpr) (close : Token) (element : Box TypeExpr) → roles_of_type_expr (types.Map word «open» key close element) ≡ (is_kind kinds.MapWord word && brackets «open» close && roles_of_type_expr key.value && roles_of_type_expr element.value)
type_expr_map word «open» key close element = ap roles_of_type_expr (sym (types.rolls-Map word «open» key close element)) ∙ put_type_expr (layers.TypeExpr-F.Map word «open» key close element)

pub type_expr_chan : (word : Token) (arrow : Option Token) (element : Box TypeExpr) → roles_of_type_expr (types.Chan word arrow element) ≡ (is_kind kinds.ChanWord word && is_if kinds.Arrow arrow && roles_of_type_expr element.value)
type_expr_chan word arrow element = ap roles_of_type_expr (sym (types.rolls-Chan word arrow element)) ∙ put_type_expr (layers.TypeExpr-F.Chan word arrow element)

pub type_expr_receive_chan : (arrow : Token) (word : Token) (element : Box TypeExpr) → roles_of_type_expr (types.ReceiveChan arrow word element) ≡ (is_kind kinds.Arrow arrow && is_kind kinds.ChanWord word && roles_of_type_expr element.value)
type_expr_receive_chan arrow word element = ap roles_of_type_expr (sym (types.rolls-ReceiveChan arrow word element)) ∙ put_type_expr (layers.TypeExpr-F.ReceiveChan arrow word element)

pub type_expr_function : (word : Token) (signature : Box Signature) → roles_of_type_expr (types.Function word signature) ≡ (is_kind kinds.FuncWord word && roles_of_signature signature.value)
type_expr_function word signature = ap roles_of_type_expr (sym (types.rolls-Function word signature)) ∙ put_type_expr (layers.TypeExpr-F.TypeExpr::Function word signature)

pub type_expr_struct : (word : Token) («open» : Token) (fields : Vec FieldLine) (close : Token) → roles_of_type_expr (types.Struct word «open» fields close) ≡ (is_kind kinds.StructWord word && braces «open» close && in_turn (map roles_of_field_line fields.items))
type_expr_struct word «open» fields close = ap roles_of_type_expr (sym (types.rolls-Struct word «open» fields close)) ∙ put_type_expr (layers.TypeExpr-F.Struct word «open» fields close)

pub type_expr_interface : (word : Token) («open» : Token) (elements : Vec ElementLine) (close : Token) → roles_of_type_expr (types.Interface word «open» elements close) ≡ (is_kind kinds.InterfaceWord word && braces «open» close && in_turn (map roles_of_element_line elements.items))
type_expr_interface word «open» elements close = ap roles_of_type_expr (sym (types.rolls-Interface word «open» elements close)) ∙ put_type_expr (layers.TypeExpr-F.Interface word «open» elements close)

-- ---- FuncDecl

made_func_decl : (word : Token) (receiver : Option Params) (name : Token) (signature : Signature) (body : Option Block) → roles_of_func_decl (roll-FuncDecl (record { word = word; receiver = receiver; name = name; signature = signature; body = body })) ≡ (is_kind kinds.FuncWord word && given_by roles_of_params receiver && is_kind kinds.Name name && roles_of_signature signature && given_by roles_of_block body)
made_func_decl word None name signature None = put_func_decl (record { word = word; receiver = None; name = name; signature = signature; body = None })
made_func_decl word None name signature (Some body) = put_func_decl (record { word = word; receiver = None; name = name; signature = signature; body = Some body })
made_func_decl word (Some receiver) name signature None = put_func_decl (record { word = word; receiver = Some receiver; name = name; signature = signature; body = None })
made_func_decl word (Some receiver) name signature (Some body) = put_func_decl (record { word = word; receiver = Some receiver; name = name; signature = signature; body = Some body })

pub func_decl_made : (x : FuncDecl-F Decl Expr Stmt ElementLine FieldLine ResultForm TypeExpr FuncDecl TypeSpec ValueSpec Element ListedExpr Block CaseClause CommClause ForStmt IfArm RangeStmt StmtLine SwitchStmt TypeSwitchStmt Param Params Signature) → roles_of_func_decl (roll-FuncDecl x) ≡ (is_kind kinds.FuncWord x.word && given_by roles_of_params x.receiver && is_kind kinds.Name x.name && roles_of_signature x.signature && given_by roles_of_block x.body)
func_decl_made x = made_func_decl x.word x.receiver x.name x.signature x.body

pub func_decl_read : (t : FuncDecl) → roles_of_func_decl t ≡ (is_kind kinds.FuncWord (out-FuncDecl t).word && given_by roles_of_params (out-FuncDecl t).receiver && is_kind kinds.Name (out-FuncDecl t).name && roles_of_signature (out-FuncDecl t).signature && given_by roles_of_block (out-FuncDecl t).body)
func_decl_read t = ap (λ (t : FuncDecl). roles_of_func_decl t) (sym (roll-out-FuncDecl t)) ∙ func_decl_made (out-FuncDecl t)

-- ---- TypeSpec

pub type_spec_made : (x : TypeSpec-F Decl Expr Stmt ElementLine FieldLine ResultForm TypeExpr FuncDecl TypeSpec ValueSpec Element ListedExpr Block CaseClause CommClause ForStmt IfArm RangeStmt StmtLine SwitchStmt TypeSwitchStmt Param Params Signature) (more : Bool) → roles_of_type_spec (roll-TypeSpec x) more ≡ (is_kind kinds.Name x.name && is_if kinds.Assign x.assign && roles_of_type_expr x.form.value && ends is_semicolon x.semicolon more)
type_spec_made x more = ap (λ (f : InList). f more) (put_type_spec x)

pub type_spec_read : (t : TypeSpec) (more : Bool) → roles_of_type_spec t more ≡ (is_kind kinds.Name (out-TypeSpec t).name && is_if kinds.Assign (out-TypeSpec t).assign && roles_of_type_expr (out-TypeSpec t).form.value && ends is_semicolon (out-TypeSpec t).semicolon more)
type_spec_read t more = ap (λ (t : TypeSpec). roles_of_type_spec t more) (sym (roll-out-TypeSpec t)) ∙ type_spec_made (out-TypeSpec t) more

-- ---- ValueSpec

made_value_spec : (names : Vec ListedName) (form : Option (Box TypeExpr)) (assign : Option Token) (values : Vec ListedExpr) (semicolon : Option Token) (more : Bool) → roles_of_value_spec (roll-ValueSpec (record { names = names; form = form; assign = assign; values = values; semicolon = semicolon })) more ≡ (are_names names.items && held_by roles_of_type_expr form && is_if kinds.Assign assign && in_turn (map roles_of_listed_expr values.items) && ends is_semicolon semicolon more)
made_value_spec names None assign values semicolon more = ap (λ (f : InList). f more) (put_value_spec (record { names = names; form = None; assign = assign; values = values; semicolon = semicolon }))
made_value_spec names (Some form) assign values semicolon more = ap (λ (f : InList). f more) (put_value_spec (record { names = names; form = Some form; assign = assign; values = values; semicolon = semicolon }))

pub value_spec_made : (x : ValueSpec-F Decl Expr Stmt ElementLine FieldLine ResultForm TypeExpr FuncDecl TypeSpec ValueSpec Element ListedExpr Block CaseClause CommClause ForStmt IfArm RangeStmt StmtLine SwitchStmt TypeSwitchStmt Param Params Signature) (more : Bool) → roles_of_value_spec (roll-ValueSpec x) more ≡ (are_names x.names.items && held_by roles_of_type_expr x.form && is_if kinds.Assign x.assign && in_turn (map roles_of_listed_expr x.values.items) && ends is_semicolon x.semicolon more)
value_spec_made x more = made_value_spec x.names x.form x.assign x.values x.semicolon more

pub value_spec_read : (t : ValueSpec) (more : Bool) → roles_of_value_spec t more ≡ (are_names (out-ValueSpec t).names.items && held_by roles_of_type_expr (out-ValueSpec t).form && is_if kinds.Assign (out-ValueSpec t).assign && in_turn (map roles_of_listed_expr (out-ValueSpec t).values.items) && ends is_semicolon (out-ValueSpec t).semicolon more)
value_spec_read t more = ap (λ (t : ValueSpec). roles_of_value_spec t more) (sym (roll-out-ValueSpec t)) ∙ value_spec_made (out-ValueSpec t) more

-- ---- Element

made_element : (key : Option (Box Expr)) (colon : Option Token) (value : Box Expr) (comma : Option Token) (more : Bool) → roles_of_element (roll-Element (record { key = key; colon = colon; value = value; comma = comma })) more ≡ (held_by roles_of_expr key && is_if kinds.Colon colon && roles_of_expr value.value && ends is_comma comma more)
made_element None colon value comma more = ap (λ (f : InList). f more) (put_element (record { key = None; colon = colon; value = value; comma = comma }))
made_element (Some key) colon value comma more = ap (λ (f : InList). f more) (put_element (record { key = Some key; colon = colon; value = value; comma = comma }))

pub element_made : (x : Element-F Decl Expr Stmt ElementLine FieldLine ResultForm TypeExpr FuncDecl TypeSpec ValueSpec Element ListedExpr Block CaseClause CommClause ForStmt IfArm RangeStmt StmtLine SwitchStmt TypeSwitchStmt Param Params Signature) (more : Bool) → roles_of_element (roll-Element x) more ≡ (held_by roles_of_expr x.key && is_if kinds.Colon x.colon && roles_of_expr x.value.value && ends is_comma x.comma more)
element_made x more = made_element x.key x.colon x.value x.comma more

pub element_read : (t : Element) (more : Bool) → roles_of_element t more ≡ (held_by roles_of_expr (out-Element t).key && is_if kinds.Colon (out-Element t).colon && roles_of_expr (out-Element t).value.value && ends is_comma (out-Element t).comma more)
element_read t more = ap (λ (t : Element). roles_of_element t more) (sym (roll-out-Element t)) ∙ element_made (out-Element t) more

-- ---- ListedExpr

pub listed_expr_made : (x : ListedExpr-F Decl Expr Stmt ElementLine FieldLine ResultForm TypeExpr FuncDecl TypeSpec ValueSpec Element ListedExpr Block CaseClause CommClause ForStmt IfArm RangeStmt StmtLine SwitchStmt TypeSwitchStmt Param Params Signature) (more : Bool) → roles_of_listed_expr (roll-ListedExpr x) more ≡ (roles_of_expr x.expr.value && between x.comma more)
listed_expr_made x more = ap (λ (f : InList). f more) (put_listed_expr x)

pub listed_expr_read : (t : ListedExpr) (more : Bool) → roles_of_listed_expr t more ≡ (roles_of_expr (out-ListedExpr t).expr.value && between (out-ListedExpr t).comma more)
listed_expr_read t more = ap (λ (t : ListedExpr). roles_of_listed_expr t more) (sym (roll-out-ListedExpr t)) ∙ listed_expr_made (out-ListedExpr t) more

-- ---- Block

pub block_made : (x : Block-F Decl Expr Stmt ElementLine FieldLine ResultForm TypeExpr FuncDecl TypeSpec ValueSpec Element ListedExpr Block CaseClause CommClause ForStmt IfArm RangeStmt StmtLine SwitchStmt TypeSwitchStmt Param Params Signature) → roles_of_block (roll-Block x) ≡ (braces x.«open» x.close && in_turn (map roles_of_stmt_line x.statements.items))
block_made x = put_block x

pub block_read : (t : Block) → roles_of_block t ≡ (braces (out-Block t).«open» (out-Block t).close && in_turn (map roles_of_stmt_line (out-Block t).statements.items))
block_read t = ap (λ (t : Block). roles_of_block t) (sym (roll-out-Block t)) ∙ block_made (out-Block t)

-- ---- CaseClause

pub case_clause_made : (x : CaseClause-F Decl Expr Stmt ElementLine FieldLine ResultForm TypeExpr FuncDecl TypeSpec ValueSpec Element ListedExpr Block CaseClause CommClause ForStmt IfArm RangeStmt StmtLine SwitchStmt TypeSwitchStmt Param Params Signature) → roles_of_case_clause (roll-CaseClause x) ≡ (begins_clause x.word.kind && in_turn (map roles_of_listed_expr x.items.items) && is_kind kinds.Colon x.colon && in_turn (map roles_of_stmt_line x.statements.items))
case_clause_made x = put_case_clause x

pub case_clause_read : (t : CaseClause) → roles_of_case_clause t ≡ (begins_clause (out-CaseClause t).word.kind && in_turn (map roles_of_listed_expr (out-CaseClause t).items.items) && is_kind kinds.Colon (out-CaseClause t).colon && in_turn (map roles_of_stmt_line (out-CaseClause t).statements.items))
case_clause_read t = ap (λ (t : CaseClause). roles_of_case_clause t) (sym (roll-out-CaseClause t)) ∙ case_clause_made (out-CaseClause t)

-- ---- CommClause

made_comm_clause : (word : Token) (comm : Option (Box Stmt)) (colon : Token) (statements : Vec StmtLine) → roles_of_comm_clause (roll-CommClause (record { word = word; comm = comm; colon = colon; statements = statements })) ≡ (begins_clause word.kind && held_by roles_of_stmt comm && is_kind kinds.Colon colon && in_turn (map roles_of_stmt_line statements.items))
made_comm_clause word None colon statements = put_comm_clause (record { word = word; comm = None; colon = colon; statements = statements })
made_comm_clause word (Some comm) colon statements = put_comm_clause (record { word = word; comm = Some comm; colon = colon; statements = statements })

pub comm_clause_made : (x : CommClause-F Decl Expr Stmt ElementLine FieldLine ResultForm TypeExpr FuncDecl TypeSpec ValueSpec Element ListedExpr Block CaseClause CommClause ForStmt IfArm RangeStmt StmtLine SwitchStmt TypeSwitchStmt Param Params Signature) → roles_of_comm_clause (roll-CommClause x) ≡ (begins_clause x.word.kind && held_by roles_of_stmt x.comm && is_kind kinds.Colon x.colon && in_turn (map roles_of_stmt_line x.statements.items))
comm_clause_made x = made_comm_clause x.word x.comm x.colon x.statements

pub comm_clause_read : (t : CommClause) → roles_of_comm_clause t ≡ (begins_clause (out-CommClause t).word.kind && held_by roles_of_stmt (out-CommClause t).comm && is_kind kinds.Colon (out-CommClause t).colon && in_turn (map roles_of_stmt_line (out-CommClause t).statements.items))
comm_clause_read t = ap (λ (t : CommClause). roles_of_comm_clause t) (sym (roll-out-CommClause t)) ∙ comm_clause_made (out-CommClause t)

-- ---- ForStmt

made_for_stmt : (word : Token) (init : Option (Box Stmt)) (first : Token) (condition : Option (Box Expr)) (second : Token) (post : Option (Box Stmt)) (body : Block) → roles_of_for_stmt (roll-ForStmt (record { word = word; init = init; first = first; condition = condition; second = second; post = post; body = body })) ≡ (is_kind kinds.ForWord word && held_by roles_of_stmt init && is_semicolon first.kind && is_semicolon second.kind && held_by roles_of_expr condition && held_by roles_of_stmt post && roles_of_block body)
made_for_stmt word None first None second None body = put_for_stmt (record { word = word; init = None; first = first; condition = None; second = second; post = None; body = body })
made_for_stmt word None first None second (Some post) body = put_for_stmt (record { word = word; init = None; first = first; condition = None; second = second; post = Some post; body = body })
made_for_stmt word None first (Some condition) second None body = put_for_stmt (record { word = word; init = None; first = first; condition = Some condition; second = second; post = None; body = body })
made_for_stmt word None first (Some condition) second (Some post) body = put_for_stmt (record { word = word; init = None; first = first; condition = Some condition; second = second; post = Some post; body = body })
made_for_stmt word (Some init) first None second None body = put_for_stmt (record { word = word; init = Some init; first = first; condition = None; second = second; post = None; body = body })
made_for_stmt word (Some init) first None second (Some post) body = put_for_stmt (record { word = word; init = Some init; first = first; condition = None; second = second; post = Some post; body = body })
made_for_stmt word (Some init) first (Some condition) second None body = put_for_stmt (record { word = word; init = Some init; first = first; condition = Some condition; second = second; post = None; body = body })
made_for_stmt word (Some init) first (Some condition) second (Some post) body = put_for_stmt (record { word = word; init = Some init; first = first; condition = Some condition; second = second; post = Some post; body = body })

pub for_stmt_made : (x : ForStmt-F Decl Expr Stmt ElementLine FieldLine ResultForm TypeExpr FuncDecl TypeSpec ValueSpec Element ListedExpr Block CaseClause CommClause ForStmt IfArm RangeStmt StmtLine SwitchStmt TypeSwitchStmt Param Params Signature) → roles_of_for_stmt (roll-ForStmt x) ≡ (is_kind kinds.ForWord x.word && held_by roles_of_stmt x.init && is_semicolon x.first.kind && is_semicolon x.second.kind && held_by roles_of_expr x.condition && held_by roles_of_stmt x.post && roles_of_block x.body)
for_stmt_made x = made_for_stmt x.word x.init x.first x.condition x.second x.post x.body

pub for_stmt_read : (t : ForStmt) → roles_of_for_stmt t ≡ (is_kind kinds.ForWord (out-ForStmt t).word && held_by roles_of_stmt (out-ForStmt t).init && is_semicolon (out-ForStmt t).first.kind && is_semicolon (out-ForStmt t).second.kind && held_by roles_of_expr (out-ForStmt t).condition && held_by roles_of_stmt (out-ForStmt t).post && roles_of_block (out-ForStmt t).body)
for_stmt_read t = ap (λ (t : ForStmt). roles_of_for_stmt t) (sym (roll-out-ForStmt t)) ∙ for_stmt_made (out-ForStmt t)

-- ---- IfArm

made_if_arm : (else_word : Option Token) (word : Token) (init : Option (Box Stmt)) (semicolon : Option Token) (condition : Box Expr) (body : Block) → roles_of_if_arm (roll-IfArm (record { else_word = else_word; word = word; init = init; semicolon = semicolon; condition = condition; body = body })) ≡ (is_if kinds.ElseWord else_word && is_kind kinds.IfWord word && held_by roles_of_stmt init && passes_if is_semicolon semicolon && roles_of_expr condition.value && roles_of_block body)
made_if_arm else_word word None semicolon condition body = put_if_arm (record { else_word = else_word; word = word; init = None; semicolon = semicolon; condition = condition; body = body })
made_if_arm else_word word (Some init) semicolon condition body = put_if_arm (record { else_word = else_word; word = word; init = Some init; semicolon = semicolon; condition = condition; body = body })

pub if_arm_made : (x : IfArm-F Decl Expr Stmt ElementLine FieldLine ResultForm TypeExpr FuncDecl TypeSpec ValueSpec Element ListedExpr Block CaseClause CommClause ForStmt IfArm RangeStmt StmtLine SwitchStmt TypeSwitchStmt Param Params Signature) → roles_of_if_arm (roll-IfArm x) ≡ (is_if kinds.ElseWord x.else_word && is_kind kinds.IfWord x.word && held_by roles_of_stmt x.init && passes_if is_semicolon x.semicolon && roles_of_expr x.condition.value && roles_of_block x.body)
if_arm_made x = made_if_arm x.else_word x.word x.init x.semicolon x.condition x.body

pub if_arm_read : (t : IfArm) → roles_of_if_arm t ≡ (is_if kinds.ElseWord (out-IfArm t).else_word && is_kind kinds.IfWord (out-IfArm t).word && held_by roles_of_stmt (out-IfArm t).init && passes_if is_semicolon (out-IfArm t).semicolon && roles_of_expr (out-IfArm t).condition.value && roles_of_block (out-IfArm t).body)
if_arm_read t = ap (λ (t : IfArm). roles_of_if_arm t) (sym (roll-out-IfArm t)) ∙ if_arm_made (out-IfArm t)

-- ---- RangeStmt

pub range_stmt_made : (x : RangeStmt-F Decl Expr Stmt ElementLine FieldLine ResultForm TypeExpr FuncDecl TypeSpec ValueSpec Element ListedExpr Block CaseClause CommClause ForStmt IfArm RangeStmt StmtLine SwitchStmt TypeSwitchStmt Param Params Signature) → roles_of_range_stmt (roll-RangeStmt x) ≡ (is_kind kinds.ForWord x.word && in_turn (map roles_of_listed_expr x.targets.items) && passes_if is_range_operator x.operator && is_kind kinds.RangeWord x.range && roles_of_expr x.operand.value && roles_of_block x.body)
range_stmt_made x = put_range_stmt x

pub range_stmt_read : (t : RangeStmt) → roles_of_range_stmt t ≡ (is_kind kinds.ForWord (out-RangeStmt t).word && in_turn (map roles_of_listed_expr (out-RangeStmt t).targets.items) && passes_if is_range_operator (out-RangeStmt t).operator && is_kind kinds.RangeWord (out-RangeStmt t).range && roles_of_expr (out-RangeStmt t).operand.value && roles_of_block (out-RangeStmt t).body)
range_stmt_read t = ap (λ (t : RangeStmt). roles_of_range_stmt t) (sym (roll-out-RangeStmt t)) ∙ range_stmt_made (out-RangeStmt t)

-- ---- StmtLine

made_stmt_line : (stmt : Option (Box Stmt)) (semicolon : Option Token) (more : Bool) → roles_of_stmt_line (roll-StmtLine (record { stmt = stmt; semicolon = semicolon })) more ≡ (held_by roles_of_stmt stmt && ends is_semicolon semicolon more)
made_stmt_line None semicolon more = ap (λ (f : InList). f more) (put_stmt_line (record { stmt = None; semicolon = semicolon }))
made_stmt_line (Some stmt) semicolon more = ap (λ (f : InList). f more) (put_stmt_line (record { stmt = Some stmt; semicolon = semicolon }))

pub stmt_line_made : (x : StmtLine-F Decl Expr Stmt ElementLine FieldLine ResultForm TypeExpr FuncDecl TypeSpec ValueSpec Element ListedExpr Block CaseClause CommClause ForStmt IfArm RangeStmt StmtLine SwitchStmt TypeSwitchStmt Param Params Signature) (more : Bool) → roles_of_stmt_line (roll-StmtLine x) more ≡ (held_by roles_of_stmt x.stmt && ends is_semicolon x.semicolon more)
stmt_line_made x more = made_stmt_line x.stmt x.semicolon more

pub stmt_line_read : (t : StmtLine) (more : Bool) → roles_of_stmt_line t more ≡ (held_by roles_of_stmt (out-StmtLine t).stmt && ends is_semicolon (out-StmtLine t).semicolon more)
stmt_line_read t more = ap (λ (t : StmtLine). roles_of_stmt_line t more) (sym (roll-out-StmtLine t)) ∙ stmt_line_made (out-StmtLine t) more

-- ---- SwitchStmt

made_switch_stmt : (word : Token) (init : Option (Box Stmt)) (semicolon : Option Token) (tag : Option (Box Expr)) («open» : Token) (clauses : Vec CaseClause) (close : Token) → roles_of_switch_stmt (roll-SwitchStmt (record { word = word; init = init; semicolon = semicolon; tag = tag; «open» = «open»; clauses = clauses; close = close })) ≡ (is_kind kinds.SwitchWord word && held_by roles_of_stmt init && passes_if is_semicolon semicolon && held_by roles_of_expr tag && braces «open» close && every (map roles_of_case_clause clauses.items))
made_switch_stmt word None semicolon None «open» clauses close = put_switch_stmt (record { word = word; init = None; semicolon = semicolon; tag = None; «open» = «open»; clauses = clauses; close = close })
made_switch_stmt word None semicolon (Some tag) «open» clauses close = put_switch_stmt (record { word = word; init = None; semicolon = semicolon; tag = Some tag; «open» = «open»; clauses = clauses; close = close })
made_switch_stmt word (Some init) semicolon None «open» clauses close = put_switch_stmt (record { word = word; init = Some init; semicolon = semicolon; tag = None; «open» = «open»; clauses = clauses; close = close })
made_switch_stmt word (Some init) semicolon (Some tag) «open» clauses close = put_switch_stmt (record { word = word; init = Some init; semicolon = semicolon; tag = Some tag; «open» = «open»; clauses = clauses; close = close })

pub switch_stmt_made : (x : SwitchStmt-F Decl Expr Stmt ElementLine FieldLine ResultForm TypeExpr FuncDecl TypeSpec ValueSpec Element ListedExpr Block CaseClause CommClause ForStmt IfArm RangeStmt StmtLine SwitchStmt TypeSwitchStmt Param Params Signature) → roles_of_switch_stmt (roll-SwitchStmt x) ≡ (is_kind kinds.SwitchWord x.word && held_by roles_of_stmt x.init && passes_if is_semicolon x.semicolon && held_by roles_of_expr x.tag && braces x.«open» x.close && every (map roles_of_case_clause x.clauses.items))
switch_stmt_made x = made_switch_stmt x.word x.init x.semicolon x.tag x.«open» x.clauses x.close

pub switch_stmt_read : (t : SwitchStmt) → roles_of_switch_stmt t ≡ (is_kind kinds.SwitchWord (out-SwitchStmt t).word && held_by roles_of_stmt (out-SwitchStmt t).init && passes_if is_semicolon (out-SwitchStmt t).semicolon && held_by roles_of_expr (out-SwitchStmt t).tag && braces (out-SwitchStmt t).«open» (out-SwitchStmt t).close && every (map roles_of_case_clause (out-SwitchStmt t).clauses.items))
switch_stmt_read t = ap (λ (t : SwitchStmt). roles_of_switch_stmt t) (sym (roll-out-SwitchStmt t)) ∙ switch_stmt_made (out-SwitchStmt t)

-- ---- TypeSwitchStmt

made_type_switch_stmt : (word : Token) (init : Option (Box Stmt)) (semicolon : Option Token) (binding : Option Binding) (operand : Box Expr) (dot : Token) (open_paren : Token) (type_word : Token) (close_paren : Token) («open» : Token) (clauses : Vec CaseClause) (close : Token) → roles_of_type_switch_stmt (roll-TypeSwitchStmt (record { word = word; init = init; semicolon = semicolon; binding = binding; operand = operand; dot = dot; open_paren = open_paren; type_word = type_word; close_paren = close_paren; «open» = «open»; clauses = clauses; close = close })) ≡ (is_kind kinds.SwitchWord word && held_by roles_of_stmt init && passes_if is_semicolon semicolon && is_binding_if binding && roles_of_expr operand.value && is_guard dot open_paren type_word close_paren && braces «open» close && every (map roles_of_case_clause clauses.items))
made_type_switch_stmt word None semicolon binding operand dot open_paren type_word close_paren «open» clauses close = put_type_switch_stmt (record { word = word; init = None; semicolon = semicolon; binding = binding; operand = operand; dot = dot; open_paren = open_paren; type_word = type_word; close_paren = close_paren; «open» = «open»; clauses = clauses; close = close })
made_type_switch_stmt word (Some init) semicolon binding operand dot open_paren type_word close_paren «open» clauses close = put_type_switch_stmt (record { word = word; init = Some init; semicolon = semicolon; binding = binding; operand = operand; dot = dot; open_paren = open_paren; type_word = type_word; close_paren = close_paren; «open» = «open»; clauses = clauses; close = close })

pub type_switch_stmt_made : (x : TypeSwitchStmt-F Decl Expr Stmt ElementLine FieldLine ResultForm TypeExpr FuncDecl TypeSpec ValueSpec Element ListedExpr Block CaseClause CommClause ForStmt IfArm RangeStmt StmtLine SwitchStmt TypeSwitchStmt Param Params Signature) → roles_of_type_switch_stmt (roll-TypeSwitchStmt x) ≡ (is_kind kinds.SwitchWord x.word && held_by roles_of_stmt x.init && passes_if is_semicolon x.semicolon && is_binding_if x.binding && roles_of_expr x.operand.value && is_guard x.dot x.open_paren x.type_word x.close_paren && braces x.«open» x.close && every (map roles_of_case_clause x.clauses.items))
type_switch_stmt_made x = made_type_switch_stmt x.word x.init x.semicolon x.binding x.operand x.dot x.open_paren x.type_word x.close_paren x.«open» x.clauses x.close

pub type_switch_stmt_read : (t : TypeSwitchStmt) → roles_of_type_switch_stmt t ≡ (is_kind kinds.SwitchWord (out-TypeSwitchStmt t).word && held_by roles_of_stmt (out-TypeSwitchStmt t).init && passes_if is_semicolon (out-TypeSwitchStmt t).semicolon && is_binding_if (out-TypeSwitchStmt t).binding && roles_of_expr (out-TypeSwitchStmt t).operand.value && is_guard (out-TypeSwitchStmt t).dot (out-TypeSwitchStmt t).open_paren (out-TypeSwitchStmt t).type_word (out-TypeSwitchStmt t).close_paren && braces (out-TypeSwitchStmt t).«open» (out-TypeSwitchStmt t).close && every (map roles_of_case_clause (out-TypeSwitchStmt t).clauses.items))
type_switch_stmt_read t = ap (λ (t : TypeSwitchStmt). roles_of_type_switch_stmt t) (sym (roll-out-TypeSwitchStmt t)) ∙ type_switch_stmt_made (out-TypeSwitchStmt t)

-- ---- Param

pub param_made : (x : Param-F Decl Expr Stmt ElementLine FieldLine ResultForm TypeExpr FuncDecl TypeSpec ValueSpec Element ListedExpr Block CaseClause CommClause ForStmt IfArm RangeStmt StmtLine SwitchStmt TypeSwitchStmt Param Params Signature) (more : Bool) → roles_of_param (roll-Param x) more ≡ (are_names x.names.items && is_if kinds.Ellipsis x.ellipsis && roles_of_type_expr x.form.value && ends is_comma x.comma more)
param_made x more = ap (λ (f : InList). f more) (put_param x)

pub param_read : (t : Param) (more : Bool) → roles_of_param t more ≡ (are_names (out-Param t).names.items && is_if kinds.Ellipsis (out-Param t).ellipsis && roles_of_type_expr (out-Param t).form.value && ends is_comma (out-Param t).comma more)
param_read t more = ap (λ (t : Param). roles_of_param t more) (sym (roll-out-Param t)) ∙ param_made (out-Param t) more

-- ---- Params

pub params_made : (x : Params-F Decl Expr Stmt ElementLine FieldLine ResultForm TypeExpr FuncDecl TypeSpec ValueSpec Element ListedExpr Block CaseClause CommClause ForStmt IfArm RangeStmt StmtLine SwitchStmt TypeSwitchStmt Param Params Signature) → roles_of_params (roll-Params x) ≡ (parens x.«open» x.close && in_turn (map roles_of_param x.params.items))
params_made x = put_params x

pub params_read : (t : Params) → roles_of_params t ≡ (parens (out-Params t).«open» (out-Params t).close && in_turn (map roles_of_param (out-Params t).params.items))
params_read t = ap (λ (t : Params). roles_of_params t) (sym (roll-out-Params t)) ∙ params_made (out-Params t)

-- ---- Signature

pub signature_made : (x : Signature-F Decl Expr Stmt ElementLine FieldLine ResultForm TypeExpr FuncDecl TypeSpec ValueSpec Element ListedExpr Block CaseClause CommClause ForStmt IfArm RangeStmt StmtLine SwitchStmt TypeSwitchStmt Param Params Signature) → roles_of_signature (roll-Signature x) ≡ (roles_of_params x.params && roles_of_result_form x.result)
signature_made x = put_signature x

pub signature_read : (t : Signature) → roles_of_signature t ≡ (roles_of_params (out-Signature t).params && roles_of_result_form (out-Signature t).result)
signature_read t = ap (λ (t : Signature). roles_of_signature t) (sym (roll-out-Signature t)) ∙ signature_made (out-Signature t)

-- ---- for each file of trees

pub ruleset type_forms = (element_line_empty, element_line_method, element_line_embedded, field_line_empty, field_line_named, field_line_embedded, result_form_none, result_form_params, result_form_type_form, type_expr_name, type_expr_paren, type_expr_pointer, type_expr_slice, type_expr_array, type_expr_open_array, type_expr_map, type_expr_chan, type_expr_receive_chan, type_expr_function, type_expr_struct, type_expr_interface, param_read, params_read, signature_read)

pub ruleset expr_forms = (expr_int, expr_rune, expr_text, expr_name, expr_paren, expr_function, expr_type_form, expr_composite, expr_selector, expr_assertion, expr_index, expr_slice, expr_full_slice, expr_call, expr_unary, expr_binary, element_read, listed_expr_read)

pub ruleset stmt_forms = (stmt_decl, stmt_labeled, stmt_expr, stmt_send, stmt_step, stmt_assign, stmt_define, stmt_go, stmt_defer, stmt_return, stmt_break, stmt_continue, stmt_fallthrough, stmt_block, stmt_if, stmt_switch, stmt_type_switch, stmt_select, stmt_while, stmt_for, stmt_range, block_read, case_clause_read, comm_clause_read, for_stmt_read, if_arm_read, range_stmt_read, stmt_line_read, switch_stmt_read, type_switch_stmt_read)

pub ruleset decl_forms = (decl_const, decl_type_decl, decl_var, decl_func, func_decl_read, type_spec_read, value_spec_read)
