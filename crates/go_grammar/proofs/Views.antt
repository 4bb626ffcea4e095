-- What each tree's view is, by its parts.
use Rattle.std.proofs.Common.{◌≡◌, refl, sym, ap, ◌∙◌, List, [], ◌∷◌, map, Option, Some, None}
use Rattle.std.specs.Global.{Box, Vec}
use Rattle.go_ast.specs.declared.token.Token.{Token}
use Rattle.go_syntax.specs.declared.decls.Decl.{Decl}
use Rattle.go_syntax.specs.declared.exprs.Expr.{Expr}
use Rattle.go_syntax.specs.declared.stmts.Stmt.{Stmt}
use Rattle.go_syntax.specs.declared.type_exprs.ElementLine.{ElementLine}
use Rattle.go_syntax.specs.declared.type_exprs.FieldLine.{FieldLine}
use Rattle.go_syntax.specs.declared.type_exprs.ResultForm.{ResultForm}
use Rattle.go_syntax.specs.declared.type_exprs.TypeExpr.{TypeExpr}
use Rattle.go_syntax.specs.declared.decls.FuncDecl.{FuncDecl}
use Rattle.go_syntax.specs.declared.decls.TypeSpec.{TypeSpec}
use Rattle.go_syntax.specs.declared.decls.ValueSpec.{ValueSpec}
use Rattle.go_syntax.specs.declared.exprs.Element.{Element}
use Rattle.go_syntax.specs.declared.exprs.ListedExpr.{ListedExpr}
use Rattle.go_syntax.specs.declared.stmts.Block.{Block}
use Rattle.go_syntax.specs.declared.stmts.CaseClause.{CaseClause}
use Rattle.go_syntax.specs.declared.stmts.CommClause.{CommClause}
use Rattle.go_syntax.specs.declared.stmts.ForStmt.{ForStmt}
use Rattle.go_syntax.specs.declared.stmts.IfArm.{IfArm}
use Rattle.go_syntax.specs.declared.stmts.RangeStmt.{RangeStmt}
use Rattle.go_syntax.specs.declared.stmts.StmtLine.{StmtLine}
use Rattle.go_syntax.specs.declared.stmts.SwitchStmt.{SwitchStmt}
use Rattle.go_syntax.specs.declared.stmts.TypeSwitchStmt.{TypeSwitchStmt}
use Rattle.go_syntax.specs.declared.type_exprs.Param.{Param}
use Rattle.go_syntax.specs.declared.type_exprs.Params.{Params}
use Rattle.go_syntax.specs.declared.type_exprs.Signature.{Signature}
use Rattle.go_syntax.specs.declared.stmts.Binding.{Binding}
use Rattle.go_syntax.specs.declared.stmts.Label.{Label}
use Rattle.go_syntax.specs.declared.type_exprs.ListedName.{ListedName}
use Rattle.go_syntax.specs.declared.type_exprs.NamedType.{NamedType}
use Rattle.go_syntax.specs.declared.decls.Decl.TheVariants as decls
use Rattle.go_syntax.specs.declared.exprs.Expr.TheVariants as exprs
use Rattle.go_syntax.specs.declared.stmts.Stmt.TheVariants as stmts
use Rattle.go_syntax.specs.declared.type_exprs.ElementLine.TheVariants as element_lines
use Rattle.go_syntax.specs.declared.type_exprs.FieldLine.TheVariants as field_lines
use Rattle.go_syntax.specs.declared.type_exprs.ResultForm.TheVariants as results
use Rattle.go_syntax.specs.declared.type_exprs.TypeExpr.TheVariants as types
use Rattle.go_syntax.specs.declared.decls.Decl.TheOpen as layers
use Rattle.go_syntax.specs.declared.decls.Decl.TheOpen.{Decl-F, Expr-F, Stmt-F, ElementLine-F, FieldLine-F, ResultForm-F, TypeExpr-F, FuncDecl-F, TypeSpec-F, ValueSpec-F, Element-F, ListedExpr-F, Block-F, CaseClause-F, CommClause-F, ForStmt-F, IfArm-F, RangeStmt-F, StmtLine-F, SwitchStmt-F, TypeSwitchStmt-F, Param-F, Params-F, Signature-F}
use Rattle.go_syntax.specs.declared.decls.Decl.TheViews.{roll-Decl, roll-Expr, roll-Stmt, roll-ElementLine, roll-FieldLine, roll-ResultForm, roll-TypeExpr, roll-FuncDecl, roll-TypeSpec, roll-ValueSpec, roll-Element, roll-ListedExpr, roll-Block, roll-CaseClause, roll-CommClause, roll-ForStmt, roll-IfArm, roll-RangeStmt, roll-StmtLine, roll-SwitchStmt, roll-TypeSwitchStmt, roll-Param, roll-Params, roll-Signature}
use Rattle.go_syntax.specs.declared.decls.Decl.TheFolds.{fold-roll-Decl, fold-roll-Expr, fold-roll-Stmt, fold-roll-ElementLine, fold-roll-FieldLine, fold-roll-ResultForm, fold-roll-TypeExpr, fold-roll-FuncDecl, fold-roll-TypeSpec, fold-roll-ValueSpec, fold-roll-Element, fold-roll-ListedExpr, fold-roll-Block, fold-roll-CaseClause, fold-roll-CommClause, fold-roll-ForStmt, fold-roll-IfArm, fold-roll-RangeStmt, fold-roll-StmtLine, fold-roll-SwitchStmt, fold-roll-TypeSwitchStmt, fold-roll-Param, fold-roll-Params, fold-roll-Signature, map-Decl, map-Expr, map-Stmt, map-ElementLine, map-FieldLine, map-ResultForm, map-TypeExpr, map-FuncDecl, map-TypeSpec, map-ValueSpec, map-Element, map-ListedExpr, map-Block, map-CaseClause, map-CommClause, map-ForStmt, map-IfArm, map-RangeStmt, map-StmtLine, map-SwitchStmt, map-TypeSwitchStmt, map-Param, map-Params, map-Signature}
use Rattle.go_grammar.specs.Forests as forms
use Rattle.go_grammar.specs.Forests.{Forest, empty, leaf, node, append}
use Rattle.go_grammar.specs.View.{one, tree, ◌⊕◌, if_some, each, all, token_if, view_named, view_listed_name, view_label, view_binding, view_decl, decl_layer, view_expr, expr_layer, view_stmt, stmt_layer, view_element_line, element_line_layer, view_field_line, field_line_layer, view_result_form, result_form_layer, view_type_expr, type_expr_layer, view_func_decl, func_decl_layer, view_type_spec, type_spec_layer, view_value_spec, value_spec_layer, view_element, element_layer, view_listed_expr, listed_expr_layer, view_block, block_layer, view_case_clause, case_clause_layer, view_comm_clause, comm_clause_layer, view_for_stmt, for_stmt_layer, view_if_arm, if_arm_layer, view_range_stmt, range_stmt_layer, view_stmt_line, stmt_line_layer, view_switch_stmt, switch_stmt_layer, view_type_switch_stmt, type_switch_stmt_layer, view_param, param_layer, view_params, params_layer, view_signature, signature_layer}

all_seen : {A : Type 0} (view : A → Forest) (xs : List A) → all (map view xs) ≡ each view xs
all_seen view [] = refl
all_seen view (x ∷ xs) = ap (λ (seen : Forest). view x ⊕ seen) (all_seen view xs)

-- ---- a tree that is put together, by its layer

put_decl : (x : Decl-F Decl Expr Stmt ElementLine FieldLine ResultForm TypeExpr FuncDecl TypeSpec ValueSpec Element ListedExpr Block CaseClause CommClause ForStmt IfArm RangeStmt StmtLine SwitchStmt TypeSwitchStmt Param Params Signature) → view_decl (roll-Decl x) ≡ decl_layer (map-Decl Decl Expr Stmt ElementLine FieldLine ResultForm TypeExpr FuncDecl TypeSpec ValueSpec Element ListedExpr Block CaseClause CommClause ForStmt IfArm RangeStmt StmtLine SwitchStmt TypeSwitchStmt Param Params Signature Forest Forest Forest Forest Forest Forest Forest Forest Forest Forest Forest Forest Forest Forest Forest Forest Forest Forest Forest Forest Forest Forest Forest Forest view_decl view_expr view_stmt view_element_line view_field_line view_result_form view_type_expr view_func_decl view_type_spec view_value_spec view_element view_listed_expr view_block view_case_clause view_comm_clause view_for_stmt view_if_arm view_range_stmt view_stmt_line view_switch_stmt view_type_switch_stmt view_param view_params view_signature x)
unfolding view_decl view_expr view_stmt view_element_line view_field_line view_result_form view_type_expr view_func_decl view_type_spec view_value_spec view_element view_listed_expr view_block view_case_clause view_comm_clause view_for_stmt view_if_arm view_range_stmt view_stmt_line view_switch_stmt view_type_switch_stmt view_param view_params view_signature
put_decl x = fold-roll-Decl Forest Forest Forest Forest Forest Forest Forest Forest Forest Forest Forest Forest Forest Forest Forest Forest Forest Forest Forest Forest Forest Forest Forest Forest decl_layer expr_layer stmt_layer element_line_layer field_line_layer result_form_layer type_expr_layer func_decl_layer type_spec_layer value_spec_layer element_layer listed_expr_layer block_layer case_clause_layer comm_clause_layer for_stmt_layer if_arm_layer range_stmt_layer stmt_line_layer switch_stmt_layer type_switch_stmt_layer param_layer params_layer signature_layer x

put_expr : (x : Expr-F Decl Expr Stmt ElementLine FieldLine ResultForm TypeExpr FuncDecl TypeSpec ValueSpec Element ListedExpr Block CaseClause CommClause ForStmt IfArm RangeStmt StmtLine SwitchStmt TypeSwitchStmt Param Params Signature) → view_expr (roll-Expr x) ≡ expr_layer (map-Expr Decl Expr Stmt ElementLine FieldLine ResultForm TypeExpr FuncDecl TypeSpec ValueSpec Element ListedExpr Block CaseClause CommClause ForStmt IfArm RangeStmt StmtLine SwitchStmt TypeSwitchStmt Param Params Signature Forest Forest Forest Forest Forest Forest Forest Forest Forest Forest Forest Forest Forest Forest Forest Forest Forest Forest Forest Forest Forest Forest Forest Forest view_decl view_expr view_stmt view_element_line view_field_line view_result_form view_type_expr view_func_decl view_type_spec view_value_spec view_element view_listed_expr view_block view_case_clause view_comm_clause view_for_stmt view_if_arm view_range_stmt view_stmt_line view_switch_stmt view_type_switch_stmt view_param view_params view_signature x)
unfolding view_decl view_expr view_stmt view_element_line view_field_line view_result_form view_type_expr view_func_decl view_type_spec view_value_spec view_element view_listed_expr view_block view_case_clause view_comm_clause view_for_stmt view_if_arm view_range_stmt view_stmt_line view_switch_stmt view_type_switch_stmt view_param view_params view_signature
put_expr x = fold-roll-Expr Forest Forest Forest Forest Forest Forest Forest Forest Forest Forest Forest Forest Forest Forest Forest Forest Forest Forest Forest Forest Forest Forest Forest Forest decl_layer expr_layer stmt_layer element_line_layer field_line_layer result_form_layer type_expr_layer func_decl_layer type_spec_layer value_spec_layer element_layer listed_expr_layer block_layer case_clause_layer comm_clause_layer for_stmt_layer if_arm_layer range_stmt_layer stmt_line_layer switch_stmt_layer type_switch_stmt_layer param_layer params_layer signature_layer x

put_stmt : (x : Stmt-F Decl Expr Stmt ElementLine FieldLine ResultForm TypeExpr FuncDecl TypeSpec ValueSpec Element ListedExpr Block CaseClause CommClause ForStmt IfArm RangeStmt StmtLine SwitchStmt TypeSwitchStmt Param Params Signature) → view_stmt (roll-Stmt x) ≡ stmt_layer (map-Stmt Decl Expr Stmt ElementLine FieldLine ResultForm TypeExpr FuncDecl TypeSpec ValueSpec Element ListedExpr Block CaseClause CommClause ForStmt IfArm RangeStmt StmtLine SwitchStmt TypeSwitchStmt Param Params Signature Forest Forest Forest Forest Forest Forest Forest Forest Forest Forest Forest Forest Forest Forest Forest Forest Forest Forest Forest Forest Forest Forest Forest Forest view_decl view_expr view_stmt view_element_line view_field_line view_result_form view_type_expr view_func_decl view_type_spec view_value_spec view_element view_listed_expr view_block view_case_clause view_comm_clause view_for_stmt view_if_arm view_range_stmt view_stmt_line view_switch_stmt view_type_switch_stmt view_param view_params view_signature x)
unfolding view_decl view_expr view_stmt view_element_line view_field_line view_result_form view_type_expr view_func_decl view_type_spec view_value_spec view_element view_listed_expr view_block view_case_clause view_comm_clause view_for_stmt view_if_arm view_range_stmt view_stmt_line view_switch_stmt view_type_switch_stmt view_param view_params view_signature
put_stmt x = fold-roll-Stmt Forest Forest Forest Forest Forest Forest Forest Forest Forest Forest Forest Forest Forest Forest Forest Forest Forest Forest Forest Forest Forest Forest Forest Forest decl_layer expr_layer stmt_layer element_line_layer field_line_layer result_form_layer type_expr_layer func_decl_layer type_spec_layer value_spec_layer element_layer listed_expr_layer block_layer case_clause_layer comm_clause_layer for_stmt_layer if_arm_layer range_stmt_layer stmt_line_layer switch_stmt_layer type_switch_stmt_layer param_layer params_layer signature_layer x

put_element_line : (x : ElementLine-F Decl Expr Stmt ElementLine FieldLine ResultForm TypeExpr FuncDecl TypeSpec ValueSpec Element ListedExpr Block CaseClause CommClause ForStmt IfArm RangeStmt StmtLine SwitchStmt TypeSwitchStmt Param Params Signature) → view_element_line (roll-ElementLine x) ≡ element_line_layer (map-ElementLine Decl Expr Stmt ElementLine FieldLine ResultForm TypeExpr FuncDecl TypeSpec ValueSpec Element ListedExpr Block CaseClause CommClause ForStmt IfArm RangeStmt StmtLine SwitchStmt TypeSwitchStmt Param Params Signature Forest Forest Forest Forest Forest Forest Forest Forest Forest Forest Forest Forest Forest Forest Forest Forest Forest Forest Forest Forest Forest Forest Forest Forest view_decl view_expr view_stmt view_element_line view_field_line view_result_form view_type_expr view_func_decl view_type_spec view_value_spec view_element view_listed_expr view_block view_case_clause view_comm_clause view_for_stmt view_if_arm view_range_stmt view_stmt_line view_switch_stmt view_type_switch_stmt view_param view_params view_signature x)
unfolding view_decl view_expr view_stmt view_element_line view_field_line view_result_form view_type_expr view_func_decl view_type_spec view_value_spec view_element view_listed_expr view_block view_case_clause view_comm_clause view_for_stmt view_if_arm view_range_stmt view_stmt_line view_switch_stmt view_type_switch_stmt view_param view_params view_signature
put_element_line x = fold-roll-ElementLine Forest Forest Forest Forest Forest Forest Forest Forest Forest Forest Forest Forest Forest Forest Forest Forest Forest Forest Forest Forest Forest Forest Forest Forest decl_layer expr_layer stmt_layer element_line_layer field_line_layer result_form_layer type_expr_layer func_decl_layer type_spec_layer value_spec_layer element_layer listed_expr_layer block_layer case_clause_layer comm_clause_layer for_stmt_layer if_arm_layer range_stmt_layer stmt_line_layer switch_stmt_layer type_switch_stmt_layer param_layer params_layer signature_layer x

put_field_line : (x : FieldLine-F Decl Expr Stmt ElementLine FieldLine ResultForm TypeExpr FuncDecl TypeSpec ValueSpec Element ListedExpr Block CaseClause CommClause ForStmt IfArm RangeStmt StmtLine SwitchStmt TypeSwitchStmt Param Params Signature) → view_field_line (roll-FieldLine x) ≡ field_line_layer (map-FieldLine Decl Expr Stmt ElementLine FieldLine ResultForm TypeExpr FuncDecl TypeSpec ValueSpec Element ListedExpr Block CaseClause CommClause ForStmt IfArm RangeStmt StmtLine SwitchStmt TypeSwitchStmt Param Params Signature Forest Forest Forest Forest Forest Forest Forest Forest Forest Forest Forest Forest Forest Forest Forest Forest Forest Forest Forest Forest Forest Forest Forest Forest view_decl view_expr view_stmt view_element_line view_field_line view_result_form view_type_expr view_func_decl view_type_spec view_value_spec view_element view_listed_expr view_block view_case_clause view_comm_clause view_for_stmt view_if_arm view_range_stmt view_stmt_line view_switch_stmt view_type_switch_stmt view_param view_params view_signature x)
unfolding view_decl view_expr view_stmt view_element_line view_field_line view_result_form view_type_expr view_func_decl view_type_spec view_value_spec view_element view_listed_expr view_block view_case_clause view_comm_clause view_for_stmt view_if_arm view_range_stmt view_stmt_line view_switch_stmt view_type_switch_stmt view_param view_params view_signature
put_field_line x = fold-roll-FieldLine Forest Forest Forest Forest Forest Forest Forest Forest Forest Forest Forest Forest Forest Forest Forest Forest Forest Forest Forest Forest Forest Forest Forest Forest decl_layer expr_layer stmt_layer element_line_layer field_line_layer result_form_layer type_expr_layer func_decl_layer type_spec_layer value_spec_layer element_layer listed_expr_layer block_layer case_clause_layer comm_clause_layer for_stmt_layer if_arm_layer range_stmt_layer stmt_line_layer switch_stmt_layer type_switch_stmt_layer param_layer params_layer signature_layer x

put_result_form : (x : ResultForm-F Decl Expr Stmt ElementLine FieldLine ResultForm TypeExpr FuncDecl TypeSpec ValueSpec Element ListedExpr Block CaseClause CommClause ForStmt IfArm RangeStmt StmtLine SwitchStmt TypeSwitchStmt Param Params Signature) → view_result_form (roll-ResultForm x) ≡ result_form_layer (map-ResultForm Decl Expr Stmt ElementLine FieldLine ResultForm TypeExpr FuncDecl TypeSpec ValueSpec Element ListedExpr Block CaseClause CommClause ForStmt IfArm RangeStmt StmtLine SwitchStmt TypeSwitchStmt Param Params Signature Forest Forest Forest Forest Forest Forest Forest Forest Forest Forest Forest Forest Forest Forest Forest Forest Forest Forest Forest Forest Forest Forest Forest Forest view_decl view_expr view_stmt view_element_line view_field_line view_result_form view_type_expr view_func_decl view_type_spec view_value_spec view_element view_listed_expr view_block view_case_clause view_comm_clause view_for_stmt view_if_arm view_range_stmt view_stmt_line view_switch_stmt view_type_switch_stmt view_param view_params view_signature x)
unfolding view_decl view_expr view_stmt view_element_line view_field_line view_result_form view_type_expr view_func_decl view_type_spec view_value_spec view_element view_listed_expr view_block view_case_clause view_comm_clause view_for_stmt view_if_arm view_range_stmt view_stmt_line view_switch_stmt view_type_switch_stmt view_param view_params view_signature
put_result_form x = fold-roll-ResultForm Forest Forest Forest Forest Forest Forest Forest Forest Forest Forest Forest Forest Forest Forest Forest Forest Forest Forest Forest Forest Forest Forest Forest Forest decl_layer expr_layer stmt_layer element_line_layer field_line_layer result_form_layer type_expr_layer func_decl_layer type_spec_layer value_spec_layer element_layer listed_expr_layer block_layer case_clause_layer comm_clause_layer for_stmt_layer if_arm_layer range_stmt_layer stmt_line_layer switch_stmt_layer type_switch_stmt_layer param_layer params_layer signature_layer x

put_type_expr : (x : TypeExpr-F Decl Expr Stmt ElementLine FieldLine ResultForm TypeExpr FuncDecl TypeSpec ValueSpec Element ListedExpr Block CaseClause CommClause ForStmt IfArm RangeStmt StmtLine SwitchStmt TypeSwitchStmt Param Params Signature) → view_type_expr (roll-TypeExpr x) ≡ type_expr_layer (map-TypeExpr Decl Expr Stmt ElementLine FieldLine ResultForm TypeExpr FuncDecl TypeSpec ValueSpec Element ListedExpr Block CaseClause CommClause ForStmt IfArm RangeStmt StmtLine SwitchStmt TypeSwitchStmt Param Params Signature Forest Forest Forest Forest Forest Forest Forest Forest Forest Forest Forest Forest Forest Forest Forest Forest Forest Forest Forest Forest Forest Forest Forest Forest view_decl view_expr view_stmt view_element_line view_field_line view_result_form view_type_expr view_func_decl view_type_spec view_value_spec view_element view_listed_expr view_block view_case_clause view_comm_clause view_for_stmt view_if_arm view_range_stmt view_stmt_line view_switch_stmt view_type_switch_stmt view_param view_params view_signature x)
unfolding view_decl view_expr view_stmt view_element_line view_field_line view_result_form view_type_expr view_func_decl view_type_spec view_value_spec view_element view_listed_expr view_block view_case_clause view_comm_clause view_for_stmt view_if_arm view_range_stmt view_stmt_line view_switch_stmt view_type_switch_stmt view_param view_params view_signature
put_type_expr x = fold-roll-TypeExpr Forest Forest Forest Forest Forest Forest Forest Forest Forest Forest Forest Forest Forest Forest Forest Forest Forest Forest Forest Forest Forest Forest Forest Forest decl_layer expr_layer stmt_layer element_line_layer field_line_layer result_form_layer type_expr_layer func_decl_layer type_spec_layer value_spec_layer element_layer listed_expr_layer block_layer case_clause_layer comm_clause_layer for_stmt_layer if_arm_layer range_stmt_layer stmt_line_layer switch_stmt_layer type_switch_stmt_layer param_layer params_layer signature_layer x

put_func_decl : (x : FuncDecl-F Decl Expr Stmt ElementLine FieldLine ResultForm TypeExpr FuncDecl TypeSpec ValueSpec Element ListedExpr Block CaseClause CommClause ForStmt IfArm RangeStmt StmtLine SwitchStmt TypeSwitchStmt Param Params Signature) → view_func_decl (roll-FuncDecl x) ≡ func_decl_layer (map-FuncDecl Decl Expr Stmt ElementLine FieldLine ResultForm TypeExpr FuncDecl TypeSpec ValueSpec Element ListedExpr Block CaseClause CommClause ForStmt IfArm RangeStmt StmtLine SwitchStmt TypeSwitchStmt Param Params Signature Forest Forest Forest Forest Forest Forest Forest Forest Forest Forest Forest Forest Forest Forest Forest Forest Forest Forest Forest Forest Forest Forest Forest Forest view_decl view_expr view_stmt view_element_line view_field_line view_result_form view_type_expr view_func_decl view_type_spec view_value_spec view_element view_listed_expr view_block view_case_clause view_comm_clause view_for_stmt view_if_arm view_range_stmt view_stmt_line view_switch_stmt view_type_switch_stmt view_param view_params view_signature x)
unfolding view_decl view_expr view_stmt view_element_line view_field_line view_result_form view_type_expr view_func_decl view_type_spec view_value_spec view_element view_listed_expr view_block view_case_clause view_comm_clause view_for_stmt view_if_arm view_range_stmt view_stmt_line view_switch_stmt view_type_switch_stmt view_param view_params view_signature
put_func_decl x = fold-roll-FuncDecl Forest Forest Forest Forest Forest Forest Forest Forest Forest Forest Forest Forest Forest Forest Forest Forest Forest Forest Forest Forest Forest Forest Forest Forest decl_layer expr_layer stmt_layer element_line_layer field_line_layer result_form_layer type_expr_layer func_decl_layer type_spec_layer value_spec_layer element_layer listed_expr_layer block_layer case_clause_layer comm_clause_layer for_stmt_layer if_arm_layer range_stmt_layer stmt_line_layer switch_stmt_layer type_switch_stmt_layer param_layer params_layer signature_layer x

put_type_spec : (x : TypeSpec-F Decl Expr Stmt ElementLine FieldLine ResultForm TypeExpr FuncDecl TypeSpec ValueSpec Element ListedExpr Block CaseClause CommClause ForStmt IfArm RangeStmt StmtLine SwitchStmt TypeSwitchStmt Param Params Signature) → view_type_spec (roll-TypeSpec x) ≡ type_spec_layer (map-TypeSpec Decl Expr Stmt ElementLine FieldLine ResultForm TypeExpr FuncDecl TypeSpec ValueSpec Element ListedExpr Block CaseClause CommClause ForStmt IfArm RangeStmt StmtLine SwitchStmt TypeSwitchStmt Param Params Signature Forest Forest Forest Forest Forest Forest Forest Forest Forest Forest Forest Forest Forest Forest Forest Forest Forest Forest Forest Forest Forest Forest Forest Forest view_decl view_expr view_stmt view_element_line view_field_line view_result_form view_type_expr view_func_decl view_type_spec view_value_spec view_element view_listed_expr view_block view_case_clause view_comm_clause view_for_stmt view_if_arm view_range_stmt view_stmt_line view_switch_stmt view_type_switch_stmt view_param view_params view_signature x)
unfolding view_decl view_expr view_stmt view_element_line view_field_line view_result_form view_type_expr view_func_decl view_type_spec view_value_spec view_element view_listed_expr view_block view_case_clause view_comm_clause view_for_stmt view_if_arm view_range_stmt view_stmt_line view_switch_stmt view_type_switch_stmt view_param view_params view_signature
put_type_spec x = fold-roll-TypeSpec Forest Forest Forest Forest Forest Forest Forest Forest Forest Forest Forest Forest Forest Forest Forest Forest Forest Forest Forest Forest Forest Forest Forest Forest decl_layer expr_layer stmt_layer element_line_layer field_line_layer result_form_layer type_expr_layer func_decl_layer type_spec_layer value_spec_layer element_layer listed_expr_layer block_layer case_clause_layer comm_clause_layer for_stmt_layer if_arm_layer range_stmt_layer stmt_line_layer switch_stmt_layer type_switch_stmt_layer param_layer params_layer signature_layer x

put_value_spec : (x : ValueSpec-F Decl Expr Stmt ElementLine FieldLine ResultForm TypeExpr FuncDecl TypeSpec ValueSpec Element ListedExpr Block CaseClause CommClause ForStmt IfArm RangeStmt StmtLine SwitchStmt TypeSwitchStmt Param Params Signature) → view_value_spec (roll-ValueSpec x) ≡ value_spec_layer (map-ValueSpec Decl Expr Stmt ElementLine FieldLine ResultForm TypeExpr FuncDecl TypeSpec ValueSpec Element ListedExpr Block CaseClause CommClause ForStmt IfArm RangeStmt StmtLine SwitchStmt TypeSwitchStmt Param Params Signature Forest Forest Forest Forest Forest Forest Forest Forest Forest Forest Forest Forest Forest Forest Forest Forest Forest Forest Forest Forest Forest Forest Forest Forest view_decl view_expr view_stmt view_element_line view_field_line view_result_form view_type_expr view_func_decl view_type_spec view_value_spec view_element view_listed_expr view_block view_case_clause view_comm_clause view_for_stmt view_if_arm view_range_stmt view_stmt_line view_switch_stmt view_type_switch_stmt view_param view_params view_signature x)
unfolding view_decl view_expr view_stmt view_element_line view_field_line view_result_form view_type_expr view_func_decl view_type_spec view_value_spec view_element view_listed_expr view_block view_case_clause view_comm_clause view_for_stmt view_if_arm view_range_stmt view_stmt_line view_switch_stmt view_type_switch_stmt view_param view_params view_signature
put_value_spec x = fold-roll-ValueSpec Forest Forest Forest Forest Forest Forest Forest Forest Forest Forest Forest Forest Forest Forest Forest Forest Forest Forest Forest Forest Forest Forest Forest Forest decl_layer expr_layer stmt_layer element_line_layer field_line_layer result_form_layer type_expr_layer func_decl_layer type_spec_layer value_spec_layer element_layer listed_expr_layer block_layer case_clause_layer comm_clause_layer for_stmt_layer if_arm_layer range_stmt_layer stmt_line_layer switch_stmt_layer type_switch_stmt_layer param_layer params_layer signature_layer x

put_element : (x : Element-F Decl Expr Stmt ElementLine FieldLine ResultForm TypeExpr FuncDecl TypeSpec ValueSpec Element ListedExpr Block CaseClause CommClause ForStmt IfArm RangeStmt StmtLine SwitchStmt TypeSwitchStmt Param Params Signature) → view_element (roll-Element x) ≡ element_layer (map-Element Decl Expr Stmt ElementLine FieldLine ResultForm TypeExpr FuncDecl TypeSpec ValueSpec Element ListedExpr Block CaseClause CommClause ForStmt IfArm RangeStmt StmtLine SwitchStmt TypeSwitchStmt Param Params Signature Forest Forest Forest Forest Forest Forest Forest Forest Forest Forest Forest Forest Forest Forest Forest Forest Forest Forest Forest Forest Forest Forest Forest Forest view_decl view_expr view_stmt view_element_line view_field_line view_result_form view_type_expr view_func_decl view_type_spec view_value_spec view_element view_listed_expr view_block view_case_clause view_comm_clause view_for_stmt view_if_arm view_range_stmt view_stmt_line view_switch_stmt view_type_switch_stmt view_param view_params view_signature x)
unfolding view_decl view_expr view_stmt view_element_line view_field_line view_result_form view_type_expr view_func_decl view_type_spec view_value_spec view_element view_listed_expr view_block view_case_clause view_comm_clause view_for_stmt view_if_arm view_range_stmt view_stmt_line view_switch_stmt view_type_switch_stmt view_param view_params view_signature
put_element x = fold-roll-Element Forest Forest Forest Forest Forest Forest Forest Forest Forest Forest Forest Forest Forest Forest Forest Forest Forest Forest Forest Forest Forest Forest Forest Forest decl_layer expr_layer stmt_layer element_line_layer field_line_layer result_form_layer type_expr_layer func_decl_layer type_spec_layer value_spec_layer element_layer listed_expr_layer block_layer case_clause_layer comm_clause_layer for_stmt_layer if_arm_layer range_stmt_layer stmt_line_layer switch_stmt_layer type_switch_stmt_layer param_layer params_layer signature_layer x

put_listed_expr : (x : ListedExpr-F Decl Expr Stmt ElementLine FieldLine ResultForm TypeExpr FuncDecl TypeSpec ValueSpec Element ListedExpr Block CaseClause CommClause ForStmt IfArm RangeStmt StmtLine SwitchStmt TypeSwitchStmt Param Params Signature) → view_listed_expr (roll-ListedExpr x) ≡ listed_expr_layer (map-ListedExpr Decl Expr Stmt ElementLine FieldLine ResultForm TypeExpr FuncDecl TypeSpec ValueSpec Element ListedExpr Block CaseClause CommClause ForStmt IfArm RangeStmt StmtLine SwitchStmt TypeSwitchStmt Param Params Signature Forest Forest Forest Forest Forest Forest Forest Forest Forest Forest Forest Forest Forest Forest Forest Forest Forest Forest Forest Forest Forest Forest Forest Forest view_decl view_expr view_stmt view_element_line view_field_line view_result_form view_type_expr view_func_decl view_type_spec view_value_spec view_element view_listed_expr view_block view_case_clause view_comm_clause view_for_stmt view_if_arm view_range_stmt view_stmt_line view_switch_stmt view_type_switch_stmt view_param view_params view_signature x)
unfolding view_decl view_expr view_stmt view_element_line view_field_line view_result_form view_type_expr view_func_decl view_type_spec view_value_spec view_element view_listed_expr view_block view_case_clause view_comm_clause view_for_stmt view_if_arm view_range_stmt view_stmt_line view_switch_stmt view_type_switch_stmt view_param view_params view_signature
put_listed_expr x = fold-roll-ListedExpr Forest Forest Forest Forest Forest Forest Forest Forest Forest Forest Forest Forest Forest Forest Forest Forest Forest Forest Forest Forest Forest Forest Forest Forest decl_layer expr_layer stmt_layer element_line_layer field_line_layer result_form_layer type_expr_layer func_decl_layer type_spec_layer value_spec_layer element_layer listed_expr_layer block_layer case_clause_layer comm_clause_layer for_stmt_layer if_arm_layer range_stmt_layer stmt_line_layer switch_stmt_layer type_switch_stmt_layer param_layer params_layer signature_layer x

put_block : (x : Block-F Decl Expr Stmt ElementLine FieldLine ResultForm TypeExpr FuncDecl TypeSpec ValueSpec Element ListedExpr Block CaseClause CommClause ForStmt IfArm RangeStmt StmtLine SwitchStmt TypeSwitchStmt Param Params Signature) → view_block (roll-Block x) ≡ block_layer (map-Block Decl Expr Stmt ElementLine FieldLine ResultForm TypeExpr FuncDecl TypeSpec ValueSpec Element ListedExpr Block CaseClause CommClause ForStmt IfArm RangeStmt StmtLine SwitchStmt TypeSwitchStmt Param Params Signature Forest Forest Forest Forest Forest Forest Forest Forest Forest Forest Forest Forest Forest Forest Forest Forest Forest Forest Forest Forest Forest Forest Forest Forest view_decl view_expr view_stmt view_element_line view_field_line view_result_form view_type_expr view_func_decl view_type_spec view_value_spec view_element view_listed_expr view_block view_case_clause view_comm_clause view_for_stmt view_if_arm view_range_stmt view_stmt_line view_switch_stmt view_type_switch_stmt view_param view_params view_signature x)
unfolding view_decl view_expr view_stmt view_element_line view_field_line view_result_form view_type_expr view_func_decl view_type_spec view_value_spec view_element view_listed_expr view_block view_case_clause view_comm_clause view_for_stmt view_if_arm view_range_stmt view_stmt_line view_switch_stmt view_type_switch_stmt view_param view_params view_signature
put_block x = fold-roll-Block Forest Forest Forest Forest Forest Forest Forest Forest Forest Forest Forest Forest Forest Forest Forest Forest Forest Forest Forest Forest Forest Forest Forest Forest decl_layer expr_layer stmt_layer element_line_layer field_line_layer result_form_layer type_expr_layer func_decl_layer type_spec_layer value_spec_layer element_layer listed_expr_layer block_layer case_clause_layer comm_clause_layer for_stmt_layer if_arm_layer range_stmt_layer stmt_line_layer switch_stmt_layer type_switch_stmt_layer param_layer params_layer signature_layer x

put_case_clause : (x : CaseClause-F Decl Expr Stmt ElementLine FieldLine ResultForm TypeExpr FuncDecl TypeSpec ValueSpec Element ListedExpr Block CaseClause CommClause ForStmt IfArm RangeStmt StmtLine SwitchStmt TypeSwitchStmt Param Params Signature) → view_case_clause (roll-CaseClause x) ≡ case_clause_layer (map-CaseClause Decl Expr Stmt ElementLine FieldLine ResultForm TypeExpr FuncDecl TypeSpec ValueSpec Element ListedExpr Block CaseClause CommClause ForStmt IfArm RangeStmt StmtLine SwitchStmt TypeSwitchStmt Param Params Signature Forest Forest Forest Forest Forest Forest Forest Forest Forest Forest Forest Forest Forest Forest Forest Forest Forest Forest Forest Forest Forest Forest Forest Forest view_decl view_expr view_stmt view_element_line view_field_line view_result_form view_type_expr view_func_decl view_type_spec view_value_spec view_element view_listed_expr view_block view_case_clause view_comm_clause view_for_stmt view_if_arm view_range_stmt view_stmt_line view_switch_stmt view_type_switch_stmt view_param view_params view_signature x)
unfolding view_decl view_expr view_stmt view_element_line view_field_line view_result_form view_type_expr view_func_decl view_type_spec view_value_spec view_element view_listed_expr view_block view_case_clause view_comm_clause view_for_stmt view_if_arm view_range_stmt view_stmt_line view_switch_stmt view_type_switch_stmt view_param view_params view_signature
put_case_clause x = fold-roll-CaseClause Forest Forest Forest Forest Forest Forest Forest Forest Forest Forest Forest Forest Forest Forest Forest Forest Forest Forest Forest Forest Forest Forest Forest Forest decl_layer expr_layer stmt_layer element_line_layer field_line_layer result_form_layer type_expr_layer func_decl_layer type_spec_layer value_spec_layer element_layer listed_expr_layer block_layer case_clause_layer comm_clause_layer for_stmt_layer if_arm_layer range_stmt_layer stmt_line_layer switch_stmt_layer type_switch_stmt_layer param_layer params_layer signature_layer x

put_comm_clause : (x : CommClause-F Decl Expr Stmt ElementLine FieldLine ResultForm TypeExpr FuncDecl TypeSpec ValueSpec Element ListedExpr Block CaseClause CommClause ForStmt IfArm RangeStmt StmtLine SwitchStmt TypeSwitchStmt Param Params Signature) → view_comm_clause (roll-CommClause x) ≡ comm_clause_layer (map-CommClause Decl Expr Stmt ElementLine FieldLine ResultForm TypeExpr FuncDecl TypeSpec ValueSpec Element ListedExpr Block CaseClause CommClause ForStmt IfArm RangeStmt StmtLine SwitchStmt TypeSwitchStmt Param Params Signature Forest Forest Forest Forest Forest Forest Forest Forest Forest Forest Forest Forest Forest Forest Forest Forest Forest Forest Forest Forest Forest Forest Forest Forest view_decl view_expr view_stmt view_element_line view_field_line view_result_form view_type_expr view_func_decl view_type_spec view_value_spec view_element view_listed_expr view_block view_case_clause view_comm_clause view_for_stmt view_if_arm view_range_stmt view_stmt_line view_switch_stmt view_type_switch_stmt view_param view_params view_signature x)
unfolding view_decl view_expr view_stmt view_element_line view_field_line view_result_form view_type_expr view_func_decl view_type_spec view_value_spec view_element view_listed_expr view_block view_case_clause view_comm_clause view_for_stmt view_if_arm view_range_stmt view_stmt_line view_switch_stmt view_type_switch_stmt view_param view_params view_signature
put_comm_clause x = fold-roll-CommClause Forest Forest Forest Forest Forest Forest Forest Forest Forest Forest Forest Forest Forest Forest Forest Forest Forest Forest Forest Forest Forest Forest Forest Forest decl_layer expr_layer stmt_layer element_line_layer field_line_layer result_form_layer type_expr_layer func_decl_layer type_spec_layer value_spec_layer element_layer listed_expr_layer block_layer case_clause_layer comm_clause_layer for_stmt_layer if_arm_layer range_stmt_layer stmt_line_layer switch_stmt_layer type_switch_stmt_layer param_layer params_layer signature_layer x

put_for_stmt : (x : ForStmt-F Decl Expr Stmt ElementLine FieldLine ResultForm TypeExpr FuncDecl TypeSpec ValueSpec Element ListedExpr Block CaseClause CommClause ForStmt IfArm RangeStmt StmtLine SwitchStmt TypeSwitchStmt Param Params Signature) → view_for_stmt (roll-ForStmt x) ≡ for_stmt_layer (map-ForStmt Decl Expr Stmt ElementLine FieldLine ResultForm TypeExpr FuncDecl TypeSpec ValueSpec Element ListedExpr Block CaseClause CommClause ForStmt IfArm RangeStmt StmtLine SwitchStmt TypeSwitchStmt Param Params Signature Forest Forest Forest Forest Forest Forest Forest Forest Forest Forest Forest Forest Forest Forest Forest Forest Forest Forest Forest Forest Forest Forest Forest Forest view_decl view_expr view_stmt view_element_line view_field_line view_result_form view_type_expr view_func_decl view_type_spec view_value_spec view_element view_listed_expr view_block view_case_clause view_comm_clause view_for_stmt view_if_arm view_range_stmt view_stmt_line view_switch_stmt view_type_switch_stmt view_param view_params view_signature x)
unfolding view_decl view_expr view_stmt view_element_line view_field_line view_result_form view_type_expr view_func_decl view_type_spec view_value_spec view_element view_listed_expr view_block view_case_clause view_comm_clause view_for_stmt view_if_arm view_range_stmt view_stmt_line view_switch_stmt view_type_switch_stmt view_param view_params view_signature
put_for_stmt x = fold-roll-ForStmt Forest Forest Forest Forest Forest Forest Forest Forest Forest Forest Forest Forest Forest Forest Forest Forest Forest Forest Forest Forest Forest Forest Forest Forest decl_layer expr_layer stmt_layer element_line_layer field_line_layer result_form_layer type_expr_layer func_decl_layer type_spec_layer value_spec_layer element_layer listed_expr_layer block_layer case_clause_layer comm_clause_layer for_stmt_layer if_arm_layer range_stmt_layer stmt_line_layer switch_stmt_layer type_switch_stmt_layer param_layer params_layer signature_layer x

put_if_arm : (x : IfArm-F Decl Expr Stmt ElementLine FieldLine ResultForm TypeExpr FuncDecl TypeSpec ValueSpec Element ListedExpr Block CaseClause CommClause ForStmt IfArm RangeStmt StmtLine SwitchStmt TypeSwitchStmt Param Params Signature) → view_if_arm (roll-IfArm x) ≡ if_arm_layer (map-IfArm Decl Expr Stmt ElementLine FieldLine ResultForm TypeExpr FuncDecl TypeSpec ValueSpec Element ListedExpr Block CaseClause CommClause ForStmt IfArm RangeStmt StmtLine SwitchStmt TypeSwitchStmt Param Params Signature Forest Forest Forest Forest Forest Forest Forest Forest Forest Forest Forest Forest Forest Forest Forest Forest Forest Forest Forest Forest Forest Forest Forest Forest view_decl view_expr view_stmt view_element_line view_field_line view_result_form view_type_expr view_func_decl view_type_spec view_value_spec view_element view_listed_expr view_block view_case_clause view_comm_clause view_for_stmt view_if_arm view_range_stmt view_stmt_line view_switch_stmt view_type_switch_stmt view_param view_params view_signature x)
unfolding view_decl view_expr view_stmt view_element_line view_field_line view_result_form view_type_expr view_func_decl view_type_spec view_value_spec view_element view_listed_expr view_block view_case_clause view_comm_clause view_for_stmt view_if_arm view_range_stmt view_stmt_line view_switch_stmt view_type_switch_stmt view_param view_params view_signature
put_if_arm x = fold-roll-IfArm Forest Forest Forest Forest Forest Forest Forest Forest Forest Forest Forest Forest Forest Forest Forest Forest Forest Forest Forest Forest Forest Forest Forest Forest decl_layer expr_layer stmt_layer element_line_layer field_line_layer result_form_layer type_expr_layer func_decl_layer type_spec_layer value_spec_layer element_layer listed_expr_layer block_layer case_clause_layer comm_clause_layer for_stmt_layer if_arm_layer range_stmt_layer stmt_line_layer switch_stmt_layer type_switch_stmt_layer param_layer params_layer signature_layer x

put_range_stmt : (x : RangeStmt-F Decl Expr Stmt ElementLine FieldLine ResultForm TypeExpr FuncDecl TypeSpec ValueSpec Element ListedExpr Block CaseClause CommClause ForStmt IfArm RangeStmt StmtLine SwitchStmt TypeSwitchStmt Param Params Signature) → view_range_stmt (roll-RangeStmt x) ≡ range_stmt_layer (map-RangeStmt Decl Expr Stmt ElementLine FieldLine ResultForm TypeExpr FuncDecl TypeSpec ValueSpec Element ListedExpr Block CaseClause CommClause ForStmt IfArm RangeStmt StmtLine SwitchStmt TypeSwitchStmt Param Params Signature Forest Forest Forest Forest Forest Forest Forest Forest Forest Forest Forest Forest Forest Forest Forest Forest Forest Forest Forest Forest Forest Forest Forest Forest view_decl view_expr view_stmt view_element_line view_field_line view_result_form view_type_expr view_func_decl view_type_spec view_value_spec view_element view_listed_expr view_block view_case_clause view_comm_clause view_for_stmt view_if_arm view_range_stmt view_stmt_line view_switch_stmt view_type_switch_stmt view_param view_params view_signature x)
unfolding view_decl view_expr view_stmt view_element_line view_field_line view_result_form view_type_expr view_func_decl view_type_spec view_value_spec view_element view_listed_expr view_block view_case_clause view_comm_clause view_for_stmt view_if_arm view_range_stmt view_stmt_line view_switch_stmt view_type_switch_stmt view_param view_params view_signature
put_range_stmt x = fold-roll-RangeStmt Forest Forest Forest Forest Forest Forest Forest Forest Forest Forest Forest Forest Forest Forest Forest Forest Forest Forest Forest Forest Forest Forest Forest Forest decl_layer expr_layer stmt_layer element_line_layer field_line_layer result_form_layer type_expr_layer func_decl_layer type_spec_layer value_spec_layer element_layer listed_expr_layer block_layer case_clause_layer comm_clause_layer for_stmt_layer if_arm_layer range_stmt_layer stmt_line_layer switch_stmt_layer type_switch_stmt_layer param_layer params_layer signature_layer x

put_stmt_line : (x : StmtLine-F Decl Expr Stmt ElementLine FieldLine ResultForm TypeExpr FuncDecl TypeSpec ValueSpec Element ListedExpr Block CaseClause CommClause ForStmt IfArm RangeStmt StmtLine SwitchStmt TypeSwitchStmt Param Params Signature) → view_stmt_line (roll-StmtLine x) ≡ stmt_line_layer (map-StmtLine Decl Expr Stmt ElementLine FieldLine ResultForm TypeExpr FuncDecl TypeSpec ValueSpec Element ListedExpr Block CaseClause CommClause ForStmt IfArm RangeStmt StmtLine SwitchStmt TypeSwitchStmt Param Params Signature Forest Forest Forest Forest Forest Forest Forest Forest Forest Forest Forest Forest Forest Forest Forest Forest Forest Forest Forest Forest Forest Forest Forest Forest view_decl view_expr view_stmt view_element_line view_field_line view_result_form view_type_expr view_func_decl view_type_spec view_value_spec view_element view_listed_expr view_block view_case_clause view_comm_clause view_for_stmt view_if_arm view_range_stmt view_stmt_line view_switch_stmt view_type_switch_stmt view_param view_params view_signature x)
unfolding view_decl view_expr view_stmt view_element_line view_field_line view_result_form view_type_expr view_func_decl view_type_spec view_value_spec view_element view_listed_expr view_block view_case_clause view_comm_clause view_for_stmt view_if_arm view_range_stmt view_stmt_line view_switch_stmt view_type_switch_stmt view_param view_params view_signature
put_stmt_line x = fold-roll-StmtLine Forest Forest Forest Forest Forest Forest Forest Forest Forest Forest Forest Forest Forest Forest Forest Forest Forest Forest Forest Forest Forest Forest Forest Forest decl_layer expr_layer stmt_layer element_line_layer field_line_layer result_form_layer type_expr_layer func_decl_layer type_spec_layer value_spec_layer element_layer listed_expr_layer block_layer case_clause_layer comm_clause_layer for_stmt_layer if_arm_layer range_stmt_layer stmt_line_layer switch_stmt_layer type_switch_stmt_layer param_layer params_layer signature_layer x

put_switch_stmt : (x : SwitchStmt-F Decl Expr Stmt ElementLine FieldLine ResultForm TypeExpr FuncDecl TypeSpec ValueSpec Element ListedExpr Block CaseClause CommClause ForStmt IfArm RangeStmt StmtLine SwitchStmt TypeSwitchStmt Param Params Signature) → view_switch_stmt (roll-SwitchStmt x) ≡ switch_stmt_layer (map-SwitchStmt Decl Expr Stmt ElementLine FieldLine ResultForm TypeExpr FuncDecl TypeSpec ValueSpec Element ListedExpr Block CaseClause CommClause ForStmt IfArm RangeStmt StmtLine SwitchStmt TypeSwitchStmt Param Params Signature Forest Forest Forest Forest Forest Forest Forest Forest Forest Forest Forest Forest Forest Forest Forest Forest Forest Forest Forest Forest Forest Forest Forest Forest view_decl view_expr view_stmt view_element_line view_field_line view_result_form view_type_expr view_func_decl view_type_spec view_value_spec view_element view_listed_expr view_block view_case_clause view_comm_clause view_for_stmt view_if_arm view_range_stmt view_stmt_line view_switch_stmt view_type_switch_stmt view_param view_params view_signature x)
unfolding view_decl view_expr view_stmt view_element_line view_field_line view_result_form view_type_expr view_func_decl view_type_spec view_value_spec view_element view_listed_expr view_block view_case_clause view_comm_clause view_for_stmt view_if_arm view_range_stmt view_stmt_line view_switch_stmt view_type_switch_stmt view_param view_params view_signature
put_switch_stmt x = fold-roll-SwitchStmt Forest Forest Forest Forest Forest Forest Forest Forest Forest Forest Forest Forest Forest Forest Forest Forest Forest Forest Forest Forest Forest Forest Forest Forest decl_layer expr_layer stmt_layer element_line_layer field_line_layer result_form_layer type_expr_layer func_decl_layer type_spec_layer value_spec_layer element_layer listed_expr_layer block_layer case_clause_layer comm_clause_layer for_stmt_layer if_arm_layer range_stmt_layer stmt_line_layer switch_stmt_layer type_switch_stmt_layer param_layer params_layer signature_layer x

put_type_switch_stmt : (x : TypeSwitchStmt-F Decl Expr Stmt ElementLine FieldLine ResultForm TypeExpr FuncDecl TypeSpec ValueSpec Element ListedExpr Block CaseClause CommClause ForStmt IfArm RangeStmt StmtLine SwitchStmt TypeSwitchStmt Param Params Signature) → view_type_switch_stmt (roll-TypeSwitchStmt x) ≡ type_switch_stmt_layer (map-TypeSwitchStmt Decl Expr Stmt ElementLine FieldLine ResultForm TypeExpr FuncDecl TypeSpec ValueSpec Element ListedExpr Block CaseClause CommClause ForStmt IfArm RangeStmt StmtLine SwitchStmt TypeSwitchStmt Param Params Signature Forest Forest Forest Forest Forest Forest Forest Forest Forest Forest Forest Forest Forest Forest Forest Forest Forest Forest Forest Forest Forest Forest Forest Forest view_decl view_expr view_stmt view_element_line view_field_line view_result_form view_type_expr view_func_decl view_type_spec view_value_spec view_element view_listed_expr view_block view_case_clause view_comm_clause view_for_stmt view_if_arm view_range_stmt view_stmt_line view_switch_stmt view_type_switch_stmt view_param view_params view_signature x)
unfolding view_decl view_expr view_stmt view_element_line view_field_line view_result_form view_type_expr view_func_decl view_type_spec view_value_spec view_element view_listed_expr view_block view_case_clause view_comm_clause view_for_stmt view_if_arm view_range_stmt view_stmt_line view_switch_stmt view_type_switch_stmt view_param view_params view_signature
put_type_switch_stmt x = fold-roll-TypeSwitchStmt Forest Forest Forest Forest Forest Forest Forest Forest Forest Forest Forest Forest Forest Forest Forest Forest Forest Forest Forest Forest Forest Forest Forest Forest decl_layer expr_layer stmt_layer element_line_layer field_line_layer result_form_layer type_expr_layer func_decl_layer type_spec_layer value_spec_layer element_layer listed_expr_layer block_layer case_clause_layer comm_clause_layer for_stmt_layer if_arm_layer range_stmt_layer stmt_line_layer switch_stmt_layer type_switch_stmt_layer param_layer params_layer signature_layer x

put_param : (x : Param-F Decl Expr Stmt ElementLine FieldLine ResultForm TypeExpr FuncDecl TypeSpec ValueSpec Element ListedExpr Block CaseClause CommClause ForStmt IfArm RangeStmt StmtLine SwitchStmt TypeSwitchStmt Param Params Signature) → view_param (roll-Param x) ≡ param_layer (map-Param Decl Expr Stmt ElementLine FieldLine ResultForm TypeExpr FuncDecl TypeSpec ValueSpec Element ListedExpr Block CaseClause CommClause ForStmt IfArm RangeStmt StmtLine SwitchStmt TypeSwitchStmt Param Params Signature Forest Forest Forest Forest Forest Forest Forest Forest Forest Forest Forest Forest Forest Forest Forest Forest Forest Forest Forest Forest Forest Forest Forest Forest view_decl view_expr view_stmt view_element_line view_field_line view_result_form view_type_expr view_func_decl view_type_spec view_value_spec view_element view_listed_expr view_block view_case_clause view_comm_clause view_for_stmt view_if_arm view_range_stmt view_stmt_line view_switch_stmt view_type_switch_stmt view_param view_params view_signature x)
unfolding view_decl view_expr view_stmt view_element_line view_field_line view_result_form view_type_expr view_func_decl view_type_spec view_value_spec view_element view_listed_expr view_block view_case_clause view_comm_clause view_for_stmt view_if_arm view_range_stmt view_stmt_line view_switch_stmt view_type_switch_stmt view_param view_params view_signature
put_param x = fold-roll-Param Forest Forest Forest Forest Forest Forest Forest Forest Forest Forest Forest Forest Forest Forest Forest Forest Forest Forest Forest Forest Forest Forest Forest Forest decl_layer expr_layer stmt_layer element_line_layer field_line_layer result_form_layer type_expr_layer func_decl_layer type_spec_layer value_spec_layer element_layer listed_expr_layer block_layer case_clause_layer comm_clause_layer for_stmt_layer if_arm_layer range_stmt_layer stmt_line_layer switch_stmt_layer type_switch_stmt_layer param_layer params_layer signature_layer x

put_params : (x : Params-F Decl Expr Stmt ElementLine FieldLine ResultForm TypeExpr FuncDecl TypeSpec ValueSpec Element ListedExpr Block CaseClause CommClause ForStmt IfArm RangeStmt StmtLine SwitchStmt TypeSwitchStmt Param Params Signature) → view_params (roll-Params x) ≡ params_layer (map-Params Decl Expr Stmt ElementLine FieldLine ResultForm TypeExpr FuncDecl TypeSpec ValueSpec Element ListedExpr Block CaseClause CommClause ForStmt IfArm RangeStmt StmtLine SwitchStmt TypeSwitchStmt Param Params Signature Forest Forest Forest Forest Forest Forest Forest Forest Forest Forest Forest Forest Forest Forest Forest Forest Forest Forest Forest Forest Forest Forest Forest Forest view_decl view_expr view_stmt view_element_line view_field_line view_result_form view_type_expr view_func_decl view_type_spec view_value_spec view_element view_listed_expr view_block view_case_clause view_comm_clause view_for_stmt view_if_arm view_range_stmt view_stmt_line view_switch_stmt view_type_switch_stmt view_param view_params view_signature x)
unfolding view_decl view_expr view_stmt view_element_line view_field_line view_result_form view_type_expr view_func_decl view_type_spec view_value_spec view_element view_listed_expr view_block view_case_clause view_comm_clause view_for_stmt view_if_arm view_range_stmt view_stmt_line view_switch_stmt view_type_switch_stmt view_param view_params view_signature
put_params x = fold-roll-Params Forest Forest Forest Forest Forest Forest Forest Forest Forest Forest Forest Forest Forest Forest Forest Forest Forest Forest Forest Forest Forest Forest Forest Forest decl_layer expr_layer stmt_layer element_line_layer field_line_layer result_form_layer type_expr_layer func_decl_layer type_spec_layer value_spec_layer element_layer listed_expr_layer block_layer case_clause_layer comm_clause_layer for_stmt_layer if_arm_layer range_stmt_layer stmt_line_layer switch_stmt_layer type_switch_stmt_layer param_layer params_layer signature_layer x

put_signature : (x : Signature-F Decl Expr Stmt ElementLine FieldLine ResultForm TypeExpr FuncDecl TypeSpec ValueSpec Element ListedExpr Block CaseClause CommClause ForStmt IfArm RangeStmt StmtLine SwitchStmt TypeSwitchStmt Param Params Signature) → view_signature (roll-Signature x) ≡ signature_layer (map-Signature Decl Expr Stmt ElementLine FieldLine ResultForm TypeExpr FuncDecl TypeSpec ValueSpec Element ListedExpr Block CaseClause CommClause ForStmt IfArm RangeStmt StmtLine SwitchStmt TypeSwitchStmt Param Params Signature Forest Forest Forest Forest Forest Forest Forest Forest Forest Forest Forest Forest Forest Forest Forest Forest Forest Forest Forest Forest Forest Forest Forest Forest view_decl view_expr view_stmt view_element_line view_field_line view_result_form view_type_expr view_func_decl view_type_spec view_value_spec view_element view_listed_expr view_block view_case_clause view_comm_clause view_for_stmt view_if_arm view_range_stmt view_stmt_line view_switch_stmt view_type_switch_stmt view_param view_params view_signature x)
unfolding view_decl view_expr view_stmt view_element_line view_field_line view_result_form view_type_expr view_func_decl view_type_spec view_value_spec view_element view_listed_expr view_block view_case_clause view_comm_clause view_for_stmt view_if_arm view_range_stmt view_stmt_line view_switch_stmt view_type_switch_stmt view_param view_params view_signature
put_signature x = fold-roll-Signature Forest Forest Forest Forest Forest Forest Forest Forest Forest Forest Forest Forest Forest Forest Forest Forest Forest Forest Forest Forest Forest Forest Forest Forest decl_layer expr_layer stmt_layer element_line_layer field_line_layer result_form_layer type_expr_layer func_decl_layer type_spec_layer value_spec_layer element_layer listed_expr_layer block_layer case_clause_layer comm_clause_layer for_stmt_layer if_arm_layer range_stmt_layer stmt_line_layer switch_stmt_layer type_switch_stmt_layer param_layer params_layer signature_layer x

-- ---- Decl

pub view_decl_const : (word : Token) («open» : Option Token) (specs : Vec ValueSpec) (close : Option Token) → view_decl (decls.Const word «open» specs close) ≡ tree forms.ConstForm (one word ⊕ token_if «open» ⊕ each view_value_spec specs.items ⊕ token_if close)
view_decl_const word «open» specs close = ap view_decl (sym (decls.rolls-Const word «open» specs close)) ∙ put_decl (layers.Decl-F.Const word «open» specs close) ∙ ap (λ (seen : Forest). tree forms.ConstForm (one word ⊕ token_if «open» ⊕ seen ⊕ token_if close)) (all_seen view_value_spec specs.items)

pub view_decl_type_decl : (word : Token) («open» : Option Token) (specs : Vec TypeSpec) (close : Option Token) → view_decl (decls.TypeDecl word «open» specs close) ≡ tree forms.TypeDeclForm (one word ⊕ token_if «open» ⊕ each view_type_spec specs.items ⊕ token_if close)
view_decl_type_decl word «open» specs close = ap view_decl (sym (decls.rolls-TypeDecl word «open» specs close)) ∙ put_decl (layers.Decl-F.TypeDecl word «open» specs close) ∙ ap (λ (seen : Forest). tree forms.TypeDeclForm (one word ⊕ token_if «open» ⊕ seen ⊕ token_if close)) (all_seen view_type_spec specs.items)

pub view_decl_var : (word : Token) («open» : Option Token) (specs : Vec ValueSpec) (close : Option Token) → view_decl (decls.Var word «open» specs close) ≡ tree forms.VarForm (one word ⊕ token_if «open» ⊕ each view_value_spec specs.items ⊕ token_if close)
view_decl_var word «open» specs close = ap view_decl (sym (decls.rolls-Var word «open» specs close)) ∙ put_decl (layers.Decl-F.Var word «open» specs close) ∙ ap (λ (seen : Forest). tree forms.VarForm (one word ⊕ token_if «open» ⊕ seen ⊕ token_if close)) (all_seen view_value_spec specs.items)

pub view_decl_func : (decl : Box FuncDecl) → view_decl (decls.Func decl) ≡ view_func_decl decl.value
view_decl_func decl = ap view_decl (sym (decls.rolls-Func decl)) ∙ put_decl (layers.Decl-F.Func decl)

-- ---- Expr

pub view_expr_int : (token : Token) → view_expr (exprs.Int token) ≡ tree forms.IntForm (one token)
view_expr_int token = ap view_expr (sym (exprs.rolls-Int token)) ∙ put_expr (layers.Expr-F.Int token)

pub view_expr_rune : (token : Token) → view_expr (exprs.Rune token) ≡ tree forms.RuneForm (one token)
view_expr_rune token = ap view_expr (sym (exprs.rolls-Rune token)) ∙ put_expr (layers.Expr-F.Rune token)

pub view_expr_text : (token : Token) → view_expr (exprs.Text token) ≡ tree forms.TextForm (one token)
view_expr_text token = ap view_expr (sym (exprs.rolls-Text token)) ∙ put_expr (layers.Expr-F.Text token)

pub view_expr_name : (token : Token) → view_expr (exprs.Name token) ≡ tree forms.NameForm (one token)
view_expr_name token = ap view_expr (sym (exprs.rolls-Name token)) ∙ put_expr (layers.Expr-F.Expr::Name token)

pub view_expr_paren : («open» : Token) (inner : Box Expr) (close : Token) → view_expr (exprs.Paren «open» inner close) ≡ tree forms.ParenForm (one «open» ⊕ view_expr inner.value ⊕ one close)
view_expr_paren «open» inner close = ap view_expr (sym (exprs.rolls-Paren «open» inner close)) ∙ put_expr (layers.Expr-F.Expr::Paren «open» inner close)

pub view_expr_function : (word : Token) (signature : Box Signature) (body : Box Block) → view_expr (exprs.Function word signature body) ≡ tree forms.LiteralFunctionForm (one word ⊕ view_signature signature.value ⊕ view_block body.value)
view_expr_function word signature body = ap view_expr (sym (exprs.rolls-Function word signature body)) ∙ put_expr (layers.Expr-F.Expr::Function word signature body)

pub view_expr_type_form : (form : Box TypeExpr) → view_expr (exprs.TypeForm form) ≡ tree forms.TypeOperandForm (view_type_expr form.value)
view_expr_type_form form = ap view_expr (sym (exprs.rolls-TypeForm form)) ∙ put_expr (layers.Expr-F.Expr::TypeForm form)

pub view_expr_composite : (form : Option (Box TypeExpr)) («open» : Token) (elements : Vec Element) (close : Token) → view_expr (exprs.Composite form «open» elements close) ≡ tree forms.CompositeForm (if_some (λ (y : Box TypeExpr). view_type_expr y.value) form ⊕ one «open» ⊕ each view_element elements.items ⊕ one close)
view_expr_composite None «open» elements close = ap view_expr (sym (exprs.rolls-Composite None «open» elements close)) ∙ put_expr (layers.Expr-F.Composite None «open» elements close) ∙ ap (λ (seen : Forest). tree forms.CompositeForm (if_some (λ (y : Box TypeExpr). view_type_expr y.value) None ⊕ one «open» ⊕ seen ⊕ one close)) (all_seen view_element elements.items)
view_expr_composite (Some form) «open» elements close = ap view_expr (sym (exprs.rolls-Composite (Some form) «open» elements close)) ∙ put_expr (layers.Expr-F.Composite (Some form) «open» elements close) ∙ ap (λ (seen : Forest). tree forms.CompositeForm (if_some (λ (y : Box TypeExpr). view_type_expr y.value) (Some form) ⊕ one «open» ⊕ seen ⊕ one close)) (all_seen view_element elements.items)

pub view_expr_selector : (operand : Box Expr) (dot : Token) (name : Token) → view_expr (exprs.Selector operand dot name) ≡ tree forms.SelectorForm (view_expr operand.value ⊕ one dot ⊕ one name)
view_expr_selector operand dot name = ap view_expr (sym (exprs.rolls-Selector operand dot name)) ∙ put_expr (layers.Expr-F.Selector operand dot name)

pub view_expr_assertion : (operand : Box Expr) (dot : Token) («open» : Token) (form : Box TypeExpr) (close : Token) → view_expr (exprs.Assertion operand dot «open» form close) ≡ tree forms.AssertionForm (view_expr operand.value ⊕ one dot ⊕ one «open» ⊕ view_type_expr form.value ⊕ one close)
view_expr_assertion operand dot «open» form close = ap view_expr (sym (exprs.rolls-Assertion operand dot «open» form close)) ∙ put_expr (layers.Expr-F.Assertion operand dot «open» form close)

pub view_expr_index : (operand : Box Expr) («open» : Token) (index : Box Expr) (close : Token) → view_expr (exprs.Index operand «open» index close) ≡ tree forms.IndexForm (view_expr operand.value ⊕ one «open» ⊕ view_expr index.value ⊕ one close)
view_expr_index operand «open» index close = ap view_expr (sym (exprs.rolls-Index operand «open» index close)) ∙ put_expr (layers.Expr-F.Index operand «open» index close)

pub view_expr_slice : (operand : Box Expr) («open» : Token) (low : Option (Box Expr)) (colon : Token) (high : Option (Box Expr)) (close : Token) → view_expr (exprs.Slice operand «open» low colon high close) ≡ tree forms.SliceExprForm (view_expr operand.value ⊕ one «open» ⊕ if_some (λ (y : Box Expr). view_expr y.value) low ⊕ one colon ⊕ if_some (λ (y : Box Expr). view_expr y.value) high ⊕ one close)
view_expr_slice operand «open» None colon None close = ap view_expr (sym (exprs.rolls-Slice operand «open» None colon None close)) ∙ put_expr (layers.Expr-F.Expr::Slice operand «open» None colon None close)
view_expr_slice operand «open» None colon (Some high) close = ap view_expr (sym (exprs.rolls-Slice operand «open» None colon (Some high) close)) ∙ put_expr (layers.Expr-F.Expr::Slice operand «open» None colon (Some high) close)
view_expr_slice operand «open» (Some low) colon None close = ap view_expr (sym (exprs.rolls-Slice operand «open» (Some low) colon None close)) ∙ put_expr (layers.Expr-F.Expr::Slice operand «open» (Some low) colon None close)
view_expr_slice operand «open» (Some low) colon (Some high) close = ap view_expr (sym (exprs.rolls-Slice operand «open» (Some low) colon (Some high) close)) ∙ put_expr (layers.Expr-F.Expr::Slice operand «open» (Some low) colon (Some high) close)

pub view_expr_full_slice : (operand : Box Expr) («open» : Token) (low : Option (Box Expr)) (colon : Token) (high : Box Expr) (second_colon : Token) (max : Box Expr) (close : Token) → view_expr (exprs.FullSlice operand «open» low colon high second_colon max close) ≡ tree forms.FullSliceForm (view_expr operand.value ⊕ one «open» ⊕ if_some (λ (y : Box Expr). view_expr y.value) low ⊕ one colon ⊕ view_expr high.value ⊕ one second_colon ⊕ view_expr max.value ⊕ one close)
view_expr_full_slice operand «open» None colon high second_colon max close = ap view_expr (sym (exprs.rolls-FullSlice operand «open» None colon high second_colon max close)) ∙ put_expr (layers.Expr-F.FullSlice operand «open» None colon high second_colon max close)
view_expr_full_slice operand «open» (Some low) colon high second_colon max close = ap view_expr (sym (exprs.rolls-FullSlice operand «open» (Some low) colon high second_colon max close)) ∙ put_expr (layers.Expr-F.FullSlice operand «open» (Some low) colon high second_colon max close)

pub view_expr_call : (callee : Box Expr) («open» : Token) (arguments : Vec ListedExpr) (ellipsis : Option Token) (comma : Option Token) (close : Token) → view_expr (exprs.Call callee «open» arguments ellipsis comma close) ≡ tree forms.CallForm (view_expr callee.value ⊕ one «open» ⊕ each view_listed_expr arguments.items ⊕ token_if ellipsis ⊕ token_if comma ⊕ one close)
view_expr_call callee «open» arguments ellipsis comma close = ap view_expr (sym (exprs.rolls-Call callee «open» arguments ellipsis comma close)) ∙ put_expr (layers.Expr-F.Call callee «open» arguments ellipsis comma close) ∙ ap (λ (seen : Forest). tree forms.CallForm (view_expr callee.value ⊕ one «open» ⊕ seen ⊕ token_if ellipsis ⊕ token_if comma ⊕ one close)) (all_seen view_listed_expr arguments.items)

pub view_expr_unary : (operator : Token) (operand : Box Expr) → view_expr (exprs.Unary operator operand) ≡ tree forms.UnaryForm (one operator ⊕ view_expr operand.value)
view_expr_unary operator operand = ap view_expr (sym (exprs.rolls-Unary operator operand)) ∙ put_expr (layers.Expr-F.Unary operator operand)

pub view_expr_binary : (left : Box Expr) (operator : Token) (right : Box Expr) → view_expr (exprs.Binary left operator right) ≡ tree forms.BinaryForm (view_expr left.value ⊕ one operator ⊕ view_expr right.value)
view_expr_binary left operator right = ap view_expr (sym (exprs.rolls-Binary left operator right)) ∙ put_expr (layers.Expr-F.Binary left operator right)

-- ---- Stmt

pub view_stmt_decl : (decl : Box Decl) → view_stmt (stmts.Decl decl) ≡ view_decl decl.value
view_stmt_decl decl = ap view_stmt (sym (stmts.rolls-Decl decl)) ∙ put_stmt (layers.Stmt-F.Decl decl)

pub view_stmt_labeled : (labels : Vec Label) (stmt : Option (Box Stmt)) → view_stmt (stmts.Labeled labels stmt) ≡ tree forms.LabeledForm (each view_label labels.items ⊕ if_some (λ (y : Box Stmt). view_stmt y.value) stmt)
view_stmt_labeled labels None = ap view_stmt (sym (stmts.rolls-Labeled labels None)) ∙ put_stmt (layers.Stmt-F.Labeled labels None)
view_stmt_labeled labels (Some stmt) = ap view_stmt (sym (stmts.rolls-Labeled labels (Some stmt))) ∙ put_stmt (layers.Stmt-F.Labeled labels (Some stmt))

pub view_stmt_expr : (expr : Box Expr) → view_stmt (stmts.Expr expr) ≡ tree forms.ExprForm (view_expr expr.value)
view_stmt_expr expr = ap view_stmt (sym (stmts.rolls-Expr expr)) ∙ put_stmt (layers.Stmt-F.Expr expr)

pub view_stmt_send : (channel : Box Expr) (arrow : Token) (value : Box Expr) → view_stmt (stmts.Send channel arrow value) ≡ tree forms.SendForm (view_expr channel.value ⊕ one arrow ⊕ view_expr value.value)
view_stmt_send channel arrow value = ap view_stmt (sym (stmts.rolls-Send channel arrow value)) ∙ put_stmt (layers.Stmt-F.Send channel arrow value)

pub view_stmt_step : (operand : Box Expr) (operator : Token) → view_stmt (stmts.Step operand operator) ≡ tree forms.StepForm (view_expr operand.value ⊕ one operator)
view_stmt_step operand operator = ap view_stmt (sym (stmts.rolls-Step operand operator)) ∙ put_stmt (layers.Stmt-F.Step operand operator)

pub view_stmt_assign : (targets : Vec ListedExpr) (operator : Token) (values : Vec ListedExpr) → view_stmt (stmts.Assign targets operator values) ≡ tree forms.AssignForm (each view_listed_expr targets.items ⊕ one operator ⊕ each view_listed_expr values.items)
view_stmt_assign targets operator values = ap view_stmt (sym (stmts.rolls-Assign targets operator values)) ∙ put_stmt (layers.Stmt-F.Assign targets operator values) ∙ ap (λ (seen : Forest). tree forms.AssignForm (seen ⊕ one operator ⊕ all (map view_listed_expr values.items))) (all_seen view_listed_expr targets.items) ∙ ap (λ (seen : Forest). tree forms.AssignForm (each view_listed_expr targets.items ⊕ one operator ⊕ seen)) (all_seen view_listed_expr values.items)

pub view_stmt_define : (targets : Vec ListedExpr) (operator : Token) (values : Vec ListedExpr) → view_stmt (stmts.Define targets operator values) ≡ tree forms.DefineForm (each view_listed_expr targets.items ⊕ one operator ⊕ each view_listed_expr values.items)
view_stmt_define targets operator values = ap view_stmt (sym (stmts.rolls-Define targets operator values)) ∙ put_stmt (layers.Stmt-F.Define targets operator values) ∙ ap (λ (seen : Forest). tree forms.DefineForm (seen ⊕ one operator ⊕ all (map view_listed_expr values.items))) (all_seen view_listed_expr targets.items) ∙ ap (λ (seen : Forest). tree forms.DefineForm (each view_listed_expr targets.items ⊕ one operator ⊕ seen)) (all_seen view_listed_expr values.items)

pub view_stmt_go : (word : Token) (call : Box Expr) → view_stmt (stmts.Go word call) ≡ tree forms.GoForm (one word ⊕ view_expr call.value)
view_stmt_go word call = ap view_stmt (sym (stmts.rolls-Go word call)) ∙ put_stmt (layers.Stmt-F.Go word call)

pub view_stmt_defer : (word : Token) (call : Box Expr) → view_stmt (stmts.Defer word call) ≡ tree forms.DeferForm (one word ⊕ view_expr call.value)
view_stmt_defer word call = ap view_stmt (sym (stmts.rolls-Defer word call)) ∙ put_stmt (layers.Stmt-F.Defer word call)

pub view_stmt_return : (word : Token) (results : Vec ListedExpr) → view_stmt (stmts.Return word results) ≡ tree forms.ReturnForm (one word ⊕ each view_listed_expr results.items)
view_stmt_return word results = ap view_stmt (sym (stmts.rolls-Return word results)) ∙ put_stmt (layers.Stmt-F.Return word results) ∙ ap (λ (seen : Forest). tree forms.ReturnForm (one word ⊕ seen)) (all_seen view_listed_expr results.items)

pub view_stmt_break : (word : Token) (label : Option Token) → view_stmt (stmts.Break word label) ≡ tree forms.BreakForm (one word ⊕ token_if label)
view_stmt_break word label = ap view_stmt (sym (stmts.rolls-Break word label)) ∙ put_stmt (layers.Stmt-F.Break word label)

pub view_stmt_continue : (word : Token) (label : Option Token) → view_stmt (stmts.Continue word label) ≡ tree forms.ContinueForm (one word ⊕ token_if label)
view_stmt_continue word label = ap view_stmt (sym (stmts.rolls-Continue word label)) ∙ put_stmt (layers.Stmt-F.Continue word label)

pub view_stmt_fallthrough : (token : Token) → view_stmt (stmts.Fallthrough token) ≡ tree forms.FallthroughForm (one token)
view_stmt_fallthrough token = ap view_stmt (sym (stmts.rolls-Fallthrough token)) ∙ put_stmt (layers.Stmt-F.Fallthrough token)

pub view_stmt_block : (block : Block) → view_stmt (stmts.Block block) ≡ view_block block
view_stmt_block block = ap view_stmt (sym (stmts.rolls-Block block)) ∙ put_stmt (layers.Stmt-F.Block block)

pub view_stmt_if : (arms : Vec IfArm) (else_word : Option Token) (otherwise : Option (Box Block)) → view_stmt (stmts.If arms else_word otherwise) ≡ tree forms.IfForm (each view_if_arm arms.items ⊕ token_if else_word ⊕ if_some (λ (y : Box Block). view_block y.value) otherwise)
view_stmt_if arms else_word None = ap view_stmt (sym (stmts.rolls-If arms else_word None)) ∙ put_stmt (layers.Stmt-F.If arms else_word None) ∙ ap (λ (seen : Forest). tree forms.IfForm (seen ⊕ token_if else_word ⊕ if_some (λ (y : Box Block). view_block y.value) None)) (all_seen view_if_arm arms.items)
view_stmt_if arms else_word (Some otherwise) = ap view_stmt (sym (stmts.rolls-If arms else_word (Some otherwise))) ∙ put_stmt (layers.Stmt-F.If arms else_word (Some otherwise)) ∙ ap (λ (seen : Forest). tree forms.IfForm (seen ⊕ token_if else_word ⊕ if_some (λ (y : Box Block). view_block y.value) (Some otherwise))) (all_seen view_if_arm arms.items)

pub view_stmt_switch : (stmt : Box SwitchStmt) → view_stmt (stmts.Switch stmt) ≡ view_switch_stmt stmt.value
view_stmt_switch stmt = ap view_stmt (sym (stmts.rolls-Switch stmt)) ∙ put_stmt (layers.Stmt-F.Switch stmt)

pub view_stmt_type_switch : (stmt : Box TypeSwitchStmt) → view_stmt (stmts.TypeSwitch stmt) ≡ view_type_switch_stmt stmt.value
view_stmt_type_switch stmt = ap view_stmt (sym (stmts.rolls-TypeSwitch stmt)) ∙ put_stmt (layers.Stmt-F.TypeSwitch stmt)

pub view_stmt_select : (word : Token) («open» : Token) (clauses : Vec CommClause) (close : Token) → view_stmt (stmts.Select word «open» clauses close) ≡ tree forms.SelectForm (one word ⊕ one «open» ⊕ each view_comm_clause clauses.items ⊕ one close)
view_stmt_select word «open» clauses close = ap view_stmt (sym (stmts.rolls-Select word «open» clauses close)) ∙ put_stmt (layers.Stmt-F.Select word «open» clauses close) ∙ ap (λ (seen : Forest). tree forms.SelectForm (one word ⊕ one «open» ⊕ seen ⊕ one close)) (all_seen view_comm_clause clauses.items)

pub view_stmt_while : (word : Token) (condition : Option (Box Expr)) (body : Box Block) → view_stmt (stmts.While word condition body) ≡ tree forms.WhileForm (one word ⊕ if_some (λ (y : Box Expr). view_expr y.value) condition ⊕ view_block body.value)
view_stmt_while word None body = ap view_stmt (sym (stmts.rolls-While word None body)) ∙ put_stmt (layers.Stmt-F.While word None body)
view_stmt_while word (Some condition) body = ap view_stmt (sym (stmts.rolls-While word (Some condition) body)) ∙ put_stmt (layers.Stmt-F.While word (Some condition) body)

pub view_stmt_for : (stmt : Box ForStmt) → view_stmt (stmts.For stmt) ≡ view_for_stmt stmt.value
view_stmt_for stmt = ap view_stmt (sym (stmts.rolls-For stmt)) ∙ put_stmt (layers.Stmt-F.For stmt)

pub view_stmt_range : (stmt : Box RangeStmt) → view_stmt (stmts.Range stmt) ≡ view_range_stmt stmt.value
view_stmt_range stmt = ap view_stmt (sym (stmts.rolls-Range stmt)) ∙ put_stmt (layers.Stmt-F.Range stmt)

-- ---- ElementLine

pub view_element_line_empty : (token : Token) → view_element_line (element_lines.Empty token) ≡ one token
view_element_line_empty token = ap view_element_line (sym (element_lines.rolls-Empty token)) ∙ put_element_line (layers.ElementLine-F.ElementLine::Empty token)

pub view_element_line_method : (name : Token) (signature : Box Signature) (semicolon : Option Token) → view_element_line (element_lines.Method name signature semicolon) ≡ tree forms.MethodForm (one name ⊕ view_signature signature.value) ⊕ token_if semicolon
view_element_line_method name signature semicolon = ap view_element_line (sym (element_lines.rolls-Method name signature semicolon)) ∙ put_element_line (layers.ElementLine-F.Method name signature semicolon)

pub view_element_line_embedded : (name : NamedType) (semicolon : Option Token) → view_element_line (element_lines.Embedded name semicolon) ≡ tree forms.EmbeddedElementForm (view_named name) ⊕ token_if semicolon
view_element_line_embedded name semicolon = ap view_element_line (sym (element_lines.rolls-Embedded name semicolon)) ∙ put_element_line (layers.ElementLine-F.ElementLine::Embedded name semicolon)

-- ---- FieldLine

pub view_field_line_empty : (token : Token) → view_field_line (field_lines.Empty token) ≡ one token
view_field_line_empty token = ap view_field_line (sym (field_lines.rolls-Empty token)) ∙ put_field_line (layers.FieldLine-F.FieldLine::Empty token)

pub view_field_line_named : (names : Vec ListedName) (form : Box TypeExpr) (tag : Option Token) (semicolon : Option Token) → view_field_line (field_lines.Named names form tag semicolon) ≡ tree forms.NamedFieldForm (each view_listed_name names.items ⊕ view_type_expr form.value ⊕ token_if tag) ⊕ token_if semicolon
view_field_line_named names form tag semicolon = ap view_field_line (sym (field_lines.rolls-Named names form tag semicolon)) ∙ put_field_line (layers.FieldLine-F.Named names form tag semicolon)

pub view_field_line_embedded : (star : Option Token) (name : NamedType) (tag : Option Token) (semicolon : Option Token) → view_field_line (field_lines.Embedded star name tag semicolon) ≡ tree forms.EmbeddedFieldForm (token_if star ⊕ view_named name ⊕ token_if tag) ⊕ token_if semicolon
view_field_line_embedded star name tag semicolon = ap view_field_line (sym (field_lines.rolls-Embedded star name tag semicolon)) ∙ put_field_line (layers.FieldLine-F.FieldLine::Embedded star name tag semicolon)

-- ---- ResultForm

pub view_result_form_none : view_result_form results.None ≡ empty
view_result_form_none = ap view_result_form (sym results.rolls-None) ∙ put_result_form layers.ResultForm-F.None

pub view_result_form_params : (params : Params) → view_result_form (results.Params params) ≡ view_params params
view_result_form_params params = ap view_result_form (sym (results.rolls-Params params)) ∙ put_result_form (layers.ResultForm-F.Params params)

pub view_result_form_type_form : (form : Box TypeExpr) → view_result_form (results.TypeForm form) ≡ view_type_expr form.value
view_result_form_type_form form = ap view_result_form (sym (results.rolls-TypeForm form)) ∙ put_result_form (layers.ResultForm-F.ResultForm::TypeForm form)

-- ---- TypeExpr

pub view_type_expr_name : (name : NamedType) → view_type_expr (types.Name name) ≡ view_named name
view_type_expr_name name = ap view_type_expr (sym (types.rolls-Name name)) ∙ put_type_expr (layers.TypeExpr-F.TypeExpr::Name name)

pub view_type_expr_paren : («open» : Token) (inner : Box TypeExpr) (close : Token) → view_type_expr (types.Paren «open» inner close) ≡ tree forms.ParenTypeForm (one «open» ⊕ view_type_expr inner.value ⊕ one close)
view_type_expr_paren «open» inner close = ap view_type_expr (sym (types.rolls-Paren «open» inner close)) ∙ put_type_expr (layers.TypeExpr-F.TypeExpr::Paren «open» inner close)

pub view_type_expr_pointer : (star : Token) (base : Box TypeExpr) → view_type_expr (types.Pointer star base) ≡ tree forms.PointerForm (one star ⊕ view_type_expr base.value)
view_type_expr_pointer star base = ap view_type_expr (sym (types.rolls-Pointer star base)) ∙ put_type_expr (layers.TypeExpr-F.Pointer star base)

pub view_type_expr_slice : («open» : Token) (close : Token) (element : Box TypeExpr) → view_type_expr (types.Slice «open» close element) ≡ tree forms.SliceForm (one «open» ⊕ one close ⊕ view_type_expr element.value)
view_type_expr_slice «open» close element = ap view_type_expr (sym (types.rolls-Slice «open» close element)) ∙ put_type_expr (layers.TypeExpr-F.TypeExpr::Slice «open» close element)

pub view_type_expr_array : («open» : Token) (length : Box Expr) (close : Token) (element : Box TypeExpr) → view_type_expr (types.Array «open» length close element) ≡ tree forms.ArrayForm (one «open» ⊕ view_expr length.value ⊕ one close ⊕ view_type_expr element.value)
view_type_expr_array «open» length close element = ap view_type_expr (sym (types.rolls-Array «open» length close element)) ∙ put_type_expr (layers.TypeExpr-F.Array «open» length close element)

pub view_type_expr_open_array : («open» : Token) (ellipsis : Token) (close : Token) (element : Box TypeExpr) → view_type_expr (types.OpenArray «open» ellipsis close element) ≡ tree forms.OpenArrayForm (one «open» ⊕ one ellipsis ⊕ one close ⊕ view_type_expr element.value)
view_type_expr_open_array «open» ellipsis close element = ap view_type_expr (sym (types.rolls-OpenArray «open» ellipsis close element)) ∙ put_type_expr (layers.TypeExpr-F.OpenArray «open» ellipsis close element)

pub view_type_expr_map : (word : Token) («open» : Token) (key : Box TypeExpr) (close : Token) (element : Box TypeExpr) → view_type_expr (types.Map word «open» key close element) ≡ tree forms.MapForm (one word ⊕ one «open» ⊕ view_type_expr key.value ⊕ one close ⊕ view_type_expr element.value)
view_type_expr_map word «open» key close element = ap view_type_expr (sym (types.rolls-Map word «open» key close element)) ∙ put_type_expr (layers.TypeExpr-F.Map word «open» key close element)

pub view_type_expr_chan : (word : Token) (arrow : Option Token) (element : Box TypeExpr) → view_type_expr (types.Chan word arrow element) ≡ tree forms.ChanForm (one word ⊕ token_if arrow ⊕ view_type_expr element.value)
view_type_expr_chan word arrow element = ap view_type_expr (sym (types.rolls-Chan word arrow element)) ∙ put_type_expr (layers.TypeExpr-F.Chan word arrow element)

pub view_type_expr_receive_chan : (arrow : Token) (word : Token) (element : Box TypeExpr) → view_type_expr (types.ReceiveChan arrow word element) ≡ tree forms.ReceiveChanForm (one arrow ⊕ one word ⊕ view_type_expr element.value)
view_type_expr_receive_chan arrow word element = ap view_type_expr (sym (types.rolls-ReceiveChan arrow word element)) ∙ put_type_expr (layers.TypeExpr-F.ReceiveChan arrow word element)

pub view_type_expr_function : (word : Token) (signature : Box Signature) → view_type_expr (types.Function word signature) ≡ tree forms.FunctionForm (one word ⊕ view_signature signature.value)
view_type_expr_function word signature = ap view_type_expr (sym (types.rolls-Function word signature)) ∙ put_type_expr (layers.TypeExpr-F.TypeExpr::Function word signature)

pub view_type_expr_struct : (word : Token) («open» : Token) (fields : Vec FieldLine) (close : Token) → view_type_expr (types.Struct word «open» fields close) ≡ tree forms.StructForm (one word ⊕ one «open» ⊕ each view_field_line fields.items ⊕ one close)
view_type_expr_struct word «open» fields close = ap view_type_expr (sym (types.rolls-Struct word «open» fields close)) ∙ put_type_expr (layers.TypeExpr-F.Struct word «open» fields close) ∙ ap (λ (seen : Forest). tree forms.StructForm (one word ⊕ one «open» ⊕ seen ⊕ one close)) (all_seen view_field_line fields.items)

pub view_type_expr_interface : (word : Token) («open» : Token) (elements : Vec ElementLine) (close : Token) → view_type_expr (types.Interface word «open» elements close) ≡ tree forms.InterfaceForm (one word ⊕ one «open» ⊕ each view_element_line elements.items ⊕ one close)
view_type_expr_interface word «open» elements close = ap view_type_expr (sym (types.rolls-Interface word «open» elements close)) ∙ put_type_expr (layers.TypeExpr-F.Interface word «open» elements close) ∙ ap (λ (seen : Forest). tree forms.InterfaceForm (one word ⊕ one «open» ⊕ seen ⊕ one close)) (all_seen view_element_line elements.items)

-- ---- FuncDecl

made_func_decl : (word : Token) (receiver : Option Params) (name : Token) (signature : Signature) (body : Option Block) → view_func_decl (roll-FuncDecl (record { word = word; receiver = receiver; name = name; signature = signature; body = body })) ≡ tree forms.FuncForm (one word ⊕ if_some view_params receiver ⊕ one name ⊕ view_signature signature ⊕ if_some view_block body)
made_func_decl word None name signature None = put_func_decl (record { word = word; receiver = None; name = name; signature = signature; body = None })
made_func_decl word None name signature (Some body) = put_func_decl (record { word = word; receiver = None; name = name; signature = signature; body = Some body })
made_func_decl word (Some receiver) name signature None = put_func_decl (record { word = word; receiver = Some receiver; name = name; signature = signature; body = None })
made_func_decl word (Some receiver) name signature (Some body) = put_func_decl (record { word = word; receiver = Some receiver; name = name; signature = signature; body = Some body })

pub view_func_decl_made : (x : FuncDecl-F Decl Expr Stmt ElementLine FieldLine ResultForm TypeExpr FuncDecl TypeSpec ValueSpec Element ListedExpr Block CaseClause CommClause ForStmt IfArm RangeStmt StmtLine SwitchStmt TypeSwitchStmt Param Params Signature) → view_func_decl (roll-FuncDecl x) ≡ tree forms.FuncForm (one x.word ⊕ if_some view_params x.receiver ⊕ one x.name ⊕ view_signature x.signature ⊕ if_some view_block x.body)
view_func_decl_made x = made_func_decl x.word x.receiver x.name x.signature x.body

-- ---- TypeSpec

pub view_type_spec_made : (x : TypeSpec-F Decl Expr Stmt ElementLine FieldLine ResultForm TypeExpr FuncDecl TypeSpec ValueSpec Element ListedExpr Block CaseClause CommClause ForStmt IfArm RangeStmt StmtLine SwitchStmt TypeSwitchStmt Param Params Signature) → view_type_spec (roll-TypeSpec x) ≡ tree forms.TypeSpecForm (one x.name ⊕ token_if x.assign ⊕ view_type_expr x.form.value) ⊕ token_if x.semicolon
view_type_spec_made x = put_type_spec x

-- ---- ValueSpec

made_value_spec : (names : Vec ListedName) (form : Option (Box TypeExpr)) (assign : Option Token) (values : Vec ListedExpr) (semicolon : Option Token) → view_value_spec (roll-ValueSpec (record { names = names; form = form; assign = assign; values = values; semicolon = semicolon })) ≡ tree forms.ValueSpecForm (each view_listed_name names.items ⊕ if_some (λ (y : Box TypeExpr). view_type_expr y.value) form ⊕ token_if assign ⊕ each view_listed_expr values.items) ⊕ token_if semicolon
made_value_spec names None assign values semicolon = put_value_spec (record { names = names; form = None; assign = assign; values = values; semicolon = semicolon }) ∙ ap (λ (seen : Forest). tree forms.ValueSpecForm (each view_listed_name names.items ⊕ if_some (λ (y : Box TypeExpr). view_type_expr y.value) None ⊕ token_if assign ⊕ seen) ⊕ token_if semicolon) (all_seen view_listed_expr values.items)
made_value_spec names (Some form) assign values semicolon = put_value_spec (record { names = names; form = Some form; assign = assign; values = values; semicolon = semicolon }) ∙ ap (λ (seen : Forest). tree forms.ValueSpecForm (each view_listed_name names.items ⊕ if_some (λ (y : Box TypeExpr). view_type_expr y.value) (Some form) ⊕ token_if assign ⊕ seen) ⊕ token_if semicolon) (all_seen view_listed_expr values.items)

pub view_value_spec_made : (x : ValueSpec-F Decl Expr Stmt ElementLine FieldLine ResultForm TypeExpr FuncDecl TypeSpec ValueSpec Element ListedExpr Block CaseClause CommClause ForStmt IfArm RangeStmt StmtLine SwitchStmt TypeSwitchStmt Param Params Signature) → view_value_spec (roll-ValueSpec x) ≡ tree forms.ValueSpecForm (each view_listed_name x.names.items ⊕ if_some (λ (y : Box TypeExpr). view_type_expr y.value) x.form ⊕ token_if x.assign ⊕ each view_listed_expr x.values.items) ⊕ token_if x.semicolon
view_value_spec_made x = made_value_spec x.names x.form x.assign x.values x.semicolon

-- ---- Element

made_element : (key : Option (Box Expr)) (colon : Option Token) (value : Box Expr) (comma : Option Token) → view_element (roll-Element (record { key = key; colon = colon; value = value; comma = comma })) ≡ tree forms.ElementForm (if_some (λ (y : Box Expr). view_expr y.value) key ⊕ token_if colon ⊕ view_expr value.value) ⊕ token_if comma
made_element None colon value comma = put_element (record { key = None; colon = colon; value = value; comma = comma })
made_element (Some key) colon value comma = put_element (record { key = Some key; colon = colon; value = value; comma = comma })

pub view_element_made : (x : Element-F Decl Expr Stmt ElementLine FieldLine ResultForm TypeExpr FuncDecl TypeSpec ValueSpec Element ListedExpr Block CaseClause CommClause ForStmt IfArm RangeStmt StmtLine SwitchStmt TypeSwitchStmt Param Params Signature) → view_element (roll-Element x) ≡ tree forms.ElementForm (if_some (λ (y : Box Expr). view_expr y.value) x.key ⊕ token_if x.colon ⊕ view_expr x.value.value) ⊕ token_if x.comma
view_element_made x = made_element x.key x.colon x.value x.comma

-- ---- ListedExpr

pub view_listed_expr_made : (x : ListedExpr-F Decl Expr Stmt ElementLine FieldLine ResultForm TypeExpr FuncDecl TypeSpec ValueSpec Element ListedExpr Block CaseClause CommClause ForStmt IfArm RangeStmt StmtLine SwitchStmt TypeSwitchStmt Param Params Signature) → view_listed_expr (roll-ListedExpr x) ≡ view_expr x.expr.value ⊕ token_if x.comma
view_listed_expr_made x = put_listed_expr x

-- ---- Block

pub view_block_made : (x : Block-F Decl Expr Stmt ElementLine FieldLine ResultForm TypeExpr FuncDecl TypeSpec ValueSpec Element ListedExpr Block CaseClause CommClause ForStmt IfArm RangeStmt StmtLine SwitchStmt TypeSwitchStmt Param Params Signature) → view_block (roll-Block x) ≡ tree forms.BlockForm (one x.«open» ⊕ each view_stmt_line x.statements.items ⊕ one x.close)
view_block_made x = put_block x ∙ ap (λ (seen : Forest). tree forms.BlockForm (one x.«open» ⊕ seen ⊕ one x.close)) (all_seen view_stmt_line x.statements.items)

-- ---- CaseClause

pub view_case_clause_made : (x : CaseClause-F Decl Expr Stmt ElementLine FieldLine ResultForm TypeExpr FuncDecl TypeSpec ValueSpec Element ListedExpr Block CaseClause CommClause ForStmt IfArm RangeStmt StmtLine SwitchStmt TypeSwitchStmt Param Params Signature) → view_case_clause (roll-CaseClause x) ≡ tree forms.CaseClauseForm (one x.word ⊕ each view_listed_expr x.items.items ⊕ one x.colon ⊕ each view_stmt_line x.statements.items)
view_case_clause_made x = put_case_clause x ∙ ap (λ (seen : Forest). tree forms.CaseClauseForm (one x.word ⊕ seen ⊕ one x.colon ⊕ all (map view_stmt_line x.statements.items))) (all_seen view_listed_expr x.items.items) ∙ ap (λ (seen : Forest). tree forms.CaseClauseForm (one x.word ⊕ each view_listed_expr x.items.items ⊕ one x.colon ⊕ seen)) (all_seen view_stmt_line x.statements.items)

-- ---- CommClause

made_comm_clause : (word : Token) (comm : Option (Box Stmt)) (colon : Token) (statements : Vec StmtLine) → view_comm_clause (roll-CommClause (record { word = word; comm = comm; colon = colon; statements = statements })) ≡ tree forms.CommClauseForm (one word ⊕ if_some (λ (y : Box Stmt). view_stmt y.value) comm ⊕ one colon ⊕ each view_stmt_line statements.items)
made_comm_clause word None colon statements = put_comm_clause (record { word = word; comm = None; colon = colon; statements = statements }) ∙ ap (λ (seen : Forest). tree forms.CommClauseForm (one word ⊕ if_some (λ (y : Box Stmt). view_stmt y.value) None ⊕ one colon ⊕ seen)) (all_seen view_stmt_line statements.items)
made_comm_clause word (Some comm) colon statements = put_comm_clause (record { word = word; comm = Some comm; colon = colon; statements = statements }) ∙ ap (λ (seen : Forest). tree forms.CommClauseForm (one word ⊕ if_some (λ (y : Box Stmt). view_stmt y.value) (Some comm) ⊕ one colon ⊕ seen)) (all_seen view_stmt_line statements.items)

pub view_comm_clause_made : (x : CommClause-F Decl Expr Stmt ElementLine FieldLine ResultForm TypeExpr FuncDecl TypeSpec ValueSpec Element ListedExpr Block CaseClause CommClause ForStmt IfArm RangeStmt StmtLine SwitchStmt TypeSwitchStmt Param Params Signature) → view_comm_clause (roll-CommClause x) ≡ tree forms.CommClauseForm (one x.word ⊕ if_some (λ (y : Box Stmt). view_stmt y.value) x.comm ⊕ one x.colon ⊕ each view_stmt_line x.statements.items)
view_comm_clause_made x = made_comm_clause x.word x.comm x.colon x.statements

-- ---- ForStmt

made_for_stmt : (word : Token) (init : Option (Box Stmt)) (first : Token) (condition : Option (Box Expr)) (second : Token) (post : Option (Box Stmt)) (body : Block) → view_for_stmt (roll-ForStmt (record { word = word; init = init; first = first; condition = condition; second = second; post = post; body = body })) ≡ tree forms.ForForm (one word ⊕ if_some (λ (y : Box Stmt). view_stmt y.value) init ⊕ one first ⊕ if_some (λ (y : Box Expr). view_expr y.value) condition ⊕ one second ⊕ if_some (λ (y : Box Stmt). view_stmt y.value) post ⊕ view_block body)
made_for_stmt word None first None second None body = put_for_stmt (record { word = word; init = None; first = first; condition = None; second = second; post = None; body = body })
made_for_stmt word None first None second (Some post) body = put_for_stmt (record { word = word; init = None; first = first; condition = None; second = second; post = Some post; body = body })
made_for_stmt word None first (Some condition) second None body = put_for_stmt (record { word = word; init = None; first = first; condition = Some condition; second = second; post = None; body = body })
made_for_stmt word None first (Some condition) second (Some post) body = put_for_stmt (record { word = word; init = None; first = first; condition = Some condition; second = second; post = Some post; body = body })
made_for_stmt word (Some init) first None second None body = put_for_stmt (record { word = word; init = Some init; first = first; condition = None; second = second; post = None; body = body })
made_for_stmt word (Some init) first None second (Some post) body = put_for_stmt (record { word = word; init = Some init; first = first; condition = None; second = second; post = Some post; body = body })
made_for_stmt word (Some init) first (Some condition) second None body = put_for_stmt (record { word = word; init = Some init; first = first; condition = Some condition; second = second; post = None; body = body })
made_for_stmt word (Some init) first (Some condition) second (Some post) body = put_for_stmt (record { word = word; init = Some init; first = first; condition = Some condition; second = second; post = Some post; body = body })

pub view_for_stmt_made : (x : ForStmt-F Decl Expr Stmt ElementLine FieldLine ResultForm TypeExpr FuncDecl TypeSpec ValueSpec Element ListedExpr Block CaseClause CommClause ForStmt IfArm RangeStmt StmtLine SwitchStmt TypeSwitchStmt Param Params Signature) → view_for_stmt (roll-ForStmt x) ≡ tree forms.ForForm (one x.word ⊕ if_some (λ (y : Box Stmt). view_stmt y.value) x.init ⊕ one x.first ⊕ if_some (λ (y : Box Expr). view_expr y.value) x.condition ⊕ one x.second ⊕ if_some (λ (y : Box Stmt). view_stmt y.value) x.post ⊕ view_block x.body)
view_for_stmt_made x = made_for_stmt x.word x.init x.first x.condition x.second x.post x.body

-- ---- IfArm

made_if_arm : (else_word : Option Token) (word : Token) (init : Option (Box Stmt)) (semicolon : Option Token) (condition : Box Expr) (body : Block) → view_if_arm (roll-IfArm (record { else_word = else_word; word = word; init = init; semicolon = semicolon; condition = condition; body = body })) ≡ tree forms.ArmForm (token_if else_word ⊕ one word ⊕ if_some (λ (y : Box Stmt). view_stmt y.value) init ⊕ token_if semicolon ⊕ view_expr condition.value ⊕ view_block body)
made_if_arm else_word word None semicolon condition body = put_if_arm (record { else_word = else_word; word = word; init = None; semicolon = semicolon; condition = condition; body = body })
made_if_arm else_word word (Some init) semicolon condition body = put_if_arm (record { else_word = else_word; word = word; init = Some init; semicolon = semicolon; condition = condition; body = body })

pub view_if_arm_made : (x : IfArm-F Decl Expr Stmt ElementLine FieldLine ResultForm TypeExpr FuncDecl TypeSpec ValueSpec Element ListedExpr Block CaseClause CommClause ForStmt IfArm RangeStmt StmtLine SwitchStmt TypeSwitchStmt Param Params Signature) → view_if_arm (roll-IfArm x) ≡ tree forms.ArmForm (token_if x.else_word ⊕ one x.word ⊕ if_some (λ (y : Box Stmt). view_stmt y.value) x.init ⊕ token_if x.semicolon ⊕ view_expr x.condition.value ⊕ view_block x.body)
view_if_arm_made x = made_if_arm x.else_word x.word x.init x.semicolon x.condition x.body

-- ---- RangeStmt

pub view_range_stmt_made : (x : RangeStmt-F Decl Expr Stmt ElementLine FieldLine ResultForm TypeExpr FuncDecl TypeSpec ValueSpec Element ListedExpr Block CaseClause CommClause ForStmt IfArm RangeStmt StmtLine SwitchStmt TypeSwitchStmt Param Params Signature) → view_range_stmt (roll-RangeStmt x) ≡ tree forms.RangeForm (one x.word ⊕ each view_listed_expr x.targets.items ⊕ token_if x.operator ⊕ one x.range ⊕ view_expr x.operand.value ⊕ view_block x.body)
view_range_stmt_made x = put_range_stmt x ∙ ap (λ (seen : Forest). tree forms.RangeForm (one x.word ⊕ seen ⊕ token_if x.operator ⊕ one x.range ⊕ view_expr x.operand.value ⊕ view_block x.body)) (all_seen view_listed_expr x.targets.items)

-- ---- StmtLine

made_stmt_line : (stmt : Option (Box Stmt)) (semicolon : Option Token) → view_stmt_line (roll-StmtLine (record { stmt = stmt; semicolon = semicolon })) ≡ tree forms.LineForm (if_some (λ (y : Box Stmt). view_stmt y.value) stmt ⊕ token_if semicolon)
made_stmt_line None semicolon = put_stmt_line (record { stmt = None; semicolon = semicolon })
made_stmt_line (Some stmt) semicolon = put_stmt_line (record { stmt = Some stmt; semicolon = semicolon })

pub view_stmt_line_made : (x : StmtLine-F Decl Expr Stmt ElementLine FieldLine ResultForm TypeExpr FuncDecl TypeSpec ValueSpec Element ListedExpr Block CaseClause CommClause ForStmt IfArm RangeStmt StmtLine SwitchStmt TypeSwitchStmt Param Params Signature) → view_stmt_line (roll-StmtLine x) ≡ tree forms.LineForm (if_some (λ (y : Box Stmt). view_stmt y.value) x.stmt ⊕ token_if x.semicolon)
view_stmt_line_made x = made_stmt_line x.stmt x.semicolon

-- ---- SwitchStmt

made_switch_stmt : (word : Token) (init : Option (Box Stmt)) (semicolon : Option Token) (tag : Option (Box Expr)) («open» : Token) (clauses : Vec CaseClause) (close : Token) → view_switch_stmt (roll-SwitchStmt (record { word = word; init = init; semicolon = semicolon; tag = tag; «open» = «open»; clauses = clauses; close = close })) ≡ tree forms.SwitchForm (one word ⊕ if_some (λ (y : Box Stmt). view_stmt y.value) init ⊕ token_if semicolon ⊕ if_some (λ (y : Box Expr). view_expr y.value) tag ⊕ one «open» ⊕ each view_case_clause clauses.items ⊕ one close)
made_switch_stmt word None semicolon None «open» clauses close = put_switch_stmt (record { word = word; init = None; semicolon = semicolon; tag = None; «open» = «open»; clauses = clauses; close = close }) ∙ ap (λ (seen : Forest). tree forms.SwitchForm (one word ⊕ if_some (λ (y : Box Stmt). view_stmt y.value) None ⊕ token_if semicolon ⊕ if_some (λ (y : Box Expr). view_expr y.value) None ⊕ one «open» ⊕ seen ⊕ one close)) (all_seen view_case_clause clauses.items)
made_switch_stmt word None semicolon (Some tag) «open» clauses close = put_switch_stmt (record { word = word; init = None; semicolon = semicolon; tag = Some tag; «open» = «open»; clauses = clauses; close = close }) ∙ ap (λ (seen : Forest). tree forms.SwitchForm (one word ⊕ if_some (λ (y : Box Stmt). view_stmt y.value) None ⊕ token_if semicolon ⊕ if_some (λ (y : Box Expr). view_expr y.value) (Some tag) ⊕ one «open» ⊕ seen ⊕ one close)) (all_seen view_case_clause clauses.items)
made_switch_stmt word (Some init) semicolon None «open» clauses close = put_switch_stmt (record { word = word; init = Some init; semicolon = semicolon; tag = None; «open» = «open»; clauses = clauses; close = close }) ∙ ap (λ (seen : Forest). tree forms.SwitchForm (one word ⊕ if_some (λ (y : Box Stmt). view_stmt y.value) (Some init) ⊕ token_if semicolon ⊕ if_some (λ (y : Box Expr). view_expr y.value) None ⊕ one «open» ⊕ seen ⊕ one close)) (all_seen view_case_clause clauses.items)
made_switch_stmt word (Some init) semicolon (Some tag) «open» clauses close = put_switch_stmt (record { word = word; init = Some init; semicolon = semicolon; tag = Some tag; «open» = «open»; clauses = clauses; close = close }) ∙ ap (λ (seen : Forest). tree forms.SwitchForm (one word ⊕ if_some (λ (y : Box Stmt). view_stmt y.value) (Some init) ⊕ token_if semicolon ⊕ if_some (λ (y : Box Expr). view_expr y.value) (Some tag) ⊕ one «open» ⊕ seen ⊕ one close)) (all_seen view_case_clause clauses.items)

pub view_switch_stmt_made : (x : SwitchStmt-F Decl Expr Stmt ElementLine FieldLine ResultForm TypeExpr FuncDecl TypeSpec ValueSpec Element ListedExpr Block CaseClause CommClause ForStmt IfArm RangeStmt StmtLine SwitchStmt TypeSwitchStmt Param Params Signature) → view_switch_stmt (roll-SwitchStmt x) ≡ tree forms.SwitchForm (one x.word ⊕ if_some (λ (y : Box Stmt). view_stmt y.value) x.init ⊕ token_if x.semicolon ⊕ if_some (λ (y : Box Expr). view_expr y.value) x.tag ⊕ one x.«open» ⊕ each view_case_clause x.clauses.items ⊕ one x.close)
view_switch_stmt_made x = made_switch_stmt x.word x.init x.semicolon x.tag x.«open» x.clauses x.close

-- ---- TypeSwitchStmt

made_type_switch_stmt : (word : Token) (init : Option (Box Stmt)) (semicolon : Option Token) (binding : Option Binding) (operand : Box Expr) (dot : Token) (open_paren : Token) (type_word : Token) (close_paren : Token) («open» : Token) (clauses : Vec CaseClause) (close : Token) → view_type_switch_stmt (roll-TypeSwitchStmt (record { word = word; init = init; semicolon = semicolon; binding = binding; operand = operand; dot = dot; open_paren = open_paren; type_word = type_word; close_paren = close_paren; «open» = «open»; clauses = clauses; close = close })) ≡ tree forms.TypeSwitchForm (one word ⊕ if_some (λ (y : Box Stmt). view_stmt y.value) init ⊕ token_if semicolon ⊕ if_some view_binding binding ⊕ view_expr operand.value ⊕ one dot ⊕ one open_paren ⊕ one type_word ⊕ one close_paren ⊕ one «open» ⊕ each view_case_clause clauses.items ⊕ one close)
made_type_switch_stmt word None semicolon binding operand dot open_paren type_word close_paren «open» clauses close = put_type_switch_stmt (record { word = word; init = None; semicolon = semicolon; binding = binding; operand = operand; dot = dot; open_paren = open_paren; type_word = type_word; close_paren = close_paren; «open» = «open»; clauses = clauses; close = close }) ∙ ap (λ (seen : Forest). tree forms.TypeSwitchForm (one word ⊕ if_some (λ (y : Box Stmt). view_stmt y.value) None ⊕ token_if semicolon ⊕ if_some view_binding binding ⊕ view_expr operand.value ⊕ one dot ⊕ one open_paren ⊕ one type_word ⊕ one close_paren ⊕ one «open» ⊕ seen ⊕ one close)) (all_seen view_case_clause clauses.items)
made_type_switch_stmt word (Some init) semicolon binding operand dot open_paren type_word close_paren «open» clauses close = put_type_switch_stmt (record { word = word; init = Some init; semicolon = semicolon; binding = binding; operand = operand; dot = dot; open_paren = open_paren; type_word = type_word; close_paren = close_paren; «open» = «open»; clauses = clauses; close = close }) ∙ ap (λ (seen : Forest). tree forms.TypeSwitchForm (one word ⊕ if_some (λ (y : Box Stmt). view_stmt y.value) (Some init) ⊕ token_if semicolon ⊕ if_some view_binding binding ⊕ view_expr operand.value ⊕ one dot ⊕ one open_paren ⊕ one type_word ⊕ one close_paren ⊕ one «open» ⊕ seen ⊕ one close)) (all_seen view_case_clause clauses.items)

pub view_type_switch_stmt_made : (x : TypeSwitchStmt-F Decl Expr Stmt ElementLine FieldLine ResultForm TypeExpr FuncDecl TypeSpec ValueSpec Element ListedExpr Block CaseClause CommClause ForStmt IfArm RangeStmt StmtLine SwitchStmt TypeSwitchStmt Param Params Signature) → view_type_switch_stmt (roll-TypeSwitchStmt x) ≡ tree forms.TypeSwitchForm (one x.word ⊕ if_some (λ (y : Box Stmt). view_stmt y.value) x.init ⊕ token_if x.semicolon ⊕ if_some view_binding x.binding ⊕ view_expr x.operand.value ⊕ one x.dot ⊕ one x.open_paren ⊕ one x.type_word ⊕ one x.close_paren ⊕ one x.«open» ⊕ each view_case_clause x.clauses.items ⊕ one x.close)
view_type_switch_stmt_made x = made_type_switch_stmt x.word x.init x.semicolon x.binding x.operand x.dot x.open_paren x.type_word x.close_paren x.«open» x.clauses x.close

-- ---- Param

pub view_param_made : (x : Param-F Decl Expr Stmt ElementLine FieldLine ResultForm TypeExpr FuncDecl TypeSpec ValueSpec Element ListedExpr Block CaseClause CommClause ForStmt IfArm RangeStmt StmtLine SwitchStmt TypeSwitchStmt Param Params Signature) → view_param (roll-Param x) ≡ tree forms.ParamForm (each view_listed_name x.names.items ⊕ token_if x.ellipsis ⊕ view_type_expr x.form.value) ⊕ token_if x.comma
view_param_made x = put_param x

-- ---- Params

pub view_params_made : (x : Params-F Decl Expr Stmt ElementLine FieldLine ResultForm TypeExpr FuncDecl TypeSpec ValueSpec Element ListedExpr Block CaseClause CommClause ForStmt IfArm RangeStmt StmtLine SwitchStmt TypeSwitchStmt Param Params Signature) → view_params (roll-Params x) ≡ tree forms.ParamsForm (one x.«open» ⊕ each view_param x.params.items ⊕ one x.close)
view_params_made x = put_params x ∙ ap (λ (seen : Forest). tree forms.ParamsForm (one x.«open» ⊕ seen ⊕ one x.close)) (all_seen view_param x.params.items)

-- ---- Signature

pub view_signature_made : (x : Signature-F Decl Expr Stmt ElementLine FieldLine ResultForm TypeExpr FuncDecl TypeSpec ValueSpec Element ListedExpr Block CaseClause CommClause ForStmt IfArm RangeStmt StmtLine SwitchStmt TypeSwitchStmt Param Params Signature) → view_signature (roll-Signature x) ≡ tree forms.SignatureForm (view_params x.params ⊕ view_result_form x.result)
view_signature_made x = put_signature x

-- ---- for each file of trees

pub ruleset type_views = (view_element_line_empty, view_element_line_method, view_element_line_embedded, view_field_line_empty, view_field_line_named, view_field_line_embedded, view_result_form_none, view_result_form_params, view_result_form_type_form, view_type_expr_name, view_type_expr_paren, view_type_expr_pointer, view_type_expr_slice, view_type_expr_array, view_type_expr_open_array, view_type_expr_map, view_type_expr_chan, view_type_expr_receive_chan, view_type_expr_function, view_type_expr_struct, view_type_expr_interface, view_param_made, view_params_made, view_signature_made)

pub ruleset expr_views = (view_expr_int, view_expr_rune, view_expr_text, view_expr_name, view_expr_paren, view_expr_function, view_expr_type_form, view_expr_composite, view_expr_selector, view_expr_assertion, view_expr_index, view_expr_slice, view_expr_full_slice, view_expr_call, view_expr_unary, view_expr_binary, view_element_made, view_listed_expr_made)

pub ruleset stmt_views = (view_stmt_decl, view_stmt_labeled, view_stmt_expr, view_stmt_send, view_stmt_step, view_stmt_assign, view_stmt_define, view_stmt_go, view_stmt_defer, view_stmt_return, view_stmt_break, view_stmt_continue, view_stmt_fallthrough, view_stmt_block, view_stmt_if, view_stmt_switch, view_stmt_type_switch, view_stmt_select, view_stmt_while, view_stmt_for, view_stmt_range, view_block_made, view_case_clause_made, view_comm_clause_made, view_for_stmt_made, view_if_arm_made, view_range_stmt_made, view_stmt_line_made, view_switch_stmt_made, view_type_switch_stmt_made)

pub ruleset decl_views = (view_decl_const, view_decl_type_decl, view_decl_var, view_decl_func, view_func_decl_made, view_type_spec_made, view_value_spec_made)

pub ruleset all_views = (type_views, expr_views, stmt_views, decl_views)
