-- Of which kinds the tokens of a file are, by the fields of its tree in which they stand: the operator of an assignment
-- is one, a comma between items is a comma, and so on. `Parts` has a line for each kind of tree.
use Rattle.std.specs.Prelude.{Bool, ◌&&◌, map}
use Rattle.go_ast.specs.declared.token.Kind.TheVariants as kinds
use Rattle.go_syntax.specs.declared.decls.DeclLine.{DeclLine}
use Rattle.go_syntax.specs.declared.decls.FileTree.{FileTree}
use Rattle.go_syntax.specs.declared.decls.ImportDecl.{ImportDecl}
use Rattle.go_syntax.specs.declared.decls.ImportSpec.{ImportSpec}
use Rattle.go_syntax.specs.declared.decls.Decl.{Decl}
use Rattle.go_syntax.specs.declared.exprs.Expr.{Expr}
use Rattle.go_syntax.specs.declared.stmts.Stmt.{Stmt}
use Rattle.go_syntax.specs.declared.type_exprs.ElementLine.{ElementLine}
use Rattle.go_syntax.specs.declared.type_exprs.FieldLine.{FieldLine}
use Rattle.go_syntax.specs.declared.type_exprs.ResultForm.{ResultForm}
use Rattle.go_syntax.specs.declared.type_exprs.TypeExpr.{TypeExpr}
use Rattle.go_syntax.specs.declared.decls.FuncDecl.{FuncDecl}
use Rattle.go_syntax.specs.declared.decls.TypeSpec.{TypeSpec}
use Rattle.go_syntax.specs.declared.decls.ValueSpec.{ValueSpec}
use Rattle.go_syntax.specs.declared.exprs.Element.{Element}
use Rattle.go_syntax.specs.declared.exprs.ListedExpr.{ListedExpr}
use Rattle.go_syntax.specs.declared.stmts.Block.{Block}
use Rattle.go_syntax.specs.declared.stmts.CaseClause.{CaseClause}
use Rattle.go_syntax.specs.declared.stmts.CommClause.{CommClause}
use Rattle.go_syntax.specs.declared.stmts.ForStmt.{ForStmt}
use Rattle.go_syntax.specs.declared.stmts.IfArm.{IfArm}
use Rattle.go_syntax.specs.declared.stmts.RangeStmt.{RangeStmt}
use Rattle.go_syntax.specs.declared.stmts.StmtLine.{StmtLine}
use Rattle.go_syntax.specs.declared.stmts.SwitchStmt.{SwitchStmt}
use Rattle.go_syntax.specs.declared.stmts.TypeSwitchStmt.{TypeSwitchStmt}
use Rattle.go_syntax.specs.declared.type_exprs.Param.{Param}
use Rattle.go_syntax.specs.declared.type_exprs.Params.{Params}
use Rattle.go_syntax.specs.declared.type_exprs.Signature.{Signature}
use Rattle.go_syntax.specs.declared.decls.Decl.TheFolds.{fold-Decl, fold-Expr, fold-Stmt, fold-ElementLine}
use Rattle.go_syntax.specs.declared.decls.Decl.TheFolds.{fold-FieldLine, fold-ResultForm, fold-TypeExpr, fold-FuncDecl}
use Rattle.go_syntax.specs.declared.decls.Decl.TheFolds.{fold-TypeSpec, fold-ValueSpec, fold-Element, fold-ListedExpr}
use Rattle.go_syntax.specs.declared.decls.Decl.TheFolds.{fold-Block, fold-CaseClause, fold-CommClause, fold-ForStmt}
use Rattle.go_syntax.specs.declared.decls.Decl.TheFolds.{fold-IfArm, fold-RangeStmt, fold-StmtLine, fold-SwitchStmt}
use Rattle.go_syntax.specs.declared.decls.Decl.TheFolds.{fold-TypeSwitchStmt, fold-Param, fold-Params, fold-Signature}
use Rattle.go_grammar.specs.Grammar.{is_semicolon}
use Rattle.tree_roles.specs.Tokens.{InList, ends, every, group, in_turn, is_if, is_kind}
use Rattle.tree_roles.specs.Parts.{decl_layer, expr_layer, stmt_layer, element_line_layer, field_line_layer}
use Rattle.tree_roles.specs.Parts.{result_form_layer, type_expr_layer, func_decl_layer, type_spec_layer}
use Rattle.tree_roles.specs.Parts.{value_spec_layer, element_layer, listed_expr_layer, block_layer, case_clause_layer}
use Rattle.tree_roles.specs.Parts.{comm_clause_layer, for_stmt_layer, if_arm_layer, range_stmt_layer, stmt_line_layer}
use Rattle.tree_roles.specs.Parts.{switch_stmt_layer, type_switch_stmt_layer, param_layer, params_layer}
use Rattle.tree_roles.specs.Parts.{signature_layer}

-- ---- trees

unfoldable pub roles_of_decl : Decl → Bool
roles_of_decl =
    fold-Decl Bool Bool Bool InList InList Bool Bool Bool InList InList InList InList Bool Bool Bool Bool Bool Bool
    InList Bool Bool InList Bool Bool decl_layer expr_layer stmt_layer element_line_layer field_line_layer
    result_form_layer type_expr_layer func_decl_layer type_spec_layer value_spec_layer element_layer listed_expr_layer
    block_layer case_clause_layer comm_clause_layer for_stmt_layer if_arm_layer range_stmt_layer stmt_line_layer
    switch_stmt_layer type_switch_stmt_layer param_layer params_layer signature_layer

unfoldable pub roles_of_expr : Expr → Bool
roles_of_expr =
    fold-Expr Bool Bool Bool InList InList Bool Bool Bool InList InList InList InList Bool Bool Bool Bool Bool Bool
    InList Bool Bool InList Bool Bool decl_layer expr_layer stmt_layer element_line_layer field_line_layer
    result_form_layer type_expr_layer func_decl_layer type_spec_layer value_spec_layer element_layer listed_expr_layer
    block_layer case_clause_layer comm_clause_layer for_stmt_layer if_arm_layer range_stmt_layer stmt_line_layer
    switch_stmt_layer type_switch_stmt_layer param_layer params_layer signature_layer

unfoldable pub roles_of_stmt : Stmt → Bool
roles_of_stmt =
    fold-Stmt Bool Bool Bool InList InList Bool Bool Bool InList InList InList InList Bool Bool Bool Bool Bool Bool
    InList Bool Bool InList Bool Bool decl_layer expr_layer stmt_layer element_line_layer field_line_layer
    result_form_layer type_expr_layer func_decl_layer type_spec_layer value_spec_layer element_layer listed_expr_layer
    block_layer case_clause_layer comm_clause_layer for_stmt_layer if_arm_layer range_stmt_layer stmt_line_layer
    switch_stmt_layer type_switch_stmt_layer param_layer params_layer signature_layer

unfoldable pub roles_of_element_line : ElementLine → InList
roles_of_element_line =
    fold-ElementLine Bool Bool Bool InList InList Bool Bool Bool InList InList InList InList Bool Bool Bool Bool Bool
    Bool InList Bool Bool InList Bool Bool decl_layer expr_layer stmt_layer element_line_layer field_line_layer
    result_form_layer type_expr_layer func_decl_layer type_spec_layer value_spec_layer element_layer listed_expr_layer
    block_layer case_clause_layer comm_clause_layer for_stmt_layer if_arm_layer range_stmt_layer stmt_line_layer
    switch_stmt_layer type_switch_stmt_layer param_layer params_layer signature_layer

unfoldable pub roles_of_field_line : FieldLine → InList
roles_of_field_line =
    fold-FieldLine Bool Bool Bool InList InList Bool Bool Bool InList InList InList InList Bool Bool Bool Bool Bool
    Bool InList Bool Bool InList Bool Bool decl_layer expr_layer stmt_layer element_line_layer field_line_layer
    result_form_layer type_expr_layer func_decl_layer type_spec_layer value_spec_layer element_layer listed_expr_layer
    block_layer case_clause_layer comm_clause_layer for_stmt_layer if_arm_layer range_stmt_layer stmt_line_layer
    switch_stmt_layer type_switch_stmt_layer param_layer params_layer signature_layer

unfoldable pub roles_of_result_form : ResultForm → Bool
roles_of_result_form =
    fold-ResultForm Bool Bool Bool InList InList Bool Bool Bool InList InList InList InList Bool Bool Bool Bool Bool
    Bool InList Bool Bool InList Bool Bool decl_layer expr_layer stmt_layer element_line_layer field_line_layer
    result_form_layer type_expr_layer func_decl_layer type_spec_layer value_spec_layer element_layer listed_expr_layer
    block_layer case_clause_layer comm_clause_layer for_stmt_layer if_arm_layer range_stmt_layer stmt_line_layer
    switch_stmt_layer type_switch_stmt_layer param_layer params_layer signature_layer

unfoldable pub roles_of_type_expr : TypeExpr → Bool
roles_of_type_expr =
    fold-TypeExpr Bool Bool Bool InList InList Bool Bool Bool InList InList InList InList Bool Bool Bool Bool Bool
    Bool InList Bool Bool InList Bool Bool decl_layer expr_layer stmt_layer element_line_layer field_line_layer
    result_form_layer type_expr_layer func_decl_layer type_spec_layer value_spec_layer element_layer listed_expr_layer
    block_layer case_clause_layer comm_clause_layer for_stmt_layer if_arm_layer range_stmt_layer stmt_line_layer
    switch_stmt_layer type_switch_stmt_layer param_layer params_layer signature_layer

unfoldable pub roles_of_func_decl : FuncDecl → Bool
roles_of_func_decl =
    fold-FuncDecl Bool Bool Bool InList InList Bool Bool Bool InList InList InList InList Bool Bool Bool Bool Bool
    Bool InList Bool Bool InList Bool Bool decl_layer expr_layer stmt_layer element_line_layer field_line_layer
    result_form_layer type_expr_layer func_decl_layer type_spec_layer value_spec_layer element_layer listed_expr_layer
    block_layer case_clause_layer comm_clause_layer for_stmt_layer if_arm_layer range_stmt_layer stmt_line_layer
    switch_stmt_layer type_switch_stmt_layer param_layer params_layer signature_layer

unfoldable pub roles_of_type_spec : TypeSpec → InList
roles_of_type_spec =
    fold-TypeSpec Bool Bool Bool InList InList Bool Bool Bool InList InList InList InList Bool Bool Bool Bool Bool
    Bool InList Bool Bool InList Bool Bool decl_layer expr_layer stmt_layer element_line_layer field_line_layer
    result_form_layer type_expr_layer func_decl_layer type_spec_layer value_spec_layer element_layer listed_expr_layer
    block_layer case_clause_layer comm_clause_layer for_stmt_layer if_arm_layer range_stmt_layer stmt_line_layer
    switch_stmt_layer type_switch_stmt_layer param_layer params_layer signature_layer

unfoldable pub roles_of_value_spec : ValueSpec → InList
roles_of_value_spec =
    fold-ValueSpec Bool Bool Bool InList InList Bool Bool Bool InList InList InList InList Bool Bool Bool Bool Bool
    Bool InList Bool Bool InList Bool Bool decl_layer expr_layer stmt_layer element_line_layer field_line_layer
    result_form_layer type_expr_layer func_decl_layer type_spec_layer value_spec_layer element_layer listed_expr_layer
    block_layer case_clause_layer comm_clause_layer for_stmt_layer if_arm_layer range_stmt_layer stmt_line_layer
    switch_stmt_layer type_switch_stmt_layer param_layer params_layer signature_layer

unfoldable pub roles_of_element : Element → InList
roles_of_element =
    fold-Element Bool Bool Bool InList InList Bool Bool Bool InList InList InList InList Bool Bool Bool Bool Bool Bool
    InList Bool Bool InList Bool Bool decl_layer expr_layer stmt_layer element_line_layer field_line_layer
    result_form_layer type_expr_layer func_decl_layer type_spec_layer value_spec_layer element_layer listed_expr_layer
    block_layer case_clause_layer comm_clause_layer for_stmt_layer if_arm_layer range_stmt_layer stmt_line_layer
    switch_stmt_layer type_switch_stmt_layer param_layer params_layer signature_layer

unfoldable pub roles_of_listed_expr : ListedExpr → InList
roles_of_listed_expr =
    fold-ListedExpr Bool Bool Bool InList InList Bool Bool Bool InList InList InList InList Bool Bool Bool Bool Bool
    Bool InList Bool Bool InList Bool Bool decl_layer expr_layer stmt_layer element_line_layer field_line_layer
    result_form_layer type_expr_layer func_decl_layer type_spec_layer value_spec_layer element_layer listed_expr_layer
    block_layer case_clause_layer comm_clause_layer for_stmt_layer if_arm_layer range_stmt_layer stmt_line_layer
    switch_stmt_layer type_switch_stmt_layer param_layer params_layer signature_layer

unfoldable pub roles_of_block : Block → Bool
roles_of_block =
    fold-Block Bool Bool Bool InList InList Bool Bool Bool InList InList InList InList Bool Bool Bool Bool Bool Bool
    InList Bool Bool InList Bool Bool decl_layer expr_layer stmt_layer element_line_layer field_line_layer
    result_form_layer type_expr_layer func_decl_layer type_spec_layer value_spec_layer element_layer listed_expr_layer
    block_layer case_clause_layer comm_clause_layer for_stmt_layer if_arm_layer range_stmt_layer stmt_line_layer
    switch_stmt_layer type_switch_stmt_layer param_layer params_layer signature_layer

unfoldable pub roles_of_case_clause : CaseClause → Bool
roles_of_case_clause =
    fold-CaseClause Bool Bool Bool InList InList Bool Bool Bool InList InList InList InList Bool Bool Bool Bool Bool
    Bool InList Bool Bool InList Bool Bool decl_layer expr_layer stmt_layer element_line_layer field_line_layer
    result_form_layer type_expr_layer func_decl_layer type_spec_layer value_spec_layer element_layer listed_expr_layer
    block_layer case_clause_layer comm_clause_layer for_stmt_layer if_arm_layer range_stmt_layer stmt_line_layer
    switch_stmt_layer type_switch_stmt_layer param_layer params_layer signature_layer

unfoldable pub roles_of_comm_clause : CommClause → Bool
roles_of_comm_clause =
    fold-CommClause Bool Bool Bool InList InList Bool Bool Bool InList InList InList InList Bool Bool Bool Bool Bool
    Bool InList Bool Bool InList Bool Bool decl_layer expr_layer stmt_layer element_line_layer field_line_layer
    result_form_layer type_expr_layer func_decl_layer type_spec_layer value_spec_layer element_layer listed_expr_layer
    block_layer case_clause_layer comm_clause_layer for_stmt_layer if_arm_layer range_stmt_layer stmt_line_layer
    switch_stmt_layer type_switch_stmt_layer param_layer params_layer signature_layer

unfoldable pub roles_of_for_stmt : ForStmt → Bool
roles_of_for_stmt =
    fold-ForStmt Bool Bool Bool InList InList Bool Bool Bool InList InList InList InList Bool Bool Bool Bool Bool Bool
    InList Bool Bool InList Bool Bool decl_layer expr_layer stmt_layer element_line_layer field_line_layer
    result_form_layer type_expr_layer func_decl_layer type_spec_layer value_spec_layer element_layer listed_expr_layer
    block_layer case_clause_layer comm_clause_layer for_stmt_layer if_arm_layer range_stmt_layer stmt_line_layer
    switch_stmt_layer type_switch_stmt_layer param_layer params_layer signature_layer

unfoldable pub roles_of_if_arm : IfArm → Bool
roles_of_if_arm =
    fold-IfArm Bool Bool Bool InList InList Bool Bool Bool InList InList InList InList Bool Bool Bool Bool Bool Bool
    InList Bool Bool InList Bool Bool decl_layer expr_layer stmt_layer element_line_layer field_line_layer
    result_form_layer type_expr_layer func_decl_layer type_spec_layer value_spec_layer element_layer listed_expr_layer
    block_layer case_clause_layer comm_clause_layer for_stmt_layer if_arm_layer range_stmt_layer stmt_line_layer
    switch_stmt_layer type_switch_stmt_layer param_layer params_layer signature_layer

unfoldable pub roles_of_range_stmt : RangeStmt → Bool
roles_of_range_stmt =
    fold-RangeStmt Bool Bool Bool InList InList Bool Bool Bool InList InList InList InList Bool Bool Bool Bool Bool
    Bool InList Bool Bool InList Bool Bool decl_layer expr_layer stmt_layer element_line_layer field_line_layer
    result_form_layer type_expr_layer func_decl_layer type_spec_layer value_spec_layer element_layer listed_expr_layer
    block_layer case_clause_layer comm_clause_layer for_stmt_layer if_arm_layer range_stmt_layer stmt_line_layer
    switch_stmt_layer type_switch_stmt_layer param_layer params_layer signature_layer

unfoldable pub roles_of_stmt_line : StmtLine → InList
roles_of_stmt_line =
    fold-StmtLine Bool Bool Bool InList InList Bool Bool Bool InList InList InList InList Bool Bool Bool Bool Bool
    Bool InList Bool Bool InList Bool Bool decl_layer expr_layer stmt_layer element_line_layer field_line_layer
    result_form_layer type_expr_layer func_decl_layer type_spec_layer value_spec_layer element_layer listed_expr_layer
    block_layer case_clause_layer comm_clause_layer for_stmt_layer if_arm_layer range_stmt_layer stmt_line_layer
    switch_stmt_layer type_switch_stmt_layer param_layer params_layer signature_layer

unfoldable pub roles_of_switch_stmt : SwitchStmt → Bool
roles_of_switch_stmt =
    fold-SwitchStmt Bool Bool Bool InList InList Bool Bool Bool InList InList InList InList Bool Bool Bool Bool Bool
    Bool InList Bool Bool InList Bool Bool decl_layer expr_layer stmt_layer element_line_layer field_line_layer
    result_form_layer type_expr_layer func_decl_layer type_spec_layer value_spec_layer element_layer listed_expr_layer
    block_layer case_clause_layer comm_clause_layer for_stmt_layer if_arm_layer range_stmt_layer stmt_line_layer
    switch_stmt_layer type_switch_stmt_layer param_layer params_layer signature_layer

unfoldable pub roles_of_type_switch_stmt : TypeSwitchStmt → Bool
roles_of_type_switch_stmt =
    fold-TypeSwitchStmt Bool Bool Bool InList InList Bool Bool Bool InList InList InList InList Bool Bool Bool Bool
    Bool Bool InList Bool Bool InList Bool Bool decl_layer expr_layer stmt_layer element_line_layer field_line_layer
    result_form_layer type_expr_layer func_decl_layer type_spec_layer value_spec_layer element_layer listed_expr_layer
    block_layer case_clause_layer comm_clause_layer for_stmt_layer if_arm_layer range_stmt_layer stmt_line_layer
    switch_stmt_layer type_switch_stmt_layer param_layer params_layer signature_layer

unfoldable pub roles_of_param : Param → InList
roles_of_param =
    fold-Param Bool Bool Bool InList InList Bool Bool Bool InList InList InList InList Bool Bool Bool Bool Bool Bool
    InList Bool Bool InList Bool Bool decl_layer expr_layer stmt_layer element_line_layer field_line_layer
    result_form_layer type_expr_layer func_decl_layer type_spec_layer value_spec_layer element_layer listed_expr_layer
    block_layer case_clause_layer comm_clause_layer for_stmt_layer if_arm_layer range_stmt_layer stmt_line_layer
    switch_stmt_layer type_switch_stmt_layer param_layer params_layer signature_layer

unfoldable pub roles_of_params : Params → Bool
roles_of_params =
    fold-Params Bool Bool Bool InList InList Bool Bool Bool InList InList InList InList Bool Bool Bool Bool Bool Bool
    InList Bool Bool InList Bool Bool decl_layer expr_layer stmt_layer element_line_layer field_line_layer
    result_form_layer type_expr_layer func_decl_layer type_spec_layer value_spec_layer element_layer listed_expr_layer
    block_layer case_clause_layer comm_clause_layer for_stmt_layer if_arm_layer range_stmt_layer stmt_line_layer
    switch_stmt_layer type_switch_stmt_layer param_layer params_layer signature_layer

unfoldable pub roles_of_signature : Signature → Bool
roles_of_signature =
    fold-Signature Bool Bool Bool InList InList Bool Bool Bool InList InList InList InList Bool Bool Bool Bool Bool
    Bool InList Bool Bool InList Bool Bool decl_layer expr_layer stmt_layer element_line_layer field_line_layer
    result_form_layer type_expr_layer func_decl_layer type_spec_layer value_spec_layer element_layer listed_expr_layer
    block_layer case_clause_layer comm_clause_layer for_stmt_layer if_arm_layer range_stmt_layer stmt_line_layer
    switch_stmt_layer type_switch_stmt_layer param_layer params_layer signature_layer

-- ---- files

-- Go specification, "Import declarations"
abbrev pub roles_of_import_spec : ImportSpec → InList
roles_of_import_spec x more =
    is_if kinds.Name x.name && is_kind kinds.Text x.path && ends is_semicolon x.semicolon more

abbrev pub roles_of_import : ImportDecl → Bool
roles_of_import x =
    group kinds.ImportWord x.word x.«open» (in_turn (map roles_of_import_spec x.specs.items)) x.close
    && is_semicolon x.semicolon.kind

abbrev pub roles_of_line : DeclLine → Bool
roles_of_line x = roles_of_decl x.decl && is_semicolon x.semicolon.kind

-- Go specification, "Source file organization"
abbrev pub roles_of_file : FileTree → Bool
roles_of_file x =
    is_kind kinds.PackageWord x.word && is_kind kinds.Name x.name && is_semicolon x.semicolon.kind
    && every (map roles_of_import x.imports.items) && every (map roles_of_line x.decls.items)
