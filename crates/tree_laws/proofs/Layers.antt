-- What is claimed of each tree, and its view, its fields and its roles by its parts.
use Rattle.std.proofs.Common.{◌≡◌}
use Rattle.std.specs.Prelude.{Bool, true}
use Rattle.go_syntax.specs.declared.decls.Decl.{Decl}
use Rattle.go_syntax.specs.declared.exprs.Expr.{Expr}
use Rattle.go_syntax.specs.declared.stmts.Stmt.{Stmt}
use Rattle.go_syntax.specs.declared.type_exprs.ElementLine.{ElementLine}
use Rattle.go_syntax.specs.declared.type_exprs.FieldLine.{FieldLine}
use Rattle.go_syntax.specs.declared.type_exprs.ResultForm.{ResultForm}
use Rattle.go_syntax.specs.declared.type_exprs.TypeExpr.{TypeExpr}
use Rattle.go_syntax.specs.declared.decls.FuncDecl.{FuncDecl}
use Rattle.go_syntax.specs.declared.decls.TypeSpec.{TypeSpec}
use Rattle.go_syntax.specs.declared.decls.ValueSpec.{ValueSpec}
use Rattle.go_syntax.specs.declared.exprs.Element.{Element}
use Rattle.go_syntax.specs.declared.exprs.ListedExpr.{ListedExpr}
use Rattle.go_syntax.specs.declared.stmts.Block.{Block}
use Rattle.go_syntax.specs.declared.stmts.CaseClause.{CaseClause}
use Rattle.go_syntax.specs.declared.stmts.CommClause.{CommClause}
use Rattle.go_syntax.specs.declared.stmts.ForStmt.{ForStmt}
use Rattle.go_syntax.specs.declared.stmts.IfArm.{IfArm}
use Rattle.go_syntax.specs.declared.stmts.RangeStmt.{RangeStmt}
use Rattle.go_syntax.specs.declared.stmts.StmtLine.{StmtLine}
use Rattle.go_syntax.specs.declared.stmts.SwitchStmt.{SwitchStmt}
use Rattle.go_syntax.specs.declared.stmts.TypeSwitchStmt.{TypeSwitchStmt}
use Rattle.go_syntax.specs.declared.type_exprs.Param.{Param}
use Rattle.go_syntax.specs.declared.type_exprs.Params.{Params}
use Rattle.go_syntax.specs.declared.type_exprs.Signature.{Signature}
use Rattle.go_syntax.specs.declared.decls.Decl.TheOpen.{Decl-F, Expr-F, Stmt-F, ElementLine-F, FieldLine-F}
use Rattle.go_syntax.specs.declared.decls.Decl.TheOpen.{ResultForm-F, TypeExpr-F, FuncDecl-F, TypeSpec-F, ValueSpec-F}
use Rattle.go_syntax.specs.declared.decls.Decl.TheOpen.{Element-F, ListedExpr-F, Block-F, CaseClause-F, CommClause-F}
use Rattle.go_syntax.specs.declared.decls.Decl.TheOpen.{ForStmt-F, IfArm-F, RangeStmt-F, StmtLine-F, SwitchStmt-F}
use Rattle.go_syntax.specs.declared.decls.Decl.TheOpen.{TypeSwitchStmt-F, Param-F, Params-F, Signature-F}
use Rattle.go_syntax.specs.declared.decls.Decl.TheViews.{roll-Decl, roll-Expr, roll-Stmt, roll-ElementLine}
use Rattle.go_syntax.specs.declared.decls.Decl.TheViews.{roll-FieldLine, roll-ResultForm, roll-TypeExpr}
use Rattle.go_syntax.specs.declared.decls.Decl.TheViews.{roll-FuncDecl, roll-TypeSpec, roll-ValueSpec, roll-Element}
use Rattle.go_syntax.specs.declared.decls.Decl.TheViews.{roll-ListedExpr, roll-Block, roll-CaseClause}
use Rattle.go_syntax.specs.declared.decls.Decl.TheViews.{roll-CommClause, roll-ForStmt, roll-IfArm, roll-RangeStmt}
use Rattle.go_syntax.specs.declared.decls.Decl.TheViews.{roll-StmtLine, roll-SwitchStmt, roll-TypeSwitchStmt}
use Rattle.go_syntax.specs.declared.decls.Decl.TheViews.{roll-Param, roll-Params, roll-Signature}
use Rattle.go_syntax.specs.declared.decls.Decl.TheFolds.{map-Decl, map-Expr, map-Stmt, map-ElementLine, map-FieldLine}
use Rattle.go_syntax.specs.declared.decls.Decl.TheFolds.{map-ResultForm, map-TypeExpr, map-FuncDecl, map-TypeSpec}
use Rattle.go_syntax.specs.declared.decls.Decl.TheFolds.{map-ValueSpec, map-Element, map-ListedExpr, map-Block}
use Rattle.go_syntax.specs.declared.decls.Decl.TheFolds.{map-CaseClause, map-CommClause, map-ForStmt, map-IfArm}
use Rattle.go_syntax.specs.declared.decls.Decl.TheFolds.{map-RangeStmt, map-StmtLine, map-SwitchStmt}
use Rattle.go_syntax.specs.declared.decls.Decl.TheFolds.{map-TypeSwitchStmt, map-Param, map-Params, map-Signature}
use Rattle.go_grammar.specs.Forests.{Form, Forest}
use Rattle.go_grammar.specs.Grammar.{is_semicolon}
use Rattle.go_grammar.specs.View as view
use Rattle.tree_roles.specs.Tokens.{is_comma}
use Rattle.tree_roles.specs.Tokens.{InList}
use Rattle.tree_roles.specs.Parts as parts
use Rattle.tree_roles.specs.Roles.{roles_of_decl, roles_of_expr, roles_of_stmt, roles_of_element_line}
use Rattle.tree_roles.specs.Roles.{roles_of_field_line, roles_of_result_form, roles_of_type_expr, roles_of_func_decl}
use Rattle.tree_roles.specs.Roles.{roles_of_type_spec, roles_of_value_spec, roles_of_element, roles_of_listed_expr}
use Rattle.tree_roles.specs.Roles.{roles_of_block, roles_of_case_clause, roles_of_comm_clause, roles_of_for_stmt}
use Rattle.tree_roles.specs.Roles.{roles_of_if_arm, roles_of_range_stmt, roles_of_stmt_line, roles_of_switch_stmt}
use Rattle.tree_roles.specs.Roles.{roles_of_type_switch_stmt, roles_of_param, roles_of_params, roles_of_signature}
use Rattle.tree_laws.specs.Fields as fields
use Rattle.tree_laws.specs.Fields.{Field, Marked}
use Rattle.go_syntax.specs.declared.decls.Decl.TheFolds.{fold-roll-Decl, fold-roll-Expr, fold-roll-Stmt}
use Rattle.go_syntax.specs.declared.decls.Decl.TheFolds.{fold-roll-ElementLine, fold-roll-FieldLine}
use Rattle.go_syntax.specs.declared.decls.Decl.TheFolds.{fold-roll-ResultForm, fold-roll-TypeExpr, fold-roll-FuncDecl}
use Rattle.go_syntax.specs.declared.decls.Decl.TheFolds.{fold-roll-TypeSpec, fold-roll-ValueSpec, fold-roll-Element}
use Rattle.go_syntax.specs.declared.decls.Decl.TheFolds.{fold-roll-ListedExpr, fold-roll-Block, fold-roll-CaseClause}
use Rattle.go_syntax.specs.declared.decls.Decl.TheFolds.{fold-roll-CommClause, fold-roll-ForStmt, fold-roll-IfArm}
use Rattle.go_syntax.specs.declared.decls.Decl.TheFolds.{fold-roll-RangeStmt, fold-roll-StmtLine}
use Rattle.go_syntax.specs.declared.decls.Decl.TheFolds.{fold-roll-SwitchStmt, fold-roll-TypeSwitchStmt}
use Rattle.go_syntax.specs.declared.decls.Decl.TheFolds.{fold-roll-Param, fold-roll-Params, fold-roll-Signature}
use Rattle.tree_laws.proofs.Told.{Plain}
use Rattle.tree_laws.proofs.Pieces.{Part, IsTree, Ended, Listed, Line}

abbrev pub FineDecl : Decl → Type 0
FineDecl x = roles_of_decl x ≡ true → IsTree (view.view_decl x) (fields.fields_of_decl x)

abbrev pub FineExpr : Expr → Type 0
FineExpr x = roles_of_expr x ≡ true → IsTree (view.view_expr x) (fields.fields_of_expr x)

abbrev pub FineStmt : Stmt → Type 0
FineStmt x = roles_of_stmt x ≡ true → IsTree (view.view_stmt x) (fields.fields_of_stmt x)

abbrev pub FineElementLine : ElementLine → Type 0
FineElementLine x = (more : Bool) → roles_of_element_line x more ≡ true → Line more (view.view_element_line x) (fields.fields_of_element_line x)

abbrev pub FineFieldLine : FieldLine → Type 0
FineFieldLine x = (more : Bool) → roles_of_field_line x more ≡ true → Line more (view.view_field_line x) (fields.fields_of_field_line x)

abbrev pub FineResultForm : ResultForm → Type 0
FineResultForm x = roles_of_result_form x ≡ true → (form : Form) → Plain form → Part form (view.view_result_form x) (fields.fields_of_result_form x)

abbrev pub FineTypeExpr : TypeExpr → Type 0
FineTypeExpr x = roles_of_type_expr x ≡ true → IsTree (view.view_type_expr x) (fields.fields_of_type_expr x)

abbrev pub FineFuncDecl : FuncDecl → Type 0
FineFuncDecl x = roles_of_func_decl x ≡ true → IsTree (view.view_func_decl x) (fields.fields_of_func_decl x)

abbrev pub FineTypeSpec : TypeSpec → Type 0
FineTypeSpec x = (more : Bool) → roles_of_type_spec x more ≡ true → Ended is_semicolon fields.Semicolon (view.view_type_spec x) (fields.fields_of_type_spec x)

abbrev pub FineValueSpec : ValueSpec → Type 0
FineValueSpec x = (more : Bool) → roles_of_value_spec x more ≡ true → Ended is_semicolon fields.Semicolon (view.view_value_spec x) (fields.fields_of_value_spec x)

abbrev pub FineElement : Element → Type 0
FineElement x = (more : Bool) → roles_of_element x more ≡ true → Ended is_comma fields.Comma (view.view_element x) (fields.fields_of_element x)

abbrev pub FineListedExpr : ListedExpr → Type 0
FineListedExpr x = (more : Bool) → roles_of_listed_expr x more ≡ true → Listed more (view.view_listed_expr x) (fields.fields_of_listed_expr x)

abbrev pub FineBlock : Block → Type 0
FineBlock x = roles_of_block x ≡ true → IsTree (view.view_block x) (fields.fields_of_block x)

abbrev pub FineCaseClause : CaseClause → Type 0
FineCaseClause x = roles_of_case_clause x ≡ true → IsTree (view.view_case_clause x) (fields.fields_of_case_clause x)

abbrev pub FineCommClause : CommClause → Type 0
FineCommClause x = roles_of_comm_clause x ≡ true → IsTree (view.view_comm_clause x) (fields.fields_of_comm_clause x)

abbrev pub FineForStmt : ForStmt → Type 0
FineForStmt x = roles_of_for_stmt x ≡ true → IsTree (view.view_for_stmt x) (fields.fields_of_for_stmt x)

abbrev pub FineIfArm : IfArm → Type 0
FineIfArm x = roles_of_if_arm x ≡ true → IsTree (view.view_if_arm x) (fields.fields_of_if_arm x)

abbrev pub FineRangeStmt : RangeStmt → Type 0
FineRangeStmt x = roles_of_range_stmt x ≡ true → IsTree (view.view_range_stmt x) (fields.fields_of_range_stmt x)

abbrev pub FineStmtLine : StmtLine → Type 0
FineStmtLine x = (more : Bool) → roles_of_stmt_line x more ≡ true → IsTree (view.view_stmt_line x) (fields.fields_of_stmt_line x)

abbrev pub FineSwitchStmt : SwitchStmt → Type 0
FineSwitchStmt x = roles_of_switch_stmt x ≡ true → IsTree (view.view_switch_stmt x) (fields.fields_of_switch_stmt x)

abbrev pub FineTypeSwitchStmt : TypeSwitchStmt → Type 0
FineTypeSwitchStmt x = roles_of_type_switch_stmt x ≡ true → IsTree (view.view_type_switch_stmt x) (fields.fields_of_type_switch_stmt x)

abbrev pub FineParam : Param → Type 0
FineParam x = (more : Bool) → roles_of_param x more ≡ true → Ended is_comma fields.Comma (view.view_param x) (fields.fields_of_param x)

abbrev pub FineParams : Params → Type 0
FineParams x = roles_of_params x ≡ true → IsTree (view.view_params x) (fields.fields_of_params x)

abbrev pub FineSignature : Signature → Type 0
FineSignature x = roles_of_signature x ≡ true → IsTree (view.view_signature x) (fields.fields_of_signature x)

abbrev pub DeclP : Type 0
DeclP = (x : Decl) × FineDecl x

abbrev pub ExprP : Type 0
ExprP = (x : Expr) × FineExpr x

abbrev pub StmtP : Type 0
StmtP = (x : Stmt) × FineStmt x

abbrev pub ElementLineP : Type 0
ElementLineP = (x : ElementLine) × FineElementLine x

abbrev pub FieldLineP : Type 0
FieldLineP = (x : FieldLine) × FineFieldLine x

abbrev pub ResultFormP : Type 0
ResultFormP = (x : ResultForm) × FineResultForm x

abbrev pub TypeExprP : Type 0
TypeExprP = (x : TypeExpr) × FineTypeExpr x

abbrev pub FuncDeclP : Type 0
FuncDeclP = (x : FuncDecl) × FineFuncDecl x

abbrev pub TypeSpecP : Type 0
TypeSpecP = (x : TypeSpec) × FineTypeSpec x

abbrev pub ValueSpecP : Type 0
ValueSpecP = (x : ValueSpec) × FineValueSpec x

abbrev pub ElementP : Type 0
ElementP = (x : Element) × FineElement x

abbrev pub ListedExprP : Type 0
ListedExprP = (x : ListedExpr) × FineListedExpr x

abbrev pub BlockP : Type 0
BlockP = (x : Block) × FineBlock x

abbrev pub CaseClauseP : Type 0
CaseClauseP = (x : CaseClause) × FineCaseClause x

abbrev pub CommClauseP : Type 0
CommClauseP = (x : CommClause) × FineCommClause x

abbrev pub ForStmtP : Type 0
ForStmtP = (x : ForStmt) × FineForStmt x

abbrev pub IfArmP : Type 0
IfArmP = (x : IfArm) × FineIfArm x

abbrev pub RangeStmtP : Type 0
RangeStmtP = (x : RangeStmt) × FineRangeStmt x

abbrev pub StmtLineP : Type 0
StmtLineP = (x : StmtLine) × FineStmtLine x

abbrev pub SwitchStmtP : Type 0
SwitchStmtP = (x : SwitchStmt) × FineSwitchStmt x

abbrev pub TypeSwitchStmtP : Type 0
TypeSwitchStmtP = (x : TypeSwitchStmt) × FineTypeSwitchStmt x

abbrev pub ParamP : Type 0
ParamP = (x : Param) × FineParam x

abbrev pub ParamsP : Type 0
ParamsP = (x : Params) × FineParams x

abbrev pub SignatureP : Type 0
SignatureP = (x : Signature) × FineSignature x

abbrev pub view_at_decl : Decl-F Decl Expr Stmt ElementLine FieldLine ResultForm TypeExpr FuncDecl TypeSpec ValueSpec Element ListedExpr Block CaseClause CommClause ForStmt IfArm RangeStmt StmtLine SwitchStmt TypeSwitchStmt Param Params Signature → Forest
view_at_decl x = view.decl_layer (map-Decl Decl Expr Stmt ElementLine FieldLine ResultForm TypeExpr FuncDecl TypeSpec ValueSpec Element ListedExpr Block CaseClause CommClause ForStmt IfArm RangeStmt StmtLine SwitchStmt TypeSwitchStmt Param Params Signature Forest Forest Forest Forest Forest Forest Forest Forest Forest Forest Forest Forest Forest Forest Forest Forest Forest Forest Forest Forest Forest Forest Forest Forest view.view_decl view.view_expr view.view_stmt view.view_element_line view.view_field_line view.view_result_form view.view_type_expr view.view_func_decl view.view_type_spec view.view_value_spec view.view_element view.view_listed_expr view.view_block view.view_case_clause view.view_comm_clause view.view_for_stmt view.view_if_arm view.view_range_stmt view.view_stmt_line view.view_switch_stmt view.view_type_switch_stmt view.view_param view.view_params view.view_signature x)

abbrev pub fields_at_decl : Decl-F Decl Expr Stmt ElementLine FieldLine ResultForm TypeExpr FuncDecl TypeSpec ValueSpec Element ListedExpr Block CaseClause CommClause ForStmt IfArm RangeStmt StmtLine SwitchStmt TypeSwitchStmt Param Params Signature → Marked
fields_at_decl x = fields.decl_layer (map-Decl Decl Expr Stmt ElementLine FieldLine ResultForm TypeExpr FuncDecl TypeSpec ValueSpec Element ListedExpr Block CaseClause CommClause ForStmt IfArm RangeStmt StmtLine SwitchStmt TypeSwitchStmt Param Params Signature Marked Marked Marked Marked Marked Marked Marked Marked Marked Marked Marked Marked Marked Marked Marked Marked Marked Marked Marked Marked Marked Marked Marked Marked fields.fields_of_decl fields.fields_of_expr fields.fields_of_stmt fields.fields_of_element_line fields.fields_of_field_line fields.fields_of_result_form fields.fields_of_type_expr fields.fields_of_func_decl fields.fields_of_type_spec fields.fields_of_value_spec fields.fields_of_element fields.fields_of_listed_expr fields.fields_of_block fields.fields_of_case_clause fields.fields_of_comm_clause fields.fields_of_for_stmt fields.fields_of_if_arm fields.fields_of_range_stmt fields.fields_of_stmt_line fields.fields_of_switch_stmt fields.fields_of_type_switch_stmt fields.fields_of_param fields.fields_of_params fields.fields_of_signature x)

abbrev pub roles_at_decl : Decl-F Decl Expr Stmt ElementLine FieldLine ResultForm TypeExpr FuncDecl TypeSpec ValueSpec Element ListedExpr Block CaseClause CommClause ForStmt IfArm RangeStmt StmtLine SwitchStmt TypeSwitchStmt Param Params Signature → Bool
roles_at_decl x = parts.decl_layer (map-Decl Decl Expr Stmt ElementLine FieldLine ResultForm TypeExpr FuncDecl TypeSpec ValueSpec Element ListedExpr Block CaseClause CommClause ForStmt IfArm RangeStmt StmtLine SwitchStmt TypeSwitchStmt Param Params Signature Bool Bool Bool InList InList Bool Bool Bool InList InList InList InList Bool Bool Bool Bool Bool Bool InList Bool Bool InList Bool Bool roles_of_decl roles_of_expr roles_of_stmt roles_of_element_line roles_of_field_line roles_of_result_form roles_of_type_expr roles_of_func_decl roles_of_type_spec roles_of_value_spec roles_of_element roles_of_listed_expr roles_of_block roles_of_case_clause roles_of_comm_clause roles_of_for_stmt roles_of_if_arm roles_of_range_stmt roles_of_stmt_line roles_of_switch_stmt roles_of_type_switch_stmt roles_of_param roles_of_params roles_of_signature x)

abbrev pub bare_decl : Decl-F DeclP ExprP StmtP ElementLineP FieldLineP ResultFormP TypeExprP FuncDeclP TypeSpecP ValueSpecP ElementP ListedExprP BlockP CaseClauseP CommClauseP ForStmtP IfArmP RangeStmtP StmtLineP SwitchStmtP TypeSwitchStmtP ParamP ParamsP SignatureP → Decl-F Decl Expr Stmt ElementLine FieldLine ResultForm TypeExpr FuncDecl TypeSpec ValueSpec Element ListedExpr Block CaseClause CommClause ForStmt IfArm RangeStmt StmtLine SwitchStmt TypeSwitchStmt Param Params Signature
bare_decl y = map-Decl DeclP ExprP StmtP ElementLineP FieldLineP ResultFormP TypeExprP FuncDeclP TypeSpecP ValueSpecP ElementP ListedExprP BlockP CaseClauseP CommClauseP ForStmtP IfArmP RangeStmtP StmtLineP SwitchStmtP TypeSwitchStmtP ParamP ParamsP SignatureP Decl Expr Stmt ElementLine FieldLine ResultForm TypeExpr FuncDecl TypeSpec ValueSpec Element ListedExpr Block CaseClause CommClause ForStmt IfArm RangeStmt StmtLine SwitchStmt TypeSwitchStmt Param Params Signature (λ e. e.0) (λ e. e.0) (λ e. e.0) (λ e. e.0) (λ e. e.0) (λ e. e.0) (λ e. e.0) (λ e. e.0) (λ e. e.0) (λ e. e.0) (λ e. e.0) (λ e. e.0) (λ e. e.0) (λ e. e.0) (λ e. e.0) (λ e. e.0) (λ e. e.0) (λ e. e.0) (λ e. e.0) (λ e. e.0) (λ e. e.0) (λ e. e.0) (λ e. e.0) (λ e. e.0) y

pub put_view_decl : (x : Decl-F Decl Expr Stmt ElementLine FieldLine ResultForm TypeExpr FuncDecl TypeSpec ValueSpec Element ListedExpr Block CaseClause CommClause ForStmt IfArm RangeStmt StmtLine SwitchStmt TypeSwitchStmt Param Params Signature) → view.view_decl (roll-Decl x) ≡ view_at_decl x
unfolding view.view_decl view.view_expr view.view_stmt view.view_element_line view.view_field_line view.view_result_form view.view_type_expr view.view_func_decl view.view_type_spec view.view_value_spec view.view_element view.view_listed_expr view.view_block view.view_case_clause view.view_comm_clause view.view_for_stmt view.view_if_arm view.view_range_stmt view.view_stmt_line view.view_switch_stmt view.view_type_switch_stmt view.view_param view.view_params view.view_signature
put_view_decl x = fold-roll-Decl Forest Forest Forest Forest Forest Forest Forest Forest Forest Forest Forest Forest Forest Forest Forest Forest Forest Forest Forest Forest Forest Forest Forest Forest view.decl_layer view.expr_layer view.stmt_layer view.element_line_layer view.field_line_layer view.result_form_layer view.type_expr_layer view.func_decl_layer view.type_spec_layer view.value_spec_layer view.element_layer view.listed_expr_layer view.block_layer view.case_clause_layer view.comm_clause_layer view.for_stmt_layer view.if_arm_layer view.range_stmt_layer view.stmt_line_layer view.switch_stmt_layer view.type_switch_stmt_layer view.param_layer view.params_layer view.signature_layer x

pub put_fields_decl : (x : Decl-F Decl Expr Stmt ElementLine FieldLine ResultForm TypeExpr FuncDecl TypeSpec ValueSpec Element ListedExpr Block CaseClause CommClause ForStmt IfArm RangeStmt StmtLine SwitchStmt TypeSwitchStmt Param Params Signature) → fields.fields_of_decl (roll-Decl x) ≡ fields_at_decl x
unfolding fields.fields_of_decl fields.fields_of_expr fields.fields_of_stmt fields.fields_of_element_line fields.fields_of_field_line fields.fields_of_result_form fields.fields_of_type_expr fields.fields_of_func_decl fields.fields_of_type_spec fields.fields_of_value_spec fields.fields_of_element fields.fields_of_listed_expr fields.fields_of_block fields.fields_of_case_clause fields.fields_of_comm_clause fields.fields_of_for_stmt fields.fields_of_if_arm fields.fields_of_range_stmt fields.fields_of_stmt_line fields.fields_of_switch_stmt fields.fields_of_type_switch_stmt fields.fields_of_param fields.fields_of_params fields.fields_of_signature
put_fields_decl x = fold-roll-Decl Marked Marked Marked Marked Marked Marked Marked Marked Marked Marked Marked Marked Marked Marked Marked Marked Marked Marked Marked Marked Marked Marked Marked Marked fields.decl_layer fields.expr_layer fields.stmt_layer fields.element_line_layer fields.field_line_layer fields.result_form_layer fields.type_expr_layer fields.func_decl_layer fields.type_spec_layer fields.value_spec_layer fields.element_layer fields.listed_expr_layer fields.block_layer fields.case_clause_layer fields.comm_clause_layer fields.for_stmt_layer fields.if_arm_layer fields.range_stmt_layer fields.stmt_line_layer fields.switch_stmt_layer fields.type_switch_stmt_layer fields.param_layer fields.params_layer fields.signature_layer x

pub put_roles_decl : (x : Decl-F Decl Expr Stmt ElementLine FieldLine ResultForm TypeExpr FuncDecl TypeSpec ValueSpec Element ListedExpr Block CaseClause CommClause ForStmt IfArm RangeStmt StmtLine SwitchStmt TypeSwitchStmt Param Params Signature) → roles_of_decl (roll-Decl x) ≡ roles_at_decl x
unfolding roles_of_decl roles_of_expr roles_of_stmt roles_of_element_line roles_of_field_line roles_of_result_form roles_of_type_expr roles_of_func_decl roles_of_type_spec roles_of_value_spec roles_of_element roles_of_listed_expr roles_of_block roles_of_case_clause roles_of_comm_clause roles_of_for_stmt roles_of_if_arm roles_of_range_stmt roles_of_stmt_line roles_of_switch_stmt roles_of_type_switch_stmt roles_of_param roles_of_params roles_of_signature
put_roles_decl x = fold-roll-Decl Bool Bool Bool InList InList Bool Bool Bool InList InList InList InList Bool Bool Bool Bool Bool Bool InList Bool Bool InList Bool Bool parts.decl_layer parts.expr_layer parts.stmt_layer parts.element_line_layer parts.field_line_layer parts.result_form_layer parts.type_expr_layer parts.func_decl_layer parts.type_spec_layer parts.value_spec_layer parts.element_layer parts.listed_expr_layer parts.block_layer parts.case_clause_layer parts.comm_clause_layer parts.for_stmt_layer parts.if_arm_layer parts.range_stmt_layer parts.stmt_line_layer parts.switch_stmt_layer parts.type_switch_stmt_layer parts.param_layer parts.params_layer parts.signature_layer x

abbrev pub view_at_expr : Expr-F Decl Expr Stmt ElementLine FieldLine ResultForm TypeExpr FuncDecl TypeSpec ValueSpec Element ListedExpr Block CaseClause CommClause ForStmt IfArm RangeStmt StmtLine SwitchStmt TypeSwitchStmt Param Params Signature → Forest
view_at_expr x = view.expr_layer (map-Expr Decl Expr Stmt ElementLine FieldLine ResultForm TypeExpr FuncDecl TypeSpec ValueSpec Element ListedExpr Block CaseClause CommClause ForStmt IfArm RangeStmt StmtLine SwitchStmt TypeSwitchStmt Param Params Signature Forest Forest Forest Forest Forest Forest Forest Forest Forest Forest Forest Forest Forest Forest Forest Forest Forest Forest Forest Forest Forest Forest Forest Forest view.view_decl view.view_expr view.view_stmt view.view_element_line view.view_field_line view.view_result_form view.view_type_expr view.view_func_decl view.view_type_spec view.view_value_spec view.view_element view.view_listed_expr view.view_block view.view_case_clause view.view_comm_clause view.view_for_stmt view.view_if_arm view.view_range_stmt view.view_stmt_line view.view_switch_stmt view.view_type_switch_stmt view.view_param view.view_params view.view_signature x)

abbrev pub fields_at_expr : Expr-F Decl Expr Stmt ElementLine FieldLine ResultForm TypeExpr FuncDecl TypeSpec ValueSpec Element ListedExpr Block CaseClause CommClause ForStmt IfArm RangeStmt StmtLine SwitchStmt TypeSwitchStmt Param Params Signature → Marked
fields_at_expr x = fields.expr_layer (map-Expr Decl Expr Stmt ElementLine FieldLine ResultForm TypeExpr FuncDecl TypeSpec ValueSpec Element ListedExpr Block CaseClause CommClause ForStmt IfArm RangeStmt StmtLine SwitchStmt TypeSwitchStmt Param Params Signature Marked Marked Marked Marked Marked Marked Marked Marked Marked Marked Marked Marked Marked Marked Marked Marked Marked Marked Marked Marked Marked Marked Marked Marked fields.fields_of_decl fields.fields_of_expr fields.fields_of_stmt fields.fields_of_element_line fields.fields_of_field_line fields.fields_of_result_form fields.fields_of_type_expr fields.fields_of_func_decl fields.fields_of_type_spec fields.fields_of_value_spec fields.fields_of_element fields.fields_of_listed_expr fields.fields_of_block fields.fields_of_case_clause fields.fields_of_comm_clause fields.fields_of_for_stmt fields.fields_of_if_arm fields.fields_of_range_stmt fields.fields_of_stmt_line fields.fields_of_switch_stmt fields.fields_of_type_switch_stmt fields.fields_of_param fields.fields_of_params fields.fields_of_signature x)

abbrev pub roles_at_expr : Expr-F Decl Expr Stmt ElementLine FieldLine ResultForm TypeExpr FuncDecl TypeSpec ValueSpec Element ListedExpr Block CaseClause CommClause ForStmt IfArm RangeStmt StmtLine SwitchStmt TypeSwitchStmt Param Params Signature → Bool
roles_at_expr x = parts.expr_layer (map-Expr Decl Expr Stmt ElementLine FieldLine ResultForm TypeExpr FuncDecl TypeSpec ValueSpec Element ListedExpr Block CaseClause CommClause ForStmt IfArm RangeStmt StmtLine SwitchStmt TypeSwitchStmt Param Params Signature Bool Bool Bool InList InList Bool Bool Bool InList InList InList InList Bool Bool Bool Bool Bool Bool InList Bool Bool InList Bool Bool roles_of_decl roles_of_expr roles_of_stmt roles_of_element_line roles_of_field_line roles_of_result_form roles_of_type_expr roles_of_func_decl roles_of_type_spec roles_of_value_spec roles_of_element roles_of_listed_expr roles_of_block roles_of_case_clause roles_of_comm_clause roles_of_for_stmt roles_of_if_arm roles_of_range_stmt roles_of_stmt_line roles_of_switch_stmt roles_of_type_switch_stmt roles_of_param roles_of_params roles_of_signature x)

abbrev pub bare_expr : Expr-F DeclP ExprP StmtP ElementLineP FieldLineP ResultFormP TypeExprP FuncDeclP TypeSpecP ValueSpecP ElementP ListedExprP BlockP CaseClauseP CommClauseP ForStmtP IfArmP RangeStmtP StmtLineP SwitchStmtP TypeSwitchStmtP ParamP ParamsP SignatureP → Expr-F Decl Expr Stmt ElementLine FieldLine ResultForm TypeExpr FuncDecl TypeSpec ValueSpec Element ListedExpr Block CaseClause CommClause ForStmt IfArm RangeStmt StmtLine SwitchStmt TypeSwitchStmt Param Params Signature
bare_expr y = map-Expr DeclP ExprP StmtP ElementLineP FieldLineP ResultFormP TypeExprP FuncDeclP TypeSpecP ValueSpecP ElementP ListedExprP BlockP CaseClauseP CommClauseP ForStmtP IfArmP RangeStmtP StmtLineP SwitchStmtP TypeSwitchStmtP ParamP ParamsP SignatureP Decl Expr Stmt ElementLine FieldLine ResultForm TypeExpr FuncDecl TypeSpec ValueSpec Element ListedExpr Block CaseClause CommClause ForStmt IfArm RangeStmt StmtLine SwitchStmt TypeSwitchStmt Param Params Signature (λ e. e.0) (λ e. e.0) (λ e. e.0) (λ e. e.0) (λ e. e.0) (λ e. e.0) (λ e. e.0) (λ e. e.0) (λ e. e.0) (λ e. e.0) (λ e. e.0) (λ e. e.0) (λ e. e.0) (λ e. e.0) (λ e. e.0) (λ e. e.0) (λ e. e.0) (λ e. e.0) (λ e. e.0) (λ e. e.0) (λ e. e.0) (λ e. e.0) (λ e. e.0) (λ e. e.0) y

pub put_view_expr : (x : Expr-F Decl Expr Stmt ElementLine FieldLine ResultForm TypeExpr FuncDecl TypeSpec ValueSpec Element ListedExpr Block CaseClause CommClause ForStmt IfArm RangeStmt StmtLine SwitchStmt TypeSwitchStmt Param Params Signature) → view.view_expr (roll-Expr x) ≡ view_at_expr x
unfolding view.view_decl view.view_expr view.view_stmt view.view_element_line view.view_field_line view.view_result_form view.view_type_expr view.view_func_decl view.view_type_spec view.view_value_spec view.view_element view.view_listed_expr view.view_block view.view_case_clause view.view_comm_clause view.view_for_stmt view.view_if_arm view.view_range_stmt view.view_stmt_line view.view_switch_stmt view.view_type_switch_stmt view.view_param view.view_params view.view_signature
put_view_expr x = fold-roll-Expr Forest Forest Forest Forest Forest Forest Forest Forest Forest Forest Forest Forest Forest Forest Forest Forest Forest Forest Forest Forest Forest Forest Forest Forest view.decl_layer view.expr_layer view.stmt_layer view.element_line_layer view.field_line_layer view.result_form_layer view.type_expr_layer view.func_decl_layer view.type_spec_layer view.value_spec_layer view.element_layer view.listed_expr_layer view.block_layer view.case_clause_layer view.comm_clause_layer view.for_stmt_layer view.if_arm_layer view.range_stmt_layer view.stmt_line_layer view.switch_stmt_layer view.type_switch_stmt_layer view.param_layer view.params_layer view.signature_layer x

pub put_fields_expr : (x : Expr-F Decl Expr Stmt ElementLine FieldLine ResultForm TypeExpr FuncDecl TypeSpec ValueSpec Element ListedExpr Block CaseClause CommClause ForStmt IfArm RangeStmt StmtLine SwitchStmt TypeSwitchStmt Param Params Signature) → fields.fields_of_expr (roll-Expr x) ≡ fields_at_expr x
unfolding fields.fields_of_decl fields.fields_of_expr fields.fields_of_stmt fields.fields_of_element_line fields.fields_of_field_line fields.fields_of_result_form fields.fields_of_type_expr fields.fields_of_func_decl fields.fields_of_type_spec fields.fields_of_value_spec fields.fields_of_element fields.fields_of_listed_expr fields.fields_of_block fields.fields_of_case_clause fields.fields_of_comm_clause fields.fields_of_for_stmt fields.fields_of_if_arm fields.fields_of_range_stmt fields.fields_of_stmt_line fields.fields_of_switch_stmt fields.fields_of_type_switch_stmt fields.fields_of_param fields.fields_of_params fields.fields_of_signature
put_fields_expr x = fold-roll-Expr Marked Marked Marked Marked Marked Marked Marked Marked Marked Marked Marked Marked Marked Marked Marked Marked Marked Marked Marked Marked Marked Marked Marked Marked fields.decl_layer fields.expr_layer fields.stmt_layer fields.element_line_layer fields.field_line_layer fields.result_form_layer fields.type_expr_layer fields.func_decl_layer fields.type_spec_layer fields.value_spec_layer fields.element_layer fields.listed_expr_layer fields.block_layer fields.case_clause_layer fields.comm_clause_layer fields.for_stmt_layer fields.if_arm_layer fields.range_stmt_layer fields.stmt_line_layer fields.switch_stmt_layer fields.type_switch_stmt_layer fields.param_layer fields.params_layer fields.signature_layer x

pub put_roles_expr : (x : Expr-F Decl Expr Stmt ElementLine FieldLine ResultForm TypeExpr FuncDecl TypeSpec ValueSpec Element ListedExpr Block CaseClause CommClause ForStmt IfArm RangeStmt StmtLine SwitchStmt TypeSwitchStmt Param Params Signature) → roles_of_expr (roll-Expr x) ≡ roles_at_expr x
unfolding roles_of_decl roles_of_expr roles_of_stmt roles_of_element_line roles_of_field_line roles_of_result_form roles_of_type_expr roles_of_func_decl roles_of_type_spec roles_of_value_spec roles_of_element roles_of_listed_expr roles_of_block roles_of_case_clause roles_of_comm_clause roles_of_for_stmt roles_of_if_arm roles_of_range_stmt roles_of_stmt_line roles_of_switch_stmt roles_of_type_switch_stmt roles_of_param roles_of_params roles_of_signature
put_roles_expr x = fold-roll-Expr Bool Bool Bool InList InList Bool Bool Bool InList InList InList InList Bool Bool Bool Bool Bool Bool InList Bool Bool InList Bool Bool parts.decl_layer parts.expr_layer parts.stmt_layer parts.element_line_layer parts.field_line_layer parts.result_form_layer parts.type_expr_layer parts.func_decl_layer parts.type_spec_layer parts.value_spec_layer parts.element_layer parts.listed_expr_layer parts.block_layer parts.case_clause_layer parts.comm_clause_layer parts.for_stmt_layer parts.if_arm_layer parts.range_stmt_layer parts.stmt_line_layer parts.switch_stmt_layer parts.type_switch_stmt_layer parts.param_layer parts.params_layer parts.signature_layer x

abbrev pub view_at_stmt : Stmt-F Decl Expr Stmt ElementLine FieldLine ResultForm TypeExpr FuncDecl TypeSpec ValueSpec Element ListedExpr Block CaseClause CommClause ForStmt IfArm RangeStmt StmtLine SwitchStmt TypeSwitchStmt Param Params Signature → Forest
view_at_stmt x = view.stmt_layer (map-Stmt Decl Expr Stmt ElementLine FieldLine ResultForm TypeExpr FuncDecl TypeSpec ValueSpec Element ListedExpr Block CaseClause CommClause ForStmt IfArm RangeStmt StmtLine SwitchStmt TypeSwitchStmt Param Params Signature Forest Forest Forest Forest Forest Forest Forest Forest Forest Forest Forest Forest Forest Forest Forest Forest Forest Forest Forest Forest Forest Forest Forest Forest view.view_decl view.view_expr view.view_stmt view.view_element_line view.view_field_line view.view_result_form view.view_type_expr view.view_func_decl view.view_type_spec view.view_value_spec view.view_element view.view_listed_expr view.view_block view.view_case_clause view.view_comm_clause view.view_for_stmt view.view_if_arm view.view_range_stmt view.view_stmt_line view.view_switch_stmt view.view_type_switch_stmt view.view_param view.view_params view.view_signature x)

abbrev pub fields_at_stmt : Stmt-F Decl Expr Stmt ElementLine FieldLine ResultForm TypeExpr FuncDecl TypeSpec ValueSpec Element ListedExpr Block CaseClause CommClause ForStmt IfArm RangeStmt StmtLine SwitchStmt TypeSwitchStmt Param Params Signature → Marked
fields_at_stmt x = fields.stmt_layer (map-Stmt Decl Expr Stmt ElementLine FieldLine ResultForm TypeExpr FuncDecl TypeSpec ValueSpec Element ListedExpr Block CaseClause CommClause ForStmt IfArm RangeStmt StmtLine SwitchStmt TypeSwitchStmt Param Params Signature Marked Marked Marked Marked Marked Marked Marked Marked Marked Marked Marked Marked Marked Marked Marked Marked Marked Marked Marked Marked Marked Marked Marked Marked fields.fields_of_decl fields.fields_of_expr fields.fields_of_stmt fields.fields_of_element_line fields.fields_of_field_line fields.fields_of_result_form fields.fields_of_type_expr fields.fields_of_func_decl fields.fields_of_type_spec fields.fields_of_value_spec fields.fields_of_element fields.fields_of_listed_expr fields.fields_of_block fields.fields_of_case_clause fields.fields_of_comm_clause fields.fields_of_for_stmt fields.fields_of_if_arm fields.fields_of_range_stmt fields.fields_of_stmt_line fields.fields_of_switch_stmt fields.fields_of_type_switch_stmt fields.fields_of_param fields.fields_of_params fields.fields_of_signature x)

abbrev pub roles_at_stmt : Stmt-F Decl Expr Stmt ElementLine FieldLine ResultForm TypeExpr FuncDecl TypeSpec ValueSpec Element ListedExpr Block CaseClause CommClause ForStmt IfArm RangeStmt StmtLine SwitchStmt TypeSwitchStmt Param Params Signature → Bool
roles_at_stmt x = parts.stmt_layer (map-Stmt Decl Expr Stmt ElementLine FieldLine ResultForm TypeExpr FuncDecl TypeSpec ValueSpec Element ListedExpr Block CaseClause CommClause ForStmt IfArm RangeStmt StmtLine SwitchStmt TypeSwitchStmt Param Params Signature Bool Bool Bool InList InList Bool Bool Bool InList InList InList InList Bool Bool Bool Bool Bool Bool InList Bool Bool InList Bool Bool roles_of_decl roles_of_expr roles_of_stmt roles_of_element_line roles_of_field_line roles_of_result_form roles_of_type_expr roles_of_func_decl roles_of_type_spec roles_of_value_spec roles_of_element roles_of_listed_expr roles_of_block roles_of_case_clause roles_of_comm_clause roles_of_for_stmt roles_of_if_arm roles_of_range_stmt roles_of_stmt_line roles_of_switch_stmt roles_of_type_switch_stmt roles_of_param roles_of_params roles_of_signature x)

abbrev pub bare_stmt : Stmt-F DeclP ExprP StmtP ElementLineP FieldLineP ResultFormP TypeExprP FuncDeclP TypeSpecP ValueSpecP ElementP ListedExprP BlockP CaseClauseP CommClauseP ForStmtP IfArmP RangeStmtP StmtLineP SwitchStmtP TypeSwitchStmtP ParamP ParamsP SignatureP → Stmt-F Decl Expr Stmt ElementLine FieldLine ResultForm TypeExpr FuncDecl TypeSpec ValueSpec Element ListedExpr Block CaseClause CommClause ForStmt IfArm RangeStmt StmtLine SwitchStmt TypeSwitchStmt Param Params Signature
bare_stmt y = map-Stmt DeclP ExprP StmtP ElementLineP FieldLineP ResultFormP TypeExprP FuncDeclP TypeSpecP ValueSpecP ElementP ListedExprP BlockP CaseClauseP CommClauseP ForStmtP IfArmP RangeStmtP StmtLineP SwitchStmtP TypeSwitchStmtP ParamP ParamsP SignatureP Decl Expr Stmt ElementLine FieldLine ResultForm TypeExpr FuncDecl TypeSpec ValueSpec Element ListedExpr Block CaseClause CommClause ForStmt IfArm RangeStmt StmtLine SwitchStmt TypeSwitchStmt Param Params Signature (λ e. e.0) (λ e. e.0) (λ e. e.0) (λ e. e.0) (λ e. e.0) (λ e. e.0) (λ e. e.0) (λ e. e.0) (λ e. e.0) (λ e. e.0) (λ e. e.0) (λ e. e.0) (λ e. e.0) (λ e. e.0) (λ e. e.0) (λ e. e.0) (λ e. e.0) (λ e. e.0) (λ e. e.0) (λ e. e.0) (λ e. e.0) (λ e. e.0) (λ e. e.0) (λ e. e.0) y

pub put_view_stmt : (x : Stmt-F Decl Expr Stmt ElementLine FieldLine ResultForm TypeExpr FuncDecl TypeSpec ValueSpec Element ListedExpr Block CaseClause CommClause ForStmt IfArm RangeStmt StmtLine SwitchStmt TypeSwitchStmt Param Params Signature) → view.view_stmt (roll-Stmt x) ≡ view_at_stmt x
unfolding view.view_decl view.view_expr view.view_stmt view.view_element_line view.view_field_line view.view_result_form view.view_type_expr view.view_func_decl view.view_type_spec view.view_value_spec view.view_element view.view_listed_expr view.view_block view.view_case_clause view.view_comm_clause view.view_for_stmt view.view_if_arm view.view_range_stmt view.view_stmt_line view.view_switch_stmt view.view_type_switch_stmt view.view_param view.view_params view.view_signature
put_view_stmt x = fold-roll-Stmt Forest Forest Forest Forest Forest Forest Forest Forest Forest Forest Forest Forest Forest Forest Forest Forest Forest Forest Forest Forest Forest Forest Forest Forest view.decl_layer view.expr_layer view.stmt_layer view.element_line_layer view.field_line_layer view.result_form_layer view.type_expr_layer view.func_decl_layer view.type_spec_layer view.value_spec_layer view.element_layer view.listed_expr_layer view.block_layer view.case_clause_layer view.comm_clause_layer view.for_stmt_layer view.if_arm_layer view.range_stmt_layer view.stmt_line_layer view.switch_stmt_layer view.type_switch_stmt_layer view.param_layer view.params_layer view.signature_layer x

pub put_fields_stmt : (x : Stmt-F Decl Expr Stmt ElementLine FieldLine ResultForm TypeExpr FuncDecl TypeSpec ValueSpec Element ListedExpr Block CaseClause CommClause ForStmt IfArm RangeStmt StmtLine SwitchStmt TypeSwitchStmt Param Params Signature) → fields.fields_of_stmt (roll-Stmt x) ≡ fields_at_stmt x
unfolding fields.fields_of_decl fields.fields_of_expr fields.fields_of_stmt fields.fields_of_element_line fields.fields_of_field_line fields.fields_of_result_form fields.fields_of_type_expr fields.fields_of_func_decl fields.fields_of_type_spec fields.fields_of_value_spec fields.fields_of_element fields.fields_of_listed_expr fields.fields_of_block fields.fields_of_case_clause fields.fields_of_comm_clause fields.fields_of_for_stmt fields.fields_of_if_arm fields.fields_of_range_stmt fields.fields_of_stmt_line fields.fields_of_switch_stmt fields.fields_of_type_switch_stmt fields.fields_of_param fields.fields_of_params fields.fields_of_signature
put_fields_stmt x = fold-roll-Stmt Marked Marked Marked Marked Marked Marked Marked Marked Marked Marked Marked Marked Marked Marked Marked Marked Marked Marked Marked Marked Marked Marked Marked Marked fields.decl_layer fields.expr_layer fields.stmt_layer fields.element_line_layer fields.field_line_layer fields.result_form_layer fields.type_expr_layer fields.func_decl_layer fields.type_spec_layer fields.value_spec_layer fields.element_layer fields.listed_expr_layer fields.block_layer fields.case_clause_layer fields.comm_clause_layer fields.for_stmt_layer fields.if_arm_layer fields.range_stmt_layer fields.stmt_line_layer fields.switch_stmt_layer fields.type_switch_stmt_layer fields.param_layer fields.params_layer fields.signature_layer x

pub put_roles_stmt : (x : Stmt-F Decl Expr Stmt ElementLine FieldLine ResultForm TypeExpr FuncDecl TypeSpec ValueSpec Element ListedExpr Block CaseClause CommClause ForStmt IfArm RangeStmt StmtLine SwitchStmt TypeSwitchStmt Param Params Signature) → roles_of_stmt (roll-Stmt x) ≡ roles_at_stmt x
unfolding roles_of_decl roles_of_expr roles_of_stmt roles_of_element_line roles_of_field_line roles_of_result_form roles_of_type_expr roles_of_func_decl roles_of_type_spec roles_of_value_spec roles_of_element roles_of_listed_expr roles_of_block roles_of_case_clause roles_of_comm_clause roles_of_for_stmt roles_of_if_arm roles_of_range_stmt roles_of_stmt_line roles_of_switch_stmt roles_of_type_switch_stmt roles_of_param roles_of_params roles_of_signature
put_roles_stmt x = fold-roll-Stmt Bool Bool Bool InList InList Bool Bool Bool InList InList InList InList Bool Bool Bool Bool Bool Bool InList Bool Bool InList Bool Bool parts.decl_layer parts.expr_layer parts.stmt_layer parts.element_line_layer parts.field_line_layer parts.result_form_layer parts.type_expr_layer parts.func_decl_layer parts.type_spec_layer parts.value_spec_layer parts.element_layer parts.listed_expr_layer parts.block_layer parts.case_clause_layer parts.comm_clause_layer parts.for_stmt_layer parts.if_arm_layer parts.range_stmt_layer parts.stmt_line_layer parts.switch_stmt_layer parts.type_switch_stmt_layer parts.param_layer parts.params_layer parts.signature_layer x

abbrev pub view_at_element_line : ElementLine-F Decl Expr Stmt ElementLine FieldLine ResultForm TypeExpr FuncDecl TypeSpec ValueSpec Element ListedExpr Block CaseClause CommClause ForStmt IfArm RangeStmt StmtLine SwitchStmt TypeSwitchStmt Param Params Signature → Forest
view_at_element_line x = view.element_line_layer (map-ElementLine Decl Expr Stmt ElementLine FieldLine ResultForm TypeExpr FuncDecl TypeSpec ValueSpec Element ListedExpr Block CaseClause CommClause ForStmt IfArm RangeStmt StmtLine SwitchStmt TypeSwitchStmt Param Params Signature Forest Forest Forest Forest Forest Forest Forest Forest Forest Forest Forest Forest Forest Forest Forest Forest Forest Forest Forest Forest Forest Forest Forest Forest view.view_decl view.view_expr view.view_stmt view.view_element_line view.view_field_line view.view_result_form view.view_type_expr view.view_func_decl view.view_type_spec view.view_value_spec view.view_element view.view_listed_expr view.view_block view.view_case_clause view.view_comm_clause view.view_for_stmt view.view_if_arm view.view_range_stmt view.view_stmt_line view.view_switch_stmt view.view_type_switch_stmt view.view_param view.view_params view.view_signature x)

abbrev pub fields_at_element_line : ElementLine-F Decl Expr Stmt ElementLine FieldLine ResultForm TypeExpr FuncDecl TypeSpec ValueSpec Element ListedExpr Block CaseClause CommClause ForStmt IfArm RangeStmt StmtLine SwitchStmt TypeSwitchStmt Param Params Signature → Marked
fields_at_element_line x = fields.element_line_layer (map-ElementLine Decl Expr Stmt ElementLine FieldLine ResultForm TypeExpr FuncDecl TypeSpec ValueSpec Element ListedExpr Block CaseClause CommClause ForStmt IfArm RangeStmt StmtLine SwitchStmt TypeSwitchStmt Param Params Signature Marked Marked Marked Marked Marked Marked Marked Marked Marked Marked Marked Marked Marked Marked Marked Marked Marked Marked Marked Marked Marked Marked Marked Marked fields.fields_of_decl fields.fields_of_expr fields.fields_of_stmt fields.fields_of_element_line fields.fields_of_field_line fields.fields_of_result_form fields.fields_of_type_expr fields.fields_of_func_decl fields.fields_of_type_spec fields.fields_of_value_spec fields.fields_of_element fields.fields_of_listed_expr fields.fields_of_block fields.fields_of_case_clause fields.fields_of_comm_clause fields.fields_of_for_stmt fields.fields_of_if_arm fields.fields_of_range_stmt fields.fields_of_stmt_line fields.fields_of_switch_stmt fields.fields_of_type_switch_stmt fields.fields_of_param fields.fields_of_params fields.fields_of_signature x)

abbrev pub roles_at_element_line : ElementLine-F Decl Expr Stmt ElementLine FieldLine ResultForm TypeExpr FuncDecl TypeSpec ValueSpec Element ListedExpr Block CaseClause CommClause ForStmt IfArm RangeStmt StmtLine SwitchStmt TypeSwitchStmt Param Params Signature → InList
roles_at_element_line x = parts.element_line_layer (map-ElementLine Decl Expr Stmt ElementLine FieldLine ResultForm TypeExpr FuncDecl TypeSpec ValueSpec Element ListedExpr Block CaseClause CommClause ForStmt IfArm RangeStmt StmtLine SwitchStmt TypeSwitchStmt Param Params Signature Bool Bool Bool InList InList Bool Bool Bool InList InList InList InList Bool Bool Bool Bool Bool Bool InList Bool Bool InList Bool Bool roles_of_decl roles_of_expr roles_of_stmt roles_of_element_line roles_of_field_line roles_of_result_form roles_of_type_expr roles_of_func_decl roles_of_type_spec roles_of_value_spec roles_of_element roles_of_listed_expr roles_of_block roles_of_case_clause roles_of_comm_clause roles_of_for_stmt roles_of_if_arm roles_of_range_stmt roles_of_stmt_line roles_of_switch_stmt roles_of_type_switch_stmt roles_of_param roles_of_params roles_of_signature x)

abbrev pub bare_element_line : ElementLine-F DeclP ExprP StmtP ElementLineP FieldLineP ResultFormP TypeExprP FuncDeclP TypeSpecP ValueSpecP ElementP ListedExprP BlockP CaseClauseP CommClauseP ForStmtP IfArmP RangeStmtP StmtLineP SwitchStmtP TypeSwitchStmtP ParamP ParamsP SignatureP → ElementLine-F Decl Expr Stmt ElementLine FieldLine ResultForm TypeExpr FuncDecl TypeSpec ValueSpec Element ListedExpr Block CaseClause CommClause ForStmt IfArm RangeStmt StmtLine SwitchStmt TypeSwitchStmt Param Params Signature
bare_element_line y = map-ElementLine DeclP ExprP StmtP ElementLineP FieldLineP ResultFormP TypeExprP FuncDeclP TypeSpecP ValueSpecP ElementP ListedExprP BlockP CaseClauseP CommClauseP ForStmtP IfArmP RangeStmtP StmtLineP SwitchStmtP TypeSwitchStmtP ParamP ParamsP SignatureP Decl Expr Stmt ElementLine FieldLine ResultForm TypeExpr FuncDecl TypeSpec ValueSpec Element ListedExpr Block CaseClause CommClause ForStmt IfArm RangeStmt StmtLine SwitchStmt TypeSwitchStmt Param Params Signature (λ e. e.0) (λ e. e.0) (λ e. e.0) (λ e. e.0) (λ e. e.0) (λ e. e.0) (λ e. e.0) (λ e. e.0) (λ e. e.0) (λ e. e.0) (λ e. e.0) (λ e. e.0) (λ e. e.0) (λ e. e.0) (λ e. e.0) (λ e. e.0) (λ e. e.0) (λ e. e.0) (λ e. e.0) (λ e. e.0) (λ e. e.0) (λ e. e.0) (λ e. e.0) (λ e. e.0) y

pub put_view_element_line : (x : ElementLine-F Decl Expr Stmt ElementLine FieldLine ResultForm TypeExpr FuncDecl TypeSpec ValueSpec Element ListedExpr Block CaseClause CommClause ForStmt IfArm RangeStmt StmtLine SwitchStmt TypeSwitchStmt Param Params Signature) → view.view_element_line (roll-ElementLine x) ≡ view_at_element_line x
unfolding view.view_decl view.view_expr view.view_stmt view.view_element_line view.view_field_line view.view_result_form view.view_type_expr view.view_func_decl view.view_type_spec view.view_value_spec view.view_element view.view_listed_expr view.view_block view.view_case_clause view.view_comm_clause view.view_for_stmt view.view_if_arm view.view_range_stmt view.view_stmt_line view.view_switch_stmt view.view_type_switch_stmt view.view_param view.view_params view.view_signature
put_view_element_line x = fold-roll-ElementLine Forest Forest Forest Forest Forest Forest Forest Forest Forest Forest Forest Forest Forest Forest Forest Forest Forest Forest Forest Forest Forest Forest Forest Forest view.decl_layer view.expr_layer view.stmt_layer view.element_line_layer view.field_line_layer view.result_form_layer view.type_expr_layer view.func_decl_layer view.type_spec_layer view.value_spec_layer view.element_layer view.listed_expr_layer view.block_layer view.case_clause_layer view.comm_clause_layer view.for_stmt_layer view.if_arm_layer view.range_stmt_layer view.stmt_line_layer view.switch_stmt_layer view.type_switch_stmt_layer view.param_layer view.params_layer view.signature_layer x

pub put_fields_element_line : (x : ElementLine-F Decl Expr Stmt ElementLine FieldLine ResultForm TypeExpr FuncDecl TypeSpec ValueSpec Element ListedExpr Block CaseClause CommClause ForStmt IfArm RangeStmt StmtLine SwitchStmt TypeSwitchStmt Param Params Signature) → fields.fields_of_element_line (roll-ElementLine x) ≡ fields_at_element_line x
unfolding fields.fields_of_decl fields.fields_of_expr fields.fields_of_stmt fields.fields_of_element_line fields.fields_of_field_line fields.fields_of_result_form fields.fields_of_type_expr fields.fields_of_func_decl fields.fields_of_type_spec fields.fields_of_value_spec fields.fields_of_element fields.fields_of_listed_expr fields.fields_of_block fields.fields_of_case_clause fields.fields_of_comm_clause fields.fields_of_for_stmt fields.fields_of_if_arm fields.fields_of_range_stmt fields.fields_of_stmt_line fields.fields_of_switch_stmt fields.fields_of_type_switch_stmt fields.fields_of_param fields.fields_of_params fields.fields_of_signature
put_fields_element_line x = fold-roll-ElementLine Marked Marked Marked Marked Marked Marked Marked Marked Marked Marked Marked Marked Marked Marked Marked Marked Marked Marked Marked Marked Marked Marked Marked Marked fields.decl_layer fields.expr_layer fields.stmt_layer fields.element_line_layer fields.field_line_layer fields.result_form_layer fields.type_expr_layer fields.func_decl_layer fields.type_spec_layer fields.value_spec_layer fields.element_layer fields.listed_expr_layer fields.block_layer fields.case_clause_layer fields.comm_clause_layer fields.for_stmt_layer fields.if_arm_layer fields.range_stmt_layer fields.stmt_line_layer fields.switch_stmt_layer fields.type_switch_stmt_layer fields.param_layer fields.params_layer fields.signature_layer x

pub put_roles_element_line : (x : ElementLine-F Decl Expr Stmt ElementLine FieldLine ResultForm TypeExpr FuncDecl TypeSpec ValueSpec Element ListedExpr Block CaseClause CommClause ForStmt IfArm RangeStmt StmtLine SwitchStmt TypeSwitchStmt Param Params Signature) → roles_of_element_line (roll-ElementLine x) ≡ roles_at_element_line x
unfolding roles_of_decl roles_of_expr roles_of_stmt roles_of_element_line roles_of_field_line roles_of_result_form roles_of_type_expr roles_of_func_decl roles_of_type_spec roles_of_value_spec roles_of_element roles_of_listed_expr roles_of_block roles_of_case_clause roles_of_comm_clause roles_of_for_stmt roles_of_if_arm roles_of_range_stmt roles_of_stmt_line roles_of_switch_stmt roles_of_type_switch_stmt roles_of_param roles_of_params roles_of_signature
put_roles_element_line x = fold-roll-ElementLine Bool Bool Bool InList InList Bool Bool Bool InList InList InList InList Bool Bool Bool Bool Bool Bool InList Bool Bool InList Bool Bool parts.decl_layer parts.expr_layer parts.stmt_layer parts.element_line_layer parts.field_line_layer parts.result_form_layer parts.type_expr_layer parts.func_decl_layer parts.type_spec_layer parts.value_spec_layer parts.element_layer parts.listed_expr_layer parts.block_layer parts.case_clause_layer parts.comm_clause_layer parts.for_stmt_layer parts.if_arm_layer parts.range_stmt_layer parts.stmt_line_layer parts.switch_stmt_layer parts.type_switch_stmt_layer parts.param_layer parts.params_layer parts.signature_layer x

abbrev pub view_at_field_line : FieldLine-F Decl Expr Stmt ElementLine FieldLine ResultForm TypeExpr FuncDecl TypeSpec ValueSpec Element ListedExpr Block CaseClause CommClause ForStmt IfArm RangeStmt StmtLine SwitchStmt TypeSwitchStmt Param Params Signature → Forest
view_at_field_line x = view.field_line_layer (map-FieldLine Decl Expr Stmt ElementLine FieldLine ResultForm TypeExpr FuncDecl TypeSpec ValueSpec Element ListedExpr Block CaseClause CommClause ForStmt IfArm RangeStmt StmtLine SwitchStmt TypeSwitchStmt Param Params Signature Forest Forest Forest Forest Forest Forest Forest Forest Forest Forest Forest Forest Forest Forest Forest Forest Forest Forest Forest Forest Forest Forest Forest Forest view.view_decl view.view_expr view.view_stmt view.view_element_line view.view_field_line view.view_result_form view.view_type_expr view.view_func_decl view.view_type_spec view.view_value_spec view.view_element view.view_listed_expr view.view_block view.view_case_clause view.view_comm_clause view.view_for_stmt view.view_if_arm view.view_range_stmt view.view_stmt_line view.view_switch_stmt view.view_type_switch_stmt view.view_param view.view_params view.view_signature x)

abbrev pub fields_at_field_line : FieldLine-F Decl Expr Stmt ElementLine FieldLine ResultForm TypeExpr FuncDecl TypeSpec ValueSpec Element ListedExpr Block CaseClause CommClause ForStmt IfArm RangeStmt StmtLine SwitchStmt TypeSwitchStmt Param Params Signature → Marked
fields_at_field_line x = fields.field_line_layer (map-FieldLine Decl Expr Stmt ElementLine FieldLine ResultForm TypeExpr FuncDecl TypeSpec ValueSpec Element ListedExpr Block CaseClause CommClause ForStmt IfArm RangeStmt StmtLine SwitchStmt TypeSwitchStmt Param Params Signature Marked Marked Marked Marked Marked Marked Marked Marked Marked Marked Marked Marked Marked Marked Marked Marked Marked Marked Marked Marked Marked Marked Marked Marked fields.fields_of_decl fields.fields_of_expr fields.fields_of_stmt fields.fields_of_element_line fields.fields_of_field_line fields.fields_of_result_form fields.fields_of_type_expr fields.fields_of_func_decl fields.fields_of_type_spec fields.fields_of_value_spec fields.fields_of_element fields.fields_of_listed_expr fields.fields_of_block fields.fields_of_case_clause fields.fields_of_comm_clause fields.fields_of_for_stmt fields.fields_of_if_arm fields.fields_of_range_stmt fields.fields_of_stmt_line fields.fields_of_switch_stmt fields.fields_of_type_switch_stmt fields.fields_of_param fields.fields_of_params fields.fields_of_signature x)

abbrev pub roles_at_field_line : FieldLine-F Decl Expr Stmt ElementLine FieldLine ResultForm TypeExpr FuncDecl TypeSpec ValueSpec Element ListedExpr Block CaseClause CommClause ForStmt IfArm RangeStmt StmtLine SwitchStmt TypeSwitchStmt Param Params Signature → InList
roles_at_field_line x = parts.field_line_layer (map-FieldLine Decl Expr Stmt ElementLine FieldLine ResultForm TypeExpr FuncDecl TypeSpec ValueSpec Element ListedExpr Block CaseClause CommClause ForStmt IfArm RangeStmt StmtLine SwitchStmt TypeSwitchStmt Param Params Signature Bool Bool Bool InList InList Bool Bool Bool InList InList InList InList Bool Bool Bool Bool Bool Bool InList Bool Bool InList Bool Bool roles_of_decl roles_of_expr roles_of_stmt roles_of_element_line roles_of_field_line roles_of_result_form roles_of_type_expr roles_of_func_decl roles_of_type_spec roles_of_value_spec roles_of_element roles_of_listed_expr roles_of_block roles_of_case_clause roles_of_comm_clause roles_of_for_stmt roles_of_if_arm roles_of_range_stmt roles_of_stmt_line roles_of_switch_stmt roles_of_type_switch_stmt roles_of_param roles_of_params roles_of_signature x)

abbrev pub bare_field_line : FieldLine-F DeclP ExprP StmtP ElementLineP FieldLineP ResultFormP TypeExprP FuncDeclP TypeSpecP ValueSpecP ElementP ListedExprP BlockP CaseClauseP CommClauseP ForStmtP IfArmP RangeStmtP StmtLineP SwitchStmtP TypeSwitchStmtP ParamP ParamsP SignatureP → FieldLine-F Decl Expr Stmt ElementLine FieldLine ResultForm TypeExpr FuncDecl TypeSpec ValueSpec Element ListedExpr Block CaseClause CommClause ForStmt IfArm RangeStmt StmtLine SwitchStmt TypeSwitchStmt Param Params Signature
bare_field_line y = map-FieldLine DeclP ExprP StmtP ElementLineP FieldLineP ResultFormP TypeExprP FuncDeclP TypeSpecP ValueSpecP ElementP ListedExprP BlockP CaseClauseP CommClauseP ForStmtP IfArmP RangeStmtP StmtLineP SwitchStmtP TypeSwitchStmtP ParamP ParamsP SignatureP Decl Expr Stmt ElementLine FieldLine ResultForm TypeExpr FuncDecl TypeSpec ValueSpec Element ListedExpr Block CaseClause CommClause ForStmt IfArm RangeStmt StmtLine SwitchStmt TypeSwitchStmt Param Params Signature (λ e. e.0) (λ e. e.0) (λ e. e.0) (λ e. e.0) (λ e. e.0) (λ e. e.0) (λ e. e.0) (λ e. e.0) (λ e. e.0) (λ e. e.0) (λ e. e.0) (λ e. e.0) (λ e. e.0) (λ e. e.0) (λ e. e.0) (λ e. e.0) (λ e. e.0) (λ e. e.0) (λ e. e.0) (λ e. e.0) (λ e. e.0) (λ e. e.0) (λ e. e.0) (λ e. e.0) y

pub put_view_field_line : (x : FieldLine-F Decl Expr Stmt ElementLine FieldLine ResultForm TypeExpr FuncDecl TypeSpec ValueSpec Element ListedExpr Block CaseClause CommClause ForStmt IfArm RangeStmt StmtLine SwitchStmt TypeSwitchStmt Param Params Signature) → view.view_field_line (roll-FieldLine x) ≡ view_at_field_line x
unfolding view.view_decl view.view_expr view.view_stmt view.view_element_line view.view_field_line view.view_result_form view.view_type_expr view.view_func_decl view.view_type_spec view.view_value_spec view.view_element view.view_listed_expr view.view_block view.view_case_clause view.view_comm_clause view.view_for_stmt view.view_if_arm view.view_range_stmt view.view_stmt_line view.view_switch_stmt view.view_type_switch_stmt view.view_param view.view_params view.view_signature
put_view_field_line x = fold-roll-FieldLine Forest Forest Forest Forest Forest Forest Forest Forest Forest Forest Forest Forest Forest Forest Forest Forest Forest Forest Forest Forest Forest Forest Forest Forest view.decl_layer view.expr_layer view.stmt_layer view.element_line_layer view.field_line_layer view.result_form_layer view.type_expr_layer view.func_decl_layer view.type_spec_layer view.value_spec_layer view.element_layer view.listed_expr_layer view.block_layer view.case_clause_layer view.comm_clause_layer view.for_stmt_layer view.if_arm_layer view.range_stmt_layer view.stmt_line_layer view.switch_stmt_layer view.type_switch_stmt_layer view.param_layer view.params_layer view.signature_layer x

pub put_fields_field_line : (x : FieldLine-F Decl Expr Stmt ElementLine FieldLine ResultForm TypeExpr FuncDecl TypeSpec ValueSpec Element ListedExpr Block CaseClause CommClause ForStmt IfArm RangeStmt StmtLine SwitchStmt TypeSwitchStmt Param Params Signature) → fields.fields_of_field_line (roll-FieldLine x) ≡ fields_at_field_line x
unfolding fields.fields_of_decl fields.fields_of_expr fields.fields_of_stmt fields.fields_of_element_line fields.fields_of_field_line fields.fields_of_result_form fields.fields_of_type_expr fields.fields_of_func_decl fields.fields_of_type_spec fields.fields_of_value_spec fields.fields_of_element fields.fields_of_listed_expr fields.fields_of_block fields.fields_of_case_clause fields.fields_of_comm_clause fields.fields_of_for_stmt fields.fields_of_if_arm fields.fields_of_range_stmt fields.fields_of_stmt_line fields.fields_of_switch_stmt fields.fields_of_type_switch_stmt fields.fields_of_param fields.fields_of_params fields.fields_of_signature
put_fields_field_line x = fold-roll-FieldLine Marked Marked Marked Marked Marked Marked Marked Marked Marked Marked Marked Marked Marked Marked Marked Marked Marked Marked Marked Marked Marked Marked Marked Marked fields.decl_layer fields.expr_layer fields.stmt_layer fields.element_line_layer fields.field_line_layer fields.result_form_layer fields.type_expr_layer fields.func_decl_layer fields.type_spec_layer fields.value_spec_layer fields.element_layer fields.listed_expr_layer fields.block_layer fields.case_clause_layer fields.comm_clause_layer fields.for_stmt_layer fields.if_arm_layer fields.range_stmt_layer fields.stmt_line_layer fields.switch_stmt_layer fields.type_switch_stmt_layer fields.param_layer fields.params_layer fields.signature_layer x

pub put_roles_field_line : (x : FieldLine-F Decl Expr Stmt ElementLine FieldLine ResultForm TypeExpr FuncDecl TypeSpec ValueSpec Element ListedExpr Block CaseClause CommClause ForStmt IfArm RangeStmt StmtLine SwitchStmt TypeSwitchStmt Param Params Signature) → roles_of_field_line (roll-FieldLine x) ≡ roles_at_field_line x
unfolding roles_of_decl roles_of_expr roles_of_stmt roles_of_element_line roles_of_field_line roles_of_result_form roles_of_type_expr roles_of_func_decl roles_of_type_spec roles_of_value_spec roles_of_element roles_of_listed_expr roles_of_block roles_of_case_clause roles_of_comm_clause roles_of_for_stmt roles_of_if_arm roles_of_range_stmt roles_of_stmt_line roles_of_switch_stmt roles_of_type_switch_stmt roles_of_param roles_of_params roles_of_signature
put_roles_field_line x = fold-roll-FieldLine Bool Bool Bool InList InList Bool Bool Bool InList InList InList InList Bool Bool Bool Bool Bool Bool InList Bool Bool InList Bool Bool parts.decl_layer parts.expr_layer parts.stmt_layer parts.element_line_layer parts.field_line_layer parts.result_form_layer parts.type_expr_layer parts.func_decl_layer parts.type_spec_layer parts.value_spec_layer parts.element_layer parts.listed_expr_layer parts.block_layer parts.case_clause_layer parts.comm_clause_layer parts.for_stmt_layer parts.if_arm_layer parts.range_stmt_layer parts.stmt_line_layer parts.switch_stmt_layer parts.type_switch_stmt_layer parts.param_layer parts.params_layer parts.signature_layer x

abbrev pub view_at_result_form : ResultForm-F Decl Expr Stmt ElementLine FieldLine ResultForm TypeExpr FuncDecl TypeSpec ValueSpec Element ListedExpr Block CaseClause CommClause ForStmt IfArm RangeStmt StmtLine SwitchStmt TypeSwitchStmt Param Params Signature → Forest
view_at_result_form x = view.result_form_layer (map-ResultForm Decl Expr Stmt ElementLine FieldLine ResultForm TypeExpr FuncDecl TypeSpec ValueSpec Element ListedExpr Block CaseClause CommClause ForStmt IfArm RangeStmt StmtLine SwitchStmt TypeSwitchStmt Param Params Signature Forest Forest Forest Forest Forest Forest Forest Forest Forest Forest Forest Forest Forest Forest Forest Forest Forest Forest Forest Forest Forest Forest Forest Forest view.view_decl view.view_expr view.view_stmt view.view_element_line view.view_field_line view.view_result_form view.view_type_expr view.view_func_decl view.view_type_spec view.view_value_spec view.view_element view.view_listed_expr view.view_block view.view_case_clause view.view_comm_clause view.view_for_stmt view.view_if_arm view.view_range_stmt view.view_stmt_line view.view_switch_stmt view.view_type_switch_stmt view.view_param view.view_params view.view_signature x)

abbrev pub fields_at_result_form : ResultForm-F Decl Expr Stmt ElementLine FieldLine ResultForm TypeExpr FuncDecl TypeSpec ValueSpec Element ListedExpr Block CaseClause CommClause ForStmt IfArm RangeStmt StmtLine SwitchStmt TypeSwitchStmt Param Params Signature → Marked
fields_at_result_form x = fields.result_form_layer (map-ResultForm Decl Expr Stmt ElementLine FieldLine ResultForm TypeExpr FuncDecl TypeSpec ValueSpec Element ListedExpr Block CaseClause CommClause ForStmt IfArm RangeStmt StmtLine SwitchStmt TypeSwitchStmt Param Params Signature Marked Marked Marked Marked Marked Marked Marked Marked Marked Marked Marked Marked Marked Marked Marked Marked Marked Marked Marked Marked Marked Marked Marked Marked fields.fields_of_decl fields.fields_of_expr fields.fields_of_stmt fields.fields_of_element_line fields.fields_of_field_line fields.fields_of_result_form fields.fields_of_type_expr fields.fields_of_func_decl fields.fields_of_type_spec fields.fields_of_value_spec fields.fields_of_element fields.fields_of_listed_expr fields.fields_of_block fields.fields_of_case_clause fields.fields_of_comm_clause fields.fields_of_for_stmt fields.fields_of_if_arm fields.fields_of_range_stmt fields.fields_of_stmt_line fields.fields_of_switch_stmt fields.fields_of_type_switch_stmt fields.fields_of_param fields.fields_of_params fields.fields_of_signature x)

abbrev pub roles_at_result_form : ResultForm-F Decl Expr Stmt ElementLine FieldLine ResultForm TypeExpr FuncDecl TypeSpec ValueSpec Element ListedExpr Block CaseClause CommClause ForStmt IfArm RangeStmt StmtLine SwitchStmt TypeSwitchStmt Param Params Signature → Bool
roles_at_result_form x = parts.result_form_layer (map-ResultForm Decl Expr Stmt ElementLine FieldLine ResultForm TypeExpr FuncDecl TypeSpec ValueSpec Element ListedExpr Block CaseClause CommClause ForStmt IfArm RangeStmt StmtLine SwitchStmt TypeSwitchStmt Param Params Signature Bool Bool Bool InList InList Bool Bool Bool InList InList InList InList Bool Bool Bool Bool Bool Bool InList Bool Bool InList Bool Bool roles_of_decl roles_of_expr roles_of_stmt roles_of_element_line roles_of_field_line roles_of_result_form roles_of_type_expr roles_of_func_decl roles_of_type_spec roles_of_value_spec roles_of_element roles_of_listed_expr roles_of_block roles_of_case_clause roles_of_comm_clause roles_of_for_stmt roles_of_if_arm roles_of_range_stmt roles_of_stmt_line roles_of_switch_stmt roles_of_type_switch_stmt roles_of_param roles_of_params roles_of_signature x)

abbrev pub bare_result_form : ResultForm-F DeclP ExprP StmtP ElementLineP FieldLineP ResultFormP TypeExprP FuncDeclP TypeSpecP ValueSpecP ElementP ListedExprP BlockP CaseClauseP CommClauseP ForStmtP IfArmP RangeStmtP StmtLineP SwitchStmtP TypeSwitchStmtP ParamP ParamsP SignatureP → ResultForm-F Decl Expr Stmt ElementLine FieldLine ResultForm TypeExpr FuncDecl TypeSpec ValueSpec Element ListedExpr Block CaseClause CommClause ForStmt IfArm RangeStmt StmtLine SwitchStmt TypeSwitchStmt Param Params Signature
bare_result_form y = map-ResultForm DeclP ExprP StmtP ElementLineP FieldLineP ResultFormP TypeExprP FuncDeclP TypeSpecP ValueSpecP ElementP ListedExprP BlockP CaseClauseP CommClauseP ForStmtP IfArmP RangeStmtP StmtLineP SwitchStmtP TypeSwitchStmtP ParamP ParamsP SignatureP Decl Expr Stmt ElementLine FieldLine ResultForm TypeExpr FuncDecl TypeSpec ValueSpec Element ListedExpr Block CaseClause CommClause ForStmt IfArm RangeStmt StmtLine SwitchStmt TypeSwitchStmt Param Params Signature (λ e. e.0) (λ e. e.0) (λ e. e.0) (λ e. e.0) (λ e. e.0) (λ e. e.0) (λ e. e.0) (λ e. e.0) (λ e. e.0) (λ e. e.0) (λ e. e.0) (λ e. e.0) (λ e. e.0) (λ e. e.0) (λ e. e.0) (λ e. e.0) (λ e. e.0) (λ e. e.0) (λ e. e.0) (λ e. e.0) (λ e. e.0) (λ e. e.0) (λ e. e.0) (λ e. e.0) y

pub put_view_result_form : (x : ResultForm-F Decl Expr Stmt ElementLine FieldLine ResultForm TypeExpr FuncDecl TypeSpec ValueSpec Element ListedExpr Block CaseClause CommClause ForStmt IfArm RangeStmt StmtLine SwitchStmt TypeSwitchStmt Param Params Signature) → view.view_result_form (roll-ResultForm x) ≡ view_at_result_form x
unfolding view.view_decl view.view_expr view.view_stmt view.view_element_line view.view_field_line view.view_result_form view.view_type_expr view.view_func_decl view.view_type_spec view.view_value_spec view.view_element view.view_listed_expr view.view_block view.view_case_clause view.view_comm_clause view.view_for_stmt view.view_if_arm view.view_range_stmt view.view_stmt_line view.view_switch_stmt view.view_type_switch_stmt view.view_param view.view_params view.view_signature
put_view_result_form x = fold-roll-ResultForm Forest Forest Forest Forest Forest Forest Forest Forest Forest Forest Forest Forest Forest Forest Forest Forest Forest Forest Forest Forest Forest Forest Forest Forest view.decl_layer view.expr_layer view.stmt_layer view.element_line_layer view.field_line_layer view.result_form_layer view.type_expr_layer view.func_decl_layer view.type_spec_layer view.value_spec_layer view.element_layer view.listed_expr_layer view.block_layer view.case_clause_layer view.comm_clause_layer view.for_stmt_layer view.if_arm_layer view.range_stmt_layer view.stmt_line_layer view.switch_stmt_layer view.type_switch_stmt_layer view.param_layer view.params_layer view.signature_layer x

pub put_fields_result_form : (x : ResultForm-F Decl Expr Stmt ElementLine FieldLine ResultForm TypeExpr FuncDecl TypeSpec ValueSpec Element ListedExpr Block CaseClause CommClause ForStmt IfArm RangeStmt StmtLine SwitchStmt TypeSwitchStmt Param Params Signature) → fields.fields_of_result_form (roll-ResultForm x) ≡ fields_at_result_form x
unfolding fields.fields_of_decl fields.fields_of_expr fields.fields_of_stmt fields.fields_of_element_line fields.fields_of_field_line fields.fields_of_result_form fields.fields_of_type_expr fields.fields_of_func_decl fields.fields_of_type_spec fields.fields_of_value_spec fields.fields_of_element fields.fields_of_listed_expr fields.fields_of_block fields.fields_of_case_clause fields.fields_of_comm_clause fields.fields_of_for_stmt fields.fields_of_if_arm fields.fields_of_range_stmt fields.fields_of_stmt_line fields.fields_of_switch_stmt fields.fields_of_type_switch_stmt fields.fields_of_param fields.fields_of_params fields.fields_of_signature
put_fields_result_form x = fold-roll-ResultForm Marked Marked Marked Marked Marked Marked Marked Marked Marked Marked Marked Marked Marked Marked Marked Marked Marked Marked Marked Marked Marked Marked Marked Marked fields.decl_layer fields.expr_layer fields.stmt_layer fields.element_line_layer fields.field_line_layer fields.result_form_layer fields.type_expr_layer fields.func_decl_layer fields.type_spec_layer fields.value_spec_layer fields.element_layer fields.listed_expr_layer fields.block_layer fields.case_clause_layer fields.comm_clause_layer fields.for_stmt_layer fields.if_arm_layer fields.range_stmt_layer fields.stmt_line_layer fields.switch_stmt_layer fields.type_switch_stmt_layer fields.param_layer fields.params_layer fields.signature_layer x

pub put_roles_result_form : (x : ResultForm-F Decl Expr Stmt ElementLine FieldLine ResultForm TypeExpr FuncDecl TypeSpec ValueSpec Element ListedExpr Block CaseClause CommClause ForStmt IfArm RangeStmt StmtLine SwitchStmt TypeSwitchStmt Param Params Signature) → roles_of_result_form (roll-ResultForm x) ≡ roles_at_result_form x
unfolding roles_of_decl roles_of_expr roles_of_stmt roles_of_element_line roles_of_field_line roles_of_result_form roles_of_type_expr roles_of_func_decl roles_of_type_spec roles_of_value_spec roles_of_element roles_of_listed_expr roles_of_block roles_of_case_clause roles_of_comm_clause roles_of_for_stmt roles_of_if_arm roles_of_range_stmt roles_of_stmt_line roles_of_switch_stmt roles_of_type_switch_stmt roles_of_param roles_of_params roles_of_signature
put_roles_result_form x = fold-roll-ResultForm Bool Bool Bool InList InList Bool Bool Bool InList InList InList InList Bool Bool Bool Bool Bool Bool InList Bool Bool InList Bool Bool parts.decl_layer parts.expr_layer parts.stmt_layer parts.element_line_layer parts.field_line_layer parts.result_form_layer parts.type_expr_layer parts.func_decl_layer parts.type_spec_layer parts.value_spec_layer parts.element_layer parts.listed_expr_layer parts.block_layer parts.case_clause_layer parts.comm_clause_layer parts.for_stmt_layer parts.if_arm_layer parts.range_stmt_layer parts.stmt_line_layer parts.switch_stmt_layer parts.type_switch_stmt_layer parts.param_layer parts.params_layer parts.signature_layer x

abbrev pub view_at_type_expr : TypeExpr-F Decl Expr Stmt ElementLine FieldLine ResultForm TypeExpr FuncDecl TypeSpec ValueSpec Element ListedExpr Block CaseClause CommClause ForStmt IfArm RangeStmt StmtLine SwitchStmt TypeSwitchStmt Param Params Signature → Forest
view_at_type_expr x = view.type_expr_layer (map-TypeExpr Decl Expr Stmt ElementLine FieldLine ResultForm TypeExpr FuncDecl TypeSpec ValueSpec Element ListedExpr Block CaseClause CommClause ForStmt IfArm RangeStmt StmtLine SwitchStmt TypeSwitchStmt Param Params Signature Forest Forest Forest Forest Forest Forest Forest Forest Forest Forest Forest Forest Forest Forest Forest Forest Forest Forest Forest Forest Forest Forest Forest Forest view.view_decl view.view_expr view.view_stmt view.view_element_line view.view_field_line view.view_result_form view.view_type_expr view.view_func_decl view.view_type_spec view.view_value_spec view.view_element view.view_listed_expr view.view_block view.view_case_clause view.view_comm_clause view.view_for_stmt view.view_if_arm view.view_range_stmt view.view_stmt_line view.view_switch_stmt view.view_type_switch_stmt view.view_param view.view_params view.view_signature x)

abbrev pub fields_at_type_expr : TypeExpr-F Decl Expr Stmt ElementLine FieldLine ResultForm TypeExpr FuncDecl TypeSpec ValueSpec Element ListedExpr Block CaseClause CommClause ForStmt IfArm RangeStmt StmtLine SwitchStmt TypeSwitchStmt Param Params Signature → Marked
fields_at_type_expr x = fields.type_expr_layer (map-TypeExpr Decl Expr Stmt ElementLine FieldLine ResultForm TypeExpr FuncDecl TypeSpec ValueSpec Element ListedExpr Block CaseClause CommClause ForStmt IfArm RangeStmt StmtLine SwitchStmt TypeSwitchStmt Param Params Signature Marked Marked Marked Marked Marked Marked Marked Marked Marked Marked Marked Marked Marked Marked Marked Marked Marked Marked Marked Marked Marked Marked Marked Marked fields.fields_of_decl fields.fields_of_expr fields.fields_of_stmt fields.fields_of_element_line fields.fields_of_field_line fields.fields_of_result_form fields.fields_of_type_expr fields.fields_of_func_decl fields.fields_of_type_spec fields.fields_of_value_spec fields.fields_of_element fields.fields_of_listed_expr fields.fields_of_block fields.fields_of_case_clause fields.fields_of_comm_clause fields.fields_of_for_stmt fields.fields_of_if_arm fields.fields_of_range_stmt fields.fields_of_stmt_line fields.fields_of_switch_stmt fields.fields_of_type_switch_stmt fields.fields_of_param fields.fields_of_params fields.fields_of_signature x)

abbrev pub roles_at_type_expr : TypeExpr-F Decl Expr Stmt ElementLine FieldLine ResultForm TypeExpr FuncDecl TypeSpec ValueSpec Element ListedExpr Block CaseClause CommClause ForStmt IfArm RangeStmt StmtLine SwitchStmt TypeSwitchStmt Param Params Signature → Bool
roles_at_type_expr x = parts.type_expr_layer (map-TypeExpr Decl Expr Stmt ElementLine FieldLine ResultForm TypeExpr FuncDecl TypeSpec ValueSpec Element ListedExpr Block CaseClause CommClause ForStmt IfArm RangeStmt StmtLine SwitchStmt TypeSwitchStmt Param Params Signature Bool Bool Bool InList InList Bool Bool Bool InList InList InList InList Bool Bool Bool Bool Bool Bool InList Bool Bool InList Bool Bool roles_of_decl roles_of_expr roles_of_stmt roles_of_element_line roles_of_field_line roles_of_result_form roles_of_type_expr roles_of_func_decl roles_of_type_spec roles_of_value_spec roles_of_element roles_of_listed_expr roles_of_block roles_of_case_clause roles_of_comm_clause roles_of_for_stmt roles_of_if_arm roles_of_range_stmt roles_of_stmt_line roles_of_switch_stmt roles_of_type_switch_stmt roles_of_param roles_of_params roles_of_signature x)

abbrev pub bare_type_expr : TypeExpr-F DeclP ExprP StmtP ElementLineP FieldLineP ResultFormP TypeExprP FuncDeclP TypeSpecP ValueSpecP ElementP ListedExprP BlockP CaseClauseP CommClauseP ForStmtP IfArmP RangeStmtP StmtLineP SwitchStmtP TypeSwitchStmtP ParamP ParamsP SignatureP → TypeExpr-F Decl Expr Stmt ElementLine FieldLine ResultForm TypeExpr FuncDecl TypeSpec ValueSpec Element ListedExpr Block CaseClause CommClause ForStmt IfArm RangeStmt StmtLine SwitchStmt TypeSwitchStmt Param Params Signature
bare_type_expr y = map-TypeExpr DeclP ExprP StmtP ElementLineP FieldLineP ResultFormP TypeExprP FuncDeclP TypeSpecP ValueSpecP ElementP ListedExprP BlockP CaseClauseP CommClauseP ForStmtP IfArmP RangeStmtP StmtLineP SwitchStmtP TypeSwitchStmtP ParamP ParamsP SignatureP Decl Expr Stmt ElementLine FieldLine ResultForm TypeExpr FuncDecl TypeSpec ValueSpec Element ListedExpr Block CaseClause CommClause ForStmt IfArm RangeStmt StmtLine SwitchStmt TypeSwitchStmt Param Params Signature (λ e. e.0) (λ e. e.0) (λ e. e.0) (λ e. e.0) (λ e. e.0) (λ e. e.0) (λ e. e.0) (λ e. e.0) (λ e. e.0) (λ e. e.0) (λ e. e.0) (λ e. e.0) (λ e. e.0) (λ e. e.0) (λ e. e.0) (λ e. e.0) (λ e. e.0) (λ e. e.0) (λ e. e.0) (λ e. e.0) (λ e. e.0) (λ e. e.0) (λ e. e.0) (λ e. e.0) y

pub put_view_type_expr : (x : TypeExpr-F Decl Expr Stmt ElementLine FieldLine ResultForm TypeExpr FuncDecl TypeSpec ValueSpec Element ListedExpr Block CaseClause CommClause ForStmt IfArm RangeStmt StmtLine SwitchStmt TypeSwitchStmt Param Params Signature) → view.view_type_expr (roll-TypeExpr x) ≡ view_at_type_expr x
unfolding view.view_decl view.view_expr view.view_stmt view.view_element_line view.view_field_line view.view_result_form view.view_type_expr view.view_func_decl view.view_type_spec view.view_value_spec view.view_element view.view_listed_expr view.view_block view.view_case_clause view.view_comm_clause view.view_for_stmt view.view_if_arm view.view_range_stmt view.view_stmt_line view.view_switch_stmt view.view_type_switch_stmt view.view_param view.view_params view.view_signature
put_view_type_expr x = fold-roll-TypeExpr Forest Forest Forest Forest Forest Forest Forest Forest Forest Forest Forest Forest Forest Forest Forest Forest Forest Forest Forest Forest Forest Forest Forest Forest view.decl_layer view.expr_layer view.stmt_layer view.element_line_layer view.field_line_layer view.result_form_layer view.type_expr_layer view.func_decl_layer view.type_spec_layer view.value_spec_layer view.element_layer view.listed_expr_layer view.block_layer view.case_clause_layer view.comm_clause_layer view.for_stmt_layer view.if_arm_layer view.range_stmt_layer view.stmt_line_layer view.switch_stmt_layer view.type_switch_stmt_layer view.param_layer view.params_layer view.signature_layer x

pub put_fields_type_expr : (x : TypeExpr-F Decl Expr Stmt ElementLine FieldLine ResultForm TypeExpr FuncDecl TypeSpec ValueSpec Element ListedExpr Block CaseClause CommClause ForStmt IfArm RangeStmt StmtLine SwitchStmt TypeSwitchStmt Param Params Signature) → fields.fields_of_type_expr (roll-TypeExpr x) ≡ fields_at_type_expr x
unfolding fields.fields_of_decl fields.fields_of_expr fields.fields_of_stmt fields.fields_of_element_line fields.fields_of_field_line fields.fields_of_result_form fields.fields_of_type_expr fields.fields_of_func_decl fields.fields_of_type_spec fields.fields_of_value_spec fields.fields_of_element fields.fields_of_listed_expr fields.fields_of_block fields.fields_of_case_clause fields.fields_of_comm_clause fields.fields_of_for_stmt fields.fields_of_if_arm fields.fields_of_range_stmt fields.fields_of_stmt_line fields.fields_of_switch_stmt fields.fields_of_type_switch_stmt fields.fields_of_param fields.fields_of_params fields.fields_of_signature
put_fields_type_expr x = fold-roll-TypeExpr Marked Marked Marked Marked Marked Marked Marked Marked Marked Marked Marked Marked Marked Marked Marked Marked Marked Marked Marked Marked Marked Marked Marked Marked fields.decl_layer fields.expr_layer fields.stmt_layer fields.element_line_layer fields.field_line_layer fields.result_form_layer fields.type_expr_layer fields.func_decl_layer fields.type_spec_layer fields.value_spec_layer fields.element_layer fields.listed_expr_layer fields.block_layer fields.case_clause_layer fields.comm_clause_layer fields.for_stmt_layer fields.if_arm_layer fields.range_stmt_layer fields.stmt_line_layer fields.switch_stmt_layer fields.type_switch_stmt_layer fields.param_layer fields.params_layer fields.signature_layer x

pub put_roles_type_expr : (x : TypeExpr-F Decl Expr Stmt ElementLine FieldLine ResultForm TypeExpr FuncDecl TypeSpec ValueSpec Element ListedExpr Block CaseClause CommClause ForStmt IfArm RangeStmt StmtLine SwitchStmt TypeSwitchStmt Param Params Signature) → roles_of_type_expr (roll-TypeExpr x) ≡ roles_at_type_expr x
unfolding roles_of_decl roles_of_expr roles_of_stmt roles_of_element_line roles_of_field_line roles_of_result_form roles_of_type_expr roles_of_func_decl roles_of_type_spec roles_of_value_spec roles_of_element roles_of_listed_expr roles_of_block roles_of_case_clause roles_of_comm_clause roles_of_for_stmt roles_of_if_arm roles_of_range_stmt roles_of_stmt_line roles_of_switch_stmt roles_of_type_switch_stmt roles_of_param roles_of_params roles_of_signature
put_roles_type_expr x = fold-roll-TypeExpr Bool Bool Bool InList InList Bool Bool Bool InList InList InList InList Bool Bool Bool Bool Bool Bool InList Bool Bool InList Bool Bool parts.decl_layer parts.expr_layer parts.stmt_layer parts.element_line_layer parts.field_line_layer parts.result_form_layer parts.type_expr_layer parts.func_decl_layer parts.type_spec_layer parts.value_spec_layer parts.element_layer parts.listed_expr_layer parts.block_layer parts.case_clause_layer parts.comm_clause_layer parts.for_stmt_layer parts.if_arm_layer parts.range_stmt_layer parts.stmt_line_layer parts.switch_stmt_layer parts.type_switch_stmt_layer parts.param_layer parts.params_layer parts.signature_layer x

abbrev pub view_at_func_decl : FuncDecl-F Decl Expr Stmt ElementLine FieldLine ResultForm TypeExpr FuncDecl TypeSpec ValueSpec Element ListedExpr Block CaseClause CommClause ForStmt IfArm RangeStmt StmtLine SwitchStmt TypeSwitchStmt Param Params Signature → Forest
view_at_func_decl x = view.func_decl_layer (map-FuncDecl Decl Expr Stmt ElementLine FieldLine ResultForm TypeExpr FuncDecl TypeSpec ValueSpec Element ListedExpr Block CaseClause CommClause ForStmt IfArm RangeStmt StmtLine SwitchStmt TypeSwitchStmt Param Params Signature Forest Forest Forest Forest Forest Forest Forest Forest Forest Forest Forest Forest Forest Forest Forest Forest Forest Forest Forest Forest Forest Forest Forest Forest view.view_decl view.view_expr view.view_stmt view.view_element_line view.view_field_line view.view_result_form view.view_type_expr view.view_func_decl view.view_type_spec view.view_value_spec view.view_element view.view_listed_expr view.view_block view.view_case_clause view.view_comm_clause view.view_for_stmt view.view_if_arm view.view_range_stmt view.view_stmt_line view.view_switch_stmt view.view_type_switch_stmt view.view_param view.view_params view.view_signature x)

abbrev pub fields_at_func_decl : FuncDecl-F Decl Expr Stmt ElementLine FieldLine ResultForm TypeExpr FuncDecl TypeSpec ValueSpec Element ListedExpr Block CaseClause CommClause ForStmt IfArm RangeStmt StmtLine SwitchStmt TypeSwitchStmt Param Params Signature → Marked
fields_at_func_decl x = fields.func_decl_layer (map-FuncDecl Decl Expr Stmt ElementLine FieldLine ResultForm TypeExpr FuncDecl TypeSpec ValueSpec Element ListedExpr Block CaseClause CommClause ForStmt IfArm RangeStmt StmtLine SwitchStmt TypeSwitchStmt Param Params Signature Marked Marked Marked Marked Marked Marked Marked Marked Marked Marked Marked Marked Marked Marked Marked Marked Marked Marked Marked Marked Marked Marked Marked Marked fields.fields_of_decl fields.fields_of_expr fields.fields_of_stmt fields.fields_of_element_line fields.fields_of_field_line fields.fields_of_result_form fields.fields_of_type_expr fields.fields_of_func_decl fields.fields_of_type_spec fields.fields_of_value_spec fields.fields_of_element fields.fields_of_listed_expr fields.fields_of_block fields.fields_of_case_clause fields.fields_of_comm_clause fields.fields_of_for_stmt fields.fields_of_if_arm fields.fields_of_range_stmt fields.fields_of_stmt_line fields.fields_of_switch_stmt fields.fields_of_type_switch_stmt fields.fields_of_param fields.fields_of_params fields.fields_of_signature x)

abbrev pub roles_at_func_decl : FuncDecl-F Decl Expr Stmt ElementLine FieldLine ResultForm TypeExpr FuncDecl TypeSpec ValueSpec Element ListedExpr Block CaseClause CommClause ForStmt IfArm RangeStmt StmtLine SwitchStmt TypeSwitchStmt Param Params Signature → Bool
roles_at_func_decl x = parts.func_decl_layer (map-FuncDecl Decl Expr Stmt ElementLine FieldLine ResultForm TypeExpr FuncDecl TypeSpec ValueSpec Element ListedExpr Block CaseClause CommClause ForStmt IfArm RangeStmt StmtLine SwitchStmt TypeSwitchStmt Param Params Signature Bool Bool Bool InList InList Bool Bool Bool InList InList InList InList Bool Bool Bool Bool Bool Bool InList Bool Bool InList Bool Bool roles_of_decl roles_of_expr roles_of_stmt roles_of_element_line roles_of_field_line roles_of_result_form roles_of_type_expr roles_of_func_decl roles_of_type_spec roles_of_value_spec roles_of_element roles_of_listed_expr roles_of_block roles_of_case_clause roles_of_comm_clause roles_of_for_stmt roles_of_if_arm roles_of_range_stmt roles_of_stmt_line roles_of_switch_stmt roles_of_type_switch_stmt roles_of_param roles_of_params roles_of_signature x)

abbrev pub bare_func_decl : FuncDecl-F DeclP ExprP StmtP ElementLineP FieldLineP ResultFormP TypeExprP FuncDeclP TypeSpecP ValueSpecP ElementP ListedExprP BlockP CaseClauseP CommClauseP ForStmtP IfArmP RangeStmtP StmtLineP SwitchStmtP TypeSwitchStmtP ParamP ParamsP SignatureP → FuncDecl-F Decl Expr Stmt ElementLine FieldLine ResultForm TypeExpr FuncDecl TypeSpec ValueSpec Element ListedExpr Block CaseClause CommClause ForStmt IfArm RangeStmt StmtLine SwitchStmt TypeSwitchStmt Param Params Signature
bare_func_decl y = map-FuncDecl DeclP ExprP StmtP ElementLineP FieldLineP ResultFormP TypeExprP FuncDeclP TypeSpecP ValueSpecP ElementP ListedExprP BlockP CaseClauseP CommClauseP ForStmtP IfArmP RangeStmtP StmtLineP SwitchStmtP TypeSwitchStmtP ParamP ParamsP SignatureP Decl Expr Stmt ElementLine FieldLine ResultForm TypeExpr FuncDecl TypeSpec ValueSpec Element ListedExpr Block CaseClause CommClause ForStmt IfArm RangeStmt StmtLine SwitchStmt TypeSwitchStmt Param Params Signature (λ e. e.0) (λ e. e.0) (λ e. e.0) (λ e. e.0) (λ e. e.0) (λ e. e.0) (λ e. e.0) (λ e. e.0) (λ e. e.0) (λ e. e.0) (λ e. e.0) (λ e. e.0) (λ e. e.0) (λ e. e.0) (λ e. e.0) (λ e. e.0) (λ e. e.0) (λ e. e.0) (λ e. e.0) (λ e. e.0) (λ e. e.0) (λ e. e.0) (λ e. e.0) (λ e. e.0) y

pub put_view_func_decl : (x : FuncDecl-F Decl Expr Stmt ElementLine FieldLine ResultForm TypeExpr FuncDecl TypeSpec ValueSpec Element ListedExpr Block CaseClause CommClause ForStmt IfArm RangeStmt StmtLine SwitchStmt TypeSwitchStmt Param Params Signature) → view.view_func_decl (roll-FuncDecl x) ≡ view_at_func_decl x
unfolding view.view_decl view.view_expr view.view_stmt view.view_element_line view.view_field_line view.view_result_form view.view_type_expr view.view_func_decl view.view_type_spec view.view_value_spec view.view_element view.view_listed_expr view.view_block view.view_case_clause view.view_comm_clause view.view_for_stmt view.view_if_arm view.view_range_stmt view.view_stmt_line view.view_switch_stmt view.view_type_switch_stmt view.view_param view.view_params view.view_signature
put_view_func_decl x = fold-roll-FuncDecl Forest Forest Forest Forest Forest Forest Forest Forest Forest Forest Forest Forest Forest Forest Forest Forest Forest Forest Forest Forest Forest Forest Forest Forest view.decl_layer view.expr_layer view.stmt_layer view.element_line_layer view.field_line_layer view.result_form_layer view.type_expr_layer view.func_decl_layer view.type_spec_layer view.value_spec_layer view.element_layer view.listed_expr_layer view.block_layer view.case_clause_layer view.comm_clause_layer view.for_stmt_layer view.if_arm_layer view.range_stmt_layer view.stmt_line_layer view.switch_stmt_layer view.type_switch_stmt_layer view.param_layer view.params_layer view.signature_layer x

pub put_fields_func_decl : (x : FuncDecl-F Decl Expr Stmt ElementLine FieldLine ResultForm TypeExpr FuncDecl TypeSpec ValueSpec Element ListedExpr Block CaseClause CommClause ForStmt IfArm RangeStmt StmtLine SwitchStmt TypeSwitchStmt Param Params Signature) → fields.fields_of_func_decl (roll-FuncDecl x) ≡ fields_at_func_decl x
unfolding fields.fields_of_decl fields.fields_of_expr fields.fields_of_stmt fields.fields_of_element_line fields.fields_of_field_line fields.fields_of_result_form fields.fields_of_type_expr fields.fields_of_func_decl fields.fields_of_type_spec fields.fields_of_value_spec fields.fields_of_element fields.fields_of_listed_expr fields.fields_of_block fields.fields_of_case_clause fields.fields_of_comm_clause fields.fields_of_for_stmt fields.fields_of_if_arm fields.fields_of_range_stmt fields.fields_of_stmt_line fields.fields_of_switch_stmt fields.fields_of_type_switch_stmt fields.fields_of_param fields.fields_of_params fields.fields_of_signature
put_fields_func_decl x = fold-roll-FuncDecl Marked Marked Marked Marked Marked Marked Marked Marked Marked Marked Marked Marked Marked Marked Marked Marked Marked Marked Marked Marked Marked Marked Marked Marked fields.decl_layer fields.expr_layer fields.stmt_layer fields.element_line_layer fields.field_line_layer fields.result_form_layer fields.type_expr_layer fields.func_decl_layer fields.type_spec_layer fields.value_spec_layer fields.element_layer fields.listed_expr_layer fields.block_layer fields.case_clause_layer fields.comm_clause_layer fields.for_stmt_layer fields.if_arm_layer fields.range_stmt_layer fields.stmt_line_layer fields.switch_stmt_layer fields.type_switch_stmt_layer fields.param_layer fields.params_layer fields.signature_layer x

pub put_roles_func_decl : (x : FuncDecl-F Decl Expr Stmt ElementLine FieldLine ResultForm TypeExpr FuncDecl TypeSpec ValueSpec Element ListedExpr Block CaseClause CommClause ForStmt IfArm RangeStmt StmtLine SwitchStmt TypeSwitchStmt Param Params Signature) → roles_of_func_decl (roll-FuncDecl x) ≡ roles_at_func_decl x
unfolding roles_of_decl roles_of_expr roles_of_stmt roles_of_element_line roles_of_field_line roles_of_result_form roles_of_type_expr roles_of_func_decl roles_of_type_spec roles_of_value_spec roles_of_element roles_of_listed_expr roles_of_block roles_of_case_clause roles_of_comm_clause roles_of_for_stmt roles_of_if_arm roles_of_range_stmt roles_of_stmt_line roles_of_switch_stmt roles_of_type_switch_stmt roles_of_param roles_of_params roles_of_signature
put_roles_func_decl x = fold-roll-FuncDecl Bool Bool Bool InList InList Bool Bool Bool InList InList InList InList Bool Bool Bool Bool Bool Bool InList Bool Bool InList Bool Bool parts.decl_layer parts.expr_layer parts.stmt_layer parts.element_line_layer parts.field_line_layer parts.result_form_layer parts.type_expr_layer parts.func_decl_layer parts.type_spec_layer parts.value_spec_layer parts.element_layer parts.listed_expr_layer parts.block_layer parts.case_clause_layer parts.comm_clause_layer parts.for_stmt_layer parts.if_arm_layer parts.range_stmt_layer parts.stmt_line_layer parts.switch_stmt_layer parts.type_switch_stmt_layer parts.param_layer parts.params_layer parts.signature_layer x

abbrev pub view_at_type_spec : TypeSpec-F Decl Expr Stmt ElementLine FieldLine ResultForm TypeExpr FuncDecl TypeSpec ValueSpec Element ListedExpr Block CaseClause CommClause ForStmt IfArm RangeStmt StmtLine SwitchStmt TypeSwitchStmt Param Params Signature → Forest
view_at_type_spec x = view.type_spec_layer (map-TypeSpec Decl Expr Stmt ElementLine FieldLine ResultForm TypeExpr FuncDecl TypeSpec ValueSpec Element ListedExpr Block CaseClause CommClause ForStmt IfArm RangeStmt StmtLine SwitchStmt TypeSwitchStmt Param Params Signature Forest Forest Forest Forest Forest Forest Forest Forest Forest Forest Forest Forest Forest Forest Forest Forest Forest Forest Forest Forest Forest Forest Forest Forest view.view_decl view.view_expr view.view_stmt view.view_element_line view.view_field_line view.view_result_form view.view_type_expr view.view_func_decl view.view_type_spec view.view_value_spec view.view_element view.view_listed_expr view.view_block view.view_case_clause view.view_comm_clause view.view_for_stmt view.view_if_arm view.view_range_stmt view.view_stmt_line view.view_switch_stmt view.view_type_switch_stmt view.view_param view.view_params view.view_signature x)

abbrev pub fields_at_type_spec : TypeSpec-F Decl Expr Stmt ElementLine FieldLine ResultForm TypeExpr FuncDecl TypeSpec ValueSpec Element ListedExpr Block CaseClause CommClause ForStmt IfArm RangeStmt StmtLine SwitchStmt TypeSwitchStmt Param Params Signature → Marked
fields_at_type_spec x = fields.type_spec_layer (map-TypeSpec Decl Expr Stmt ElementLine FieldLine ResultForm TypeExpr FuncDecl TypeSpec ValueSpec Element ListedExpr Block CaseClause CommClause ForStmt IfArm RangeStmt StmtLine SwitchStmt TypeSwitchStmt Param Params Signature Marked Marked Marked Marked Marked Marked Marked Marked Marked Marked Marked Marked Marked Marked Marked Marked Marked Marked Marked Marked Marked Marked Marked Marked fields.fields_of_decl fields.fields_of_expr fields.fields_of_stmt fields.fields_of_element_line fields.fields_of_field_line fields.fields_of_result_form fields.fields_of_type_expr fields.fields_of_func_decl fields.fields_of_type_spec fields.fields_of_value_spec fields.fields_of_element fields.fields_of_listed_expr fields.fields_of_block fields.fields_of_case_clause fields.fields_of_comm_clause fields.fields_of_for_stmt fields.fields_of_if_arm fields.fields_of_range_stmt fields.fields_of_stmt_line fields.fields_of_switch_stmt fields.fields_of_type_switch_stmt fields.fields_of_param fields.fields_of_params fields.fields_of_signature x)

abbrev pub roles_at_type_spec : TypeSpec-F Decl Expr Stmt ElementLine FieldLine ResultForm TypeExpr FuncDecl TypeSpec ValueSpec Element ListedExpr Block CaseClause CommClause ForStmt IfArm RangeStmt StmtLine SwitchStmt TypeSwitchStmt Param Params Signature → InList
roles_at_type_spec x = parts.type_spec_layer (map-TypeSpec Decl Expr Stmt ElementLine FieldLine ResultForm TypeExpr FuncDecl TypeSpec ValueSpec Element ListedExpr Block CaseClause CommClause ForStmt IfArm RangeStmt StmtLine SwitchStmt TypeSwitchStmt Param Params Signature Bool Bool Bool InList InList Bool Bool Bool InList InList InList InList Bool Bool Bool Bool Bool Bool InList Bool Bool InList Bool Bool roles_of_decl roles_of_expr roles_of_stmt roles_of_element_line roles_of_field_line roles_of_result_form roles_of_type_expr roles_of_func_decl roles_of_type_spec roles_of_value_spec roles_of_element roles_of_listed_expr roles_of_block roles_of_case_clause roles_of_comm_clause roles_of_for_stmt roles_of_if_arm roles_of_range_stmt roles_of_stmt_line roles_of_switch_stmt roles_of_type_switch_stmt roles_of_param roles_of_params roles_of_signature x)

abbrev pub bare_type_spec : TypeSpec-F DeclP ExprP StmtP ElementLineP FieldLineP ResultFormP TypeExprP FuncDeclP TypeSpecP ValueSpecP ElementP ListedExprP BlockP CaseClauseP CommClauseP ForStmtP IfArmP RangeStmtP StmtLineP SwitchStmtP TypeSwitchStmtP ParamP ParamsP SignatureP → TypeSpec-F Decl Expr Stmt ElementLine FieldLine ResultForm TypeExpr FuncDecl TypeSpec ValueSpec Element ListedExpr Block CaseClause CommClause ForStmt IfArm RangeStmt StmtLine SwitchStmt TypeSwitchStmt Param Params Signature
bare_type_spec y = map-TypeSpec DeclP ExprP StmtP ElementLineP FieldLineP ResultFormP TypeExprP FuncDeclP TypeSpecP ValueSpecP ElementP ListedExprP BlockP CaseClauseP CommClauseP ForStmtP IfArmP RangeStmtP StmtLineP SwitchStmtP TypeSwitchStmtP ParamP ParamsP SignatureP Decl Expr Stmt ElementLine FieldLine ResultForm TypeExpr FuncDecl TypeSpec ValueSpec Element ListedExpr Block CaseClause CommClause ForStmt IfArm RangeStmt StmtLine SwitchStmt TypeSwitchStmt Param Params Signature (λ e. e.0) (λ e. e.0) (λ e. e.0) (λ e. e.0) (λ e. e.0) (λ e. e.0) (λ e. e.0) (λ e. e.0) (λ e. e.0) (λ e. e.0) (λ e. e.0) (λ e. e.0) (λ e. e.0) (λ e. e.0) (λ e. e.0) (λ e. e.0) (λ e. e.0) (λ e. e.0) (λ e. e.0) (λ e. e.0) (λ e. e.0) (λ e. e.0) (λ e. e.0) (λ e. e.0) y

pub put_view_type_spec : (x : TypeSpec-F Decl Expr Stmt ElementLine FieldLine ResultForm TypeExpr FuncDecl TypeSpec ValueSpec Element ListedExpr Block CaseClause CommClause ForStmt IfArm RangeStmt StmtLine SwitchStmt TypeSwitchStmt Param Params Signature) → view.view_type_spec (roll-TypeSpec x) ≡ view_at_type_spec x
unfolding view.view_decl view.view_expr view.view_stmt view.view_element_line view.view_field_line view.view_result_form view.view_type_expr view.view_func_decl view.view_type_spec view.view_value_spec view.view_element view.view_listed_expr view.view_block view.view_case_clause view.view_comm_clause view.view_for_stmt view.view_if_arm view.view_range_stmt view.view_stmt_line view.view_switch_stmt view.view_type_switch_stmt view.view_param view.view_params view.view_signature
put_view_type_spec x = fold-roll-TypeSpec Forest Forest Forest Forest Forest Forest Forest Forest Forest Forest Forest Forest Forest Forest Forest Forest Forest Forest Forest Forest Forest Forest Forest Forest view.decl_layer view.expr_layer view.stmt_layer view.element_line_layer view.field_line_layer view.result_form_layer view.type_expr_layer view.func_decl_layer view.type_spec_layer view.value_spec_layer view.element_layer view.listed_expr_layer view.block_layer view.case_clause_layer view.comm_clause_layer view.for_stmt_layer view.if_arm_layer view.range_stmt_layer view.stmt_line_layer view.switch_stmt_layer view.type_switch_stmt_layer view.param_layer view.params_layer view.signature_layer x

pub put_fields_type_spec : (x : TypeSpec-F Decl Expr Stmt ElementLine FieldLine ResultForm TypeExpr FuncDecl TypeSpec ValueSpec Element ListedExpr Block CaseClause CommClause ForStmt IfArm RangeStmt StmtLine SwitchStmt TypeSwitchStmt Param Params Signature) → fields.fields_of_type_spec (roll-TypeSpec x) ≡ fields_at_type_spec x
unfolding fields.fields_of_decl fields.fields_of_expr fields.fields_of_stmt fields.fields_of_element_line fields.fields_of_field_line fields.fields_of_result_form fields.fields_of_type_expr fields.fields_of_func_decl fields.fields_of_type_spec fields.fields_of_value_spec fields.fields_of_element fields.fields_of_listed_expr fields.fields_of_block fields.fields_of_case_clause fields.fields_of_comm_clause fields.fields_of_for_stmt fields.fields_of_if_arm fields.fields_of_range_stmt fields.fields_of_stmt_line fields.fields_of_switch_stmt fields.fields_of_type_switch_stmt fields.fields_of_param fields.fields_of_params fields.fields_of_signature
put_fields_type_spec x = fold-roll-TypeSpec Marked Marked Marked Marked Marked Marked Marked Marked Marked Marked Marked Marked Marked Marked Marked Marked Marked Marked Marked Marked Marked Marked Marked Marked fields.decl_layer fields.expr_layer fields.stmt_layer fields.element_line_layer fields.field_line_layer fields.result_form_layer fields.type_expr_layer fields.func_decl_layer fields.type_spec_layer fields.value_spec_layer fields.element_layer fields.listed_expr_layer fields.block_layer fields.case_clause_layer fields.comm_clause_layer fields.for_stmt_layer fields.if_arm_layer fields.range_stmt_layer fields.stmt_line_layer fields.switch_stmt_layer fields.type_switch_stmt_layer fields.param_layer fields.params_layer fields.signature_layer x

pub put_roles_type_spec : (x : TypeSpec-F Decl Expr Stmt ElementLine FieldLine ResultForm TypeExpr FuncDecl TypeSpec ValueSpec Element ListedExpr Block CaseClause CommClause ForStmt IfArm RangeStmt StmtLine SwitchStmt TypeSwitchStmt Param Params Signature) → roles_of_type_spec (roll-TypeSpec x) ≡ roles_at_type_spec x
unfolding roles_of_decl roles_of_expr roles_of_stmt roles_of_element_line roles_of_field_line roles_of_result_form roles_of_type_expr roles_of_func_decl roles_of_type_spec roles_of_value_spec roles_of_element roles_of_listed_expr roles_of_block roles_of_case_clause roles_of_comm_clause roles_of_for_stmt roles_of_if_arm roles_of_range_stmt roles_of_stmt_line roles_of_switch_stmt roles_of_type_switch_stmt roles_of_param roles_of_params roles_of_signature
put_roles_type_spec x = fold-roll-TypeSpec Bool Bool Bool InList InList Bool Bool Bool InList InList InList InList Bool Bool Bool Bool Bool Bool InList Bool Bool InList Bool Bool parts.decl_layer parts.expr_layer parts.stmt_layer parts.element_line_layer parts.field_line_layer parts.result_form_layer parts.type_expr_layer parts.func_decl_layer parts.type_spec_layer parts.value_spec_layer parts.element_layer parts.listed_expr_layer parts.block_layer parts.case_clause_layer parts.comm_clause_layer parts.for_stmt_layer parts.if_arm_layer parts.range_stmt_layer parts.stmt_line_layer parts.switch_stmt_layer parts.type_switch_stmt_layer parts.param_layer parts.params_layer parts.signature_layer x

abbrev pub view_at_value_spec : ValueSpec-F Decl Expr Stmt ElementLine FieldLine ResultForm TypeExpr FuncDecl TypeSpec ValueSpec Element ListedExpr Block CaseClause CommClause ForStmt IfArm RangeStmt StmtLine SwitchStmt TypeSwitchStmt Param Params Signature → Forest
view_at_value_spec x = view.value_spec_layer (map-ValueSpec Decl Expr Stmt ElementLine FieldLine ResultForm TypeExpr FuncDecl TypeSpec ValueSpec Element ListedExpr Block CaseClause CommClause ForStmt IfArm RangeStmt StmtLine SwitchStmt TypeSwitchStmt Param Params Signature Forest Forest Forest Forest Forest Forest Forest Forest Forest Forest Forest Forest Forest Forest Forest Forest Forest Forest Forest Forest Forest Forest Forest Forest view.view_decl view.view_expr view.view_stmt view.view_element_line view.view_field_line view.view_result_form view.view_type_expr view.view_func_decl view.view_type_spec view.view_value_spec view.view_element view.view_listed_expr view.view_block view.view_case_clause view.view_comm_clause view.view_for_stmt view.view_if_arm view.view_range_stmt view.view_stmt_line view.view_switch_stmt view.view_type_switch_stmt view.view_param view.view_params view.view_signature x)

abbrev pub fields_at_value_spec : ValueSpec-F Decl Expr Stmt ElementLine FieldLine ResultForm TypeExpr FuncDecl TypeSpec ValueSpec Element ListedExpr Block CaseClause CommClause ForStmt IfArm RangeStmt StmtLine SwitchStmt TypeSwitchStmt Param Params Signature → Marked
fields_at_value_spec x = fields.value_spec_layer (map-ValueSpec Decl Expr Stmt ElementLine FieldLine ResultForm TypeExpr FuncDecl TypeSpec ValueSpec Element ListedExpr Block CaseClause CommClause ForStmt IfArm RangeStmt StmtLine SwitchStmt TypeSwitchStmt Param Params Signature Marked Marked Marked Marked Marked Marked Marked Marked Marked Marked Marked Marked Marked Marked Marked Marked Marked Marked Marked Marked Marked Marked Marked Marked fields.fields_of_decl fields.fields_of_expr fields.fields_of_stmt fields.fields_of_element_line fields.fields_of_field_line fields.fields_of_result_form fields.fields_of_type_expr fields.fields_of_func_decl fields.fields_of_type_spec fields.fields_of_value_spec fields.fields_of_element fields.fields_of_listed_expr fields.fields_of_block fields.fields_of_case_clause fields.fields_of_comm_clause fields.fields_of_for_stmt fields.fields_of_if_arm fields.fields_of_range_stmt fields.fields_of_stmt_line fields.fields_of_switch_stmt fields.fields_of_type_switch_stmt fields.fields_of_param fields.fields_of_params fields.fields_of_signature x)

abbrev pub roles_at_value_spec : ValueSpec-F Decl Expr Stmt ElementLine FieldLine ResultForm TypeExpr FuncDecl TypeSpec ValueSpec Element ListedExpr Block CaseClause CommClause ForStmt IfArm RangeStmt StmtLine SwitchStmt TypeSwitchStmt Param Params Signature → InList
roles_at_value_spec x = parts.value_spec_layer (map-ValueSpec Decl Expr Stmt ElementLine FieldLine ResultForm TypeExpr FuncDecl TypeSpec ValueSpec Element ListedExpr Block CaseClause CommClause ForStmt IfArm RangeStmt StmtLine SwitchStmt TypeSwitchStmt Param Params Signature Bool Bool Bool InList InList Bool Bool Bool InList InList InList InList Bool Bool Bool Bool Bool Bool InList Bool Bool InList Bool Bool roles_of_decl roles_of_expr roles_of_stmt roles_of_element_line roles_of_field_line roles_of_result_form roles_of_type_expr roles_of_func_decl roles_of_type_spec roles_of_value_spec roles_of_element roles_of_listed_expr roles_of_block roles_of_case_clause roles_of_comm_clause roles_of_for_stmt roles_of_if_arm roles_of_range_stmt roles_of_stmt_line roles_of_switch_stmt roles_of_type_switch_stmt roles_of_param roles_of_params roles_of_signature x)

abbrev pub bare_value_spec : ValueSpec-F DeclP ExprP StmtP ElementLineP FieldLineP ResultFormP TypeExprP FuncDeclP TypeSpecP ValueSpecP ElementP ListedExprP BlockP CaseClauseP CommClauseP ForStmtP IfArmP RangeStmtP StmtLineP SwitchStmtP TypeSwitchStmtP ParamP ParamsP SignatureP → ValueSpec-F Decl Expr Stmt ElementLine FieldLine ResultForm TypeExpr FuncDecl TypeSpec ValueSpec Element ListedExpr Block CaseClause CommClause ForStmt IfArm RangeStmt StmtLine SwitchStmt TypeSwitchStmt Param Params Signature
bare_value_spec y = map-ValueSpec DeclP ExprP StmtP ElementLineP FieldLineP ResultFormP TypeExprP FuncDeclP TypeSpecP ValueSpecP ElementP ListedExprP BlockP CaseClauseP CommClauseP ForStmtP IfArmP RangeStmtP StmtLineP SwitchStmtP TypeSwitchStmtP ParamP ParamsP SignatureP Decl Expr Stmt ElementLine FieldLine ResultForm TypeExpr FuncDecl TypeSpec ValueSpec Element ListedExpr Block CaseClause CommClause ForStmt IfArm RangeStmt StmtLine SwitchStmt TypeSwitchStmt Param Params Signature (λ e. e.0) (λ e. e.0) (λ e. e.0) (λ e. e.0) (λ e. e.0) (λ e. e.0) (λ e. e.0) (λ e. e.0) (λ e. e.0) (λ e. e.0) (λ e. e.0) (λ e. e.0) (λ e. e.0) (λ e. e.0) (λ e. e.0) (λ e. e.0) (λ e. e.0) (λ e. e.0) (λ e. e.0) (λ e. e.0) (λ e. e.0) (λ e. e.0) (λ e. e.0) (λ e. e.0) y

pub put_view_value_spec : (x : ValueSpec-F Decl Expr Stmt ElementLine FieldLine ResultForm TypeExpr FuncDecl TypeSpec ValueSpec Element ListedExpr Block CaseClause CommClause ForStmt IfArm RangeStmt StmtLine SwitchStmt TypeSwitchStmt Param Params Signature) → view.view_value_spec (roll-ValueSpec x) ≡ view_at_value_spec x
unfolding view.view_decl view.view_expr view.view_stmt view.view_element_line view.view_field_line view.view_result_form view.view_type_expr view.view_func_decl view.view_type_spec view.view_value_spec view.view_element view.view_listed_expr view.view_block view.view_case_clause view.view_comm_clause view.view_for_stmt view.view_if_arm view.view_range_stmt view.view_stmt_line view.view_switch_stmt view.view_type_switch_stmt view.view_param view.view_params view.view_signature
put_view_value_spec x = fold-roll-ValueSpec Forest Forest Forest Forest Forest Forest Forest Forest Forest Forest Forest Forest Forest Forest Forest Forest Forest Forest Forest Forest Forest Forest Forest Forest view.decl_layer view.expr_layer view.stmt_layer view.element_line_layer view.field_line_layer view.result_form_layer view.type_expr_layer view.func_decl_layer view.type_spec_layer view.value_spec_layer view.element_layer view.listed_expr_layer view.block_layer view.case_clause_layer view.comm_clause_layer view.for_stmt_layer view.if_arm_layer view.range_stmt_layer view.stmt_line_layer view.switch_stmt_layer view.type_switch_stmt_layer view.param_layer view.params_layer view.signature_layer x

pub put_fields_value_spec : (x : ValueSpec-F Decl Expr Stmt ElementLine FieldLine ResultForm TypeExpr FuncDecl TypeSpec ValueSpec Element ListedExpr Block CaseClause CommClause ForStmt IfArm RangeStmt StmtLine SwitchStmt TypeSwitchStmt Param Params Signature) → fields.fields_of_value_spec (roll-ValueSpec x) ≡ fields_at_value_spec x
unfolding fields.fields_of_decl fields.fields_of_expr fields.fields_of_stmt fields.fields_of_element_line fields.fields_of_field_line fields.fields_of_result_form fields.fields_of_type_expr fields.fields_of_func_decl fields.fields_of_type_spec fields.fields_of_value_spec fields.fields_of_element fields.fields_of_listed_expr fields.fields_of_block fields.fields_of_case_clause fields.fields_of_comm_clause fields.fields_of_for_stmt fields.fields_of_if_arm fields.fields_of_range_stmt fields.fields_of_stmt_line fields.fields_of_switch_stmt fields.fields_of_type_switch_stmt fields.fields_of_param fields.fields_of_params fields.fields_of_signature
put_fields_value_spec x = fold-roll-ValueSpec Marked Marked Marked Marked Marked Marked Marked Marked Marked Marked Marked Marked Marked Marked Marked Marked Marked Marked Marked Marked Marked Marked Marked Marked fields.decl_layer fields.expr_layer fields.stmt_layer fields.element_line_layer fields.field_line_layer fields.result_form_layer fields.type_expr_layer fields.func_decl_layer fields.type_spec_layer fields.value_spec_layer fields.element_layer fields.listed_expr_layer fields.block_layer fields.case_clause_layer fields.comm_clause_layer fields.for_stmt_layer fields.if_arm_layer fields.range_stmt_layer fields.stmt_line_layer fields.switch_stmt_layer fields.type_switch_stmt_layer fields.param_layer fields.params_layer fields.signature_layer x

pub put_roles_value_spec : (x : ValueSpec-F Decl Expr Stmt ElementLine FieldLine ResultForm TypeExpr FuncDecl TypeSpec ValueSpec Element ListedExpr Block CaseClause CommClause ForStmt IfArm RangeStmt StmtLine SwitchStmt TypeSwitchStmt Param Params Signature) → roles_of_value_spec (roll-ValueSpec x) ≡ roles_at_value_spec x
unfolding roles_of_decl roles_of_expr roles_of_stmt roles_of_element_line roles_of_field_line roles_of_result_form roles_of_type_expr roles_of_func_decl roles_of_type_spec roles_of_value_spec roles_of_element roles_of_listed_expr roles_of_block roles_of_case_clause roles_of_comm_clause roles_of_for_stmt roles_of_if_arm roles_of_range_stmt roles_of_stmt_line roles_of_switch_stmt roles_of_type_switch_stmt roles_of_param roles_of_params roles_of_signature
put_roles_value_spec x = fold-roll-ValueSpec Bool Bool Bool InList InList Bool Bool Bool InList InList InList InList Bool Bool Bool Bool Bool Bool InList Bool Bool InList Bool Bool parts.decl_layer parts.expr_layer parts.stmt_layer parts.element_line_layer parts.field_line_layer parts.result_form_layer parts.type_expr_layer parts.func_decl_layer parts.type_spec_layer parts.value_spec_layer parts.element_layer parts.listed_expr_layer parts.block_layer parts.case_clause_layer parts.comm_clause_layer parts.for_stmt_layer parts.if_arm_layer parts.range_stmt_layer parts.stmt_line_layer parts.switch_stmt_layer parts.type_switch_stmt_layer parts.param_layer parts.params_layer parts.signature_layer x

abbrev pub view_at_element : Element-F Decl Expr Stmt ElementLine FieldLine ResultForm TypeExpr FuncDecl TypeSpec ValueSpec Element ListedExpr Block CaseClause CommClause ForStmt IfArm RangeStmt StmtLine SwitchStmt TypeSwitchStmt Param Params Signature → Forest
view_at_element x = view.element_layer (map-Element Decl Expr Stmt ElementLine FieldLine ResultForm TypeExpr FuncDecl TypeSpec ValueSpec Element ListedExpr Block CaseClause CommClause ForStmt IfArm RangeStmt StmtLine SwitchStmt TypeSwitchStmt Param Params Signature Forest Forest Forest Forest Forest Forest Forest Forest Forest Forest Forest Forest Forest Forest Forest Forest Forest Forest Forest Forest Forest Forest Forest Forest view.view_decl view.view_expr view.view_stmt view.view_element_line view.view_field_line view.view_result_form view.view_type_expr view.view_func_decl view.view_type_spec view.view_value_spec view.view_element view.view_listed_expr view.view_block view.view_case_clause view.view_comm_clause view.view_for_stmt view.view_if_arm view.view_range_stmt view.view_stmt_line view.view_switch_stmt view.view_type_switch_stmt view.view_param view.view_params view.view_signature x)

abbrev pub fields_at_element : Element-F Decl Expr Stmt ElementLine FieldLine ResultForm TypeExpr FuncDecl TypeSpec ValueSpec Element ListedExpr Block CaseClause CommClause ForStmt IfArm RangeStmt StmtLine SwitchStmt TypeSwitchStmt Param Params Signature → Marked
fields_at_element x = fields.element_layer (map-Element Decl Expr Stmt ElementLine FieldLine ResultForm TypeExpr FuncDecl TypeSpec ValueSpec Element ListedExpr Block CaseClause CommClause ForStmt IfArm RangeStmt StmtLine SwitchStmt TypeSwitchStmt Param Params Signature Marked Marked Marked Marked Marked Marked Marked Marked Marked Marked Marked Marked Marked Marked Marked Marked Marked Marked Marked Marked Marked Marked Marked Marked fields.fields_of_decl fields.fields_of_expr fields.fields_of_stmt fields.fields_of_element_line fields.fields_of_field_line fields.fields_of_result_form fields.fields_of_type_expr fields.fields_of_func_decl fields.fields_of_type_spec fields.fields_of_value_spec fields.fields_of_element fields.fields_of_listed_expr fields.fields_of_block fields.fields_of_case_clause fields.fields_of_comm_clause fields.fields_of_for_stmt fields.fields_of_if_arm fields.fields_of_range_stmt fields.fields_of_stmt_line fields.fields_of_switch_stmt fields.fields_of_type_switch_stmt fields.fields_of_param fields.fields_of_params fields.fields_of_signature x)

abbrev pub roles_at_element : Element-F Decl Expr Stmt ElementLine FieldLine ResultForm TypeExpr FuncDecl TypeSpec ValueSpec Element ListedExpr Block CaseClause CommClause ForStmt IfArm RangeStmt StmtLine SwitchStmt TypeSwitchStmt Param Params Signature → InList
roles_at_element x = parts.element_layer (map-Element Decl Expr Stmt ElementLine FieldLine ResultForm TypeExpr FuncDecl TypeSpec ValueSpec Element ListedExpr Block CaseClause CommClause ForStmt IfArm RangeStmt StmtLine SwitchStmt TypeSwitchStmt Param Params Signature Bool Bool Bool InList InList Bool Bool Bool InList InList InList InList Bool Bool Bool Bool Bool Bool InList Bool Bool InList Bool Bool roles_of_decl roles_of_expr roles_of_stmt roles_of_element_line roles_of_field_line roles_of_result_form roles_of_type_expr roles_of_func_decl roles_of_type_spec roles_of_value_spec roles_of_element roles_of_listed_expr roles_of_block roles_of_case_clause roles_of_comm_clause roles_of_for_stmt roles_of_if_arm roles_of_range_stmt roles_of_stmt_line roles_of_switch_stmt roles_of_type_switch_stmt roles_of_param roles_of_params roles_of_signature x)

abbrev pub bare_element : Element-F DeclP ExprP StmtP ElementLineP FieldLineP ResultFormP TypeExprP FuncDeclP TypeSpecP ValueSpecP ElementP ListedExprP BlockP CaseClauseP CommClauseP ForStmtP IfArmP RangeStmtP StmtLineP SwitchStmtP TypeSwitchStmtP ParamP ParamsP SignatureP → Element-F Decl Expr Stmt ElementLine FieldLine ResultForm TypeExpr FuncDecl TypeSpec ValueSpec Element ListedExpr Block CaseClause CommClause ForStmt IfArm RangeStmt StmtLine SwitchStmt TypeSwitchStmt Param Params Signature
bare_element y = map-Element DeclP ExprP StmtP ElementLineP FieldLineP ResultFormP TypeExprP FuncDeclP TypeSpecP ValueSpecP ElementP ListedExprP BlockP CaseClauseP CommClauseP ForStmtP IfArmP RangeStmtP StmtLineP SwitchStmtP TypeSwitchStmtP ParamP ParamsP SignatureP Decl Expr Stmt ElementLine FieldLine ResultForm TypeExpr FuncDecl TypeSpec ValueSpec Element ListedExpr Block CaseClause CommClause ForStmt IfArm RangeStmt StmtLine SwitchStmt TypeSwitchStmt Param Params Signature (λ e. e.0) (λ e. e.0) (λ e. e.0) (λ e. e.0) (λ e. e.0) (λ e. e.0) (λ e. e.0) (λ e. e.0) (λ e. e.0) (λ e. e.0) (λ e. e.0) (λ e. e.0) (λ e. e.0) (λ e. e.0) (λ e. e.0) (λ e. e.0) (λ e. e.0) (λ e. e.0) (λ e. e.0) (λ e. e.0) (λ e. e.0) (λ e. e.0) (λ e. e.0) (λ e. e.0) y

pub put_view_element : (x : Element-F Decl Expr Stmt ElementLine FieldLine ResultForm TypeExpr FuncDecl TypeSpec ValueSpec Element ListedExpr Block CaseClause CommClause ForStmt IfArm RangeStmt StmtLine SwitchStmt TypeSwitchStmt Param Params Signature) → view.view_element (roll-Element x) ≡ view_at_element x
unfolding view.view_decl view.view_expr view.view_stmt view.view_element_line view.view_field_line view.view_result_form view.view_type_expr view.view_func_decl view.view_type_spec view.view_value_spec view.view_element view.view_listed_expr view.view_block view.view_case_clause view.view_comm_clause view.view_for_stmt view.view_if_arm view.view_range_stmt view.view_stmt_line view.view_switch_stmt view.view_type_switch_stmt view.view_param view.view_params view.view_signature
put_view_element x = fold-roll-Element Forest Forest Forest Forest Forest Forest Forest Forest Forest Forest Forest Forest Forest Forest Forest Forest Forest Forest Forest Forest Forest Forest Forest Forest view.decl_layer view.expr_layer view.stmt_layer view.element_line_layer view.field_line_layer view.result_form_layer view.type_expr_layer view.func_decl_layer view.type_spec_layer view.value_spec_layer view.element_layer view.listed_expr_layer view.block_layer view.case_clause_layer view.comm_clause_layer view.for_stmt_layer view.if_arm_layer view.range_stmt_layer view.stmt_line_layer view.switch_stmt_layer view.type_switch_stmt_layer view.param_layer view.params_layer view.signature_layer x

pub put_fields_element : (x : Element-F Decl Expr Stmt ElementLine FieldLine ResultForm TypeExpr FuncDecl TypeSpec ValueSpec Element ListedExpr Block CaseClause CommClause ForStmt IfArm RangeStmt StmtLine SwitchStmt TypeSwitchStmt Param Params Signature) → fields.fields_of_element (roll-Element x) ≡ fields_at_element x
unfolding fields.fields_of_decl fields.fields_of_expr fields.fields_of_stmt fields.fields_of_element_line fields.fields_of_field_line fields.fields_of_result_form fields.fields_of_type_expr fields.fields_of_func_decl fields.fields_of_type_spec fields.fields_of_value_spec fields.fields_of_element fields.fields_of_listed_expr fields.fields_of_block fields.fields_of_case_clause fields.fields_of_comm_clause fields.fields_of_for_stmt fields.fields_of_if_arm fields.fields_of_range_stmt fields.fields_of_stmt_line fields.fields_of_switch_stmt fields.fields_of_type_switch_stmt fields.fields_of_param fields.fields_of_params fields.fields_of_signature
put_fields_element x = fold-roll-Element Marked Marked Marked Marked Marked Marked Marked Marked Marked Marked Marked Marked Marked Marked Marked Marked Marked Marked Marked Marked Marked Marked Marked Marked fields.decl_layer fields.expr_layer fields.stmt_layer fields.element_line_layer fields.field_line_layer fields.result_form_layer fields.type_expr_layer fields.func_decl_layer fields.type_spec_layer fields.value_spec_layer fields.element_layer fields.listed_expr_layer fields.block_layer fields.case_clause_layer fields.comm_clause_layer fields.for_stmt_layer fields.if_arm_layer fields.range_stmt_layer fields.stmt_line_layer fields.switch_stmt_layer fields.type_switch_stmt_layer fields.param_layer fields.params_layer fields.signature_layer x

pub put_roles_element : (x : Element-F Decl Expr Stmt ElementLine FieldLine ResultForm TypeExpr FuncDecl TypeSpec ValueSpec Element ListedExpr Block CaseClause CommClause ForStmt IfArm RangeStmt StmtLine SwitchStmt TypeSwitchStmt Param Params Signature) → roles_of_element (roll-Element x) ≡ roles_at_element x
unfolding roles_of_decl roles_of_expr roles_of_stmt roles_of_element_line roles_of_field_line roles_of_result_form roles_of_type_expr roles_of_func_decl roles_of_type_spec roles_of_value_spec roles_of_element roles_of_listed_expr roles_of_block roles_of_case_clause roles_of_comm_clause roles_of_for_stmt roles_of_if_arm roles_of_range_stmt roles_of_stmt_line roles_of_switch_stmt roles_of_type_switch_stmt roles_of_param roles_of_params roles_of_signature
put_roles_element x = fold-roll-Element Bool Bool Bool InList InList Bool Bool Bool InList InList InList InList Bool Bool Bool Bool Bool Bool InList Bool Bool InList Bool Bool parts.decl_layer parts.expr_layer parts.stmt_layer parts.element_line_layer parts.field_line_layer parts.result_form_layer parts.type_expr_layer parts.func_decl_layer parts.type_spec_layer parts.value_spec_layer parts.element_layer parts.listed_expr_layer parts.block_layer parts.case_clause_layer parts.comm_clause_layer parts.for_stmt_layer parts.if_arm_layer parts.range_stmt_layer parts.stmt_line_layer parts.switch_stmt_layer parts.type_switch_stmt_layer parts.param_layer parts.params_layer parts.signature_layer x

abbrev pub view_at_listed_expr : ListedExpr-F Decl Expr Stmt ElementLine FieldLine ResultForm TypeExpr FuncDecl TypeSpec ValueSpec Element ListedExpr Block CaseClause CommClause ForStmt IfArm RangeStmt StmtLine SwitchStmt TypeSwitchStmt Param Params Signature → Forest
view_at_listed_expr x = view.listed_expr_layer (map-ListedExpr Decl Expr Stmt ElementLine FieldLine ResultForm TypeExpr FuncDecl TypeSpec ValueSpec Element ListedExpr Block CaseClause CommClause ForStmt IfArm RangeStmt StmtLine SwitchStmt TypeSwitchStmt Param Params Signature Forest Forest Forest Forest Forest Forest Forest Forest Forest Forest Forest Forest Forest Forest Forest Forest Forest Forest Forest Forest Forest Forest Forest Forest view.view_decl view.view_expr view.view_stmt view.view_element_line view.view_field_line view.view_result_form view.view_type_expr view.view_func_decl view.view_type_spec view.view_value_spec view.view_element view.view_listed_expr view.view_block view.view_case_clause view.view_comm_clause view.view_for_stmt view.view_if_arm view.view_range_stmt view.view_stmt_line view.view_switch_stmt view.view_type_switch_stmt view.view_param view.view_params view.view_signature x)

abbrev pub fields_at_listed_expr : ListedExpr-F Decl Expr Stmt ElementLine FieldLine ResultForm TypeExpr FuncDecl TypeSpec ValueSpec Element ListedExpr Block CaseClause CommClause ForStmt IfArm RangeStmt StmtLine SwitchStmt TypeSwitchStmt Param Params Signature → Marked
fields_at_listed_expr x = fields.listed_expr_layer (map-ListedExpr Decl Expr Stmt ElementLine FieldLine ResultForm TypeExpr FuncDecl TypeSpec ValueSpec Element ListedExpr Block CaseClause CommClause ForStmt IfArm RangeStmt StmtLine SwitchStmt TypeSwitchStmt Param Params Signature Marked Marked Marked Marked Marked Marked Marked Marked Marked Marked Marked Marked Marked Marked Marked Marked Marked Marked Marked Marked Marked Marked Marked Marked fields.fields_of_decl fields.fields_of_expr fields.fields_of_stmt fields.fields_of_element_line fields.fields_of_field_line fields.fields_of_result_form fields.fields_of_type_expr fields.fields_of_func_decl fields.fields_of_type_spec fields.fields_of_value_spec fields.fields_of_element fields.fields_of_listed_expr fields.fields_of_block fields.fields_of_case_clause fields.fields_of_comm_clause fields.fields_of_for_stmt fields.fields_of_if_arm fields.fields_of_range_stmt fields.fields_of_stmt_line fields.fields_of_switch_stmt fields.fields_of_type_switch_stmt fields.fields_of_param fields.fields_of_params fields.fields_of_signature x)

abbrev pub roles_at_listed_expr : ListedExpr-F Decl Expr Stmt ElementLine FieldLine ResultForm TypeExpr FuncDecl TypeSpec ValueSpec Element ListedExpr Block CaseClause CommClause ForStmt IfArm RangeStmt StmtLine SwitchStmt TypeSwitchStmt Param Params Signature → InList
roles_at_listed_expr x = parts.listed_expr_layer (map-ListedExpr Decl Expr Stmt ElementLine FieldLine ResultForm TypeExpr FuncDecl TypeSpec ValueSpec Element ListedExpr Block CaseClause CommClause ForStmt IfArm RangeStmt StmtLine SwitchStmt TypeSwitchStmt Param Params Signature Bool Bool Bool InList InList Bool Bool Bool InList InList InList InList Bool Bool Bool Bool Bool Bool InList Bool Bool InList Bool Bool roles_of_decl roles_of_expr roles_of_stmt roles_of_element_line roles_of_field_line roles_of_result_form roles_of_type_expr roles_of_func_decl roles_of_type_spec roles_of_value_spec roles_of_element roles_of_listed_expr roles_of_block roles_of_case_clause roles_of_comm_clause roles_of_for_stmt roles_of_if_arm roles_of_range_stmt roles_of_stmt_line roles_of_switch_stmt roles_of_type_switch_stmt roles_of_param roles_of_params roles_of_signature x)

abbrev pub bare_listed_expr : ListedExpr-F DeclP ExprP StmtP ElementLineP FieldLineP ResultFormP TypeExprP FuncDeclP TypeSpecP ValueSpecP ElementP ListedExprP BlockP CaseClauseP CommClauseP ForStmtP IfArmP RangeStmtP StmtLineP SwitchStmtP TypeSwitchStmtP ParamP ParamsP SignatureP → ListedExpr-F Decl Expr Stmt ElementLine FieldLine ResultForm TypeExpr FuncDecl TypeSpec ValueSpec Element ListedExpr Block CaseClause CommClause ForStmt IfArm RangeStmt StmtLine SwitchStmt TypeSwitchStmt Param Params Signature
bare_listed_expr y = map-ListedExpr DeclP ExprP StmtP ElementLineP FieldLineP ResultFormP TypeExprP FuncDeclP TypeSpecP ValueSpecP ElementP ListedExprP BlockP CaseClauseP CommClauseP ForStmtP IfArmP RangeStmtP StmtLineP SwitchStmtP TypeSwitchStmtP ParamP ParamsP SignatureP Decl Expr Stmt ElementLine FieldLine ResultForm TypeExpr FuncDecl TypeSpec ValueSpec Element ListedExpr Block CaseClause CommClause ForStmt IfArm RangeStmt StmtLine SwitchStmt TypeSwitchStmt Param Params Signature (λ e. e.0) (λ e. e.0) (λ e. e.0) (λ e. e.0) (λ e. e.0) (λ e. e.0) (λ e. e.0) (λ e. e.0) (λ e. e.0) (λ e. e.0) (λ e. e.0) (λ e. e.0) (λ e. e.0) (λ e. e.0) (λ e. e.0) (λ e. e.0) (λ e. e.0) (λ e. e.0) (λ e. e.0) (λ e. e.0) (λ e. e.0) (λ e. e.0) (λ e. e.0) (λ e. e.0) y

pub put_view_listed_expr : (x : ListedExpr-F Decl Expr Stmt ElementLine FieldLine ResultForm TypeExpr FuncDecl TypeSpec ValueSpec Element ListedExpr Block CaseClause CommClause ForStmt IfArm RangeStmt StmtLine SwitchStmt TypeSwitchStmt Param Params Signature) → view.view_listed_expr (roll-ListedExpr x) ≡ view_at_listed_expr x
unfolding view.view_decl view.view_expr view.view_stmt view.view_element_line view.view_field_line view.view_result_form view.view_type_expr view.view_func_decl view.view_type_spec view.view_value_spec view.view_element view.view_listed_expr view.view_block view.view_case_clause view.view_comm_clause view.view_for_stmt view.view_if_arm view.view_range_stmt view.view_stmt_line view.view_switch_stmt view.view_type_switch_stmt view.view_param view.view_params view.view_signature
put_view_listed_expr x = fold-roll-ListedExpr Forest Forest Forest Forest Forest Forest Forest Forest Forest Forest Forest Forest Forest Forest Forest Forest Forest Forest Forest Forest Forest Forest Forest Forest view.decl_layer view.expr_layer view.stmt_layer view.element_line_layer view.field_line_layer view.result_form_layer view.type_expr_layer view.func_decl_layer view.type_spec_layer view.value_spec_layer view.element_layer view.listed_expr_layer view.block_layer view.case_clause_layer view.comm_clause_layer view.for_stmt_layer view.if_arm_layer view.range_stmt_layer view.stmt_line_layer view.switch_stmt_layer view.type_switch_stmt_layer view.param_layer view.params_layer view.signature_layer x

pub put_fields_listed_expr : (x : ListedExpr-F Decl Expr Stmt ElementLine FieldLine ResultForm TypeExpr FuncDecl TypeSpec ValueSpec Element ListedExpr Block CaseClause CommClause ForStmt IfArm RangeStmt StmtLine SwitchStmt TypeSwitchStmt Param Params Signature) → fields.fields_of_listed_expr (roll-ListedExpr x) ≡ fields_at_listed_expr x
unfolding fields.fields_of_decl fields.fields_of_expr fields.fields_of_stmt fields.fields_of_element_line fields.fields_of_field_line fields.fields_of_result_form fields.fields_of_type_expr fields.fields_of_func_decl fields.fields_of_type_spec fields.fields_of_value_spec fields.fields_of_element fields.fields_of_listed_expr fields.fields_of_block fields.fields_of_case_clause fields.fields_of_comm_clause fields.fields_of_for_stmt fields.fields_of_if_arm fields.fields_of_range_stmt fields.fields_of_stmt_line fields.fields_of_switch_stmt fields.fields_of_type_switch_stmt fields.fields_of_param fields.fields_of_params fields.fields_of_signature
put_fields_listed_expr x = fold-roll-ListedExpr Marked Marked Marked Marked Marked Marked Marked Marked Marked Marked Marked Marked Marked Marked Marked Marked Marked Marked Marked Marked Marked Marked Marked Marked fields.decl_layer fields.expr_layer fields.stmt_layer fields.element_line_layer fields.field_line_layer fields.result_form_layer fields.type_expr_layer fields.func_decl_layer fields.type_spec_layer fields.value_spec_layer fields.element_layer fields.listed_expr_layer fields.block_layer fields.case_clause_layer fields.comm_clause_layer fields.for_stmt_layer fields.if_arm_layer fields.range_stmt_layer fields.stmt_line_layer fields.switch_stmt_layer fields.type_switch_stmt_layer fields.param_layer fields.params_layer fields.signature_layer x

pub put_roles_listed_expr : (x : ListedExpr-F Decl Expr Stmt ElementLine FieldLine ResultForm TypeExpr FuncDecl TypeSpec ValueSpec Element ListedExpr Block CaseClause CommClause ForStmt IfArm RangeStmt StmtLine SwitchStmt TypeSwitchStmt Param Params Signature) → roles_of_listed_expr (roll-ListedExpr x) ≡ roles_at_listed_expr x
unfolding roles_of_decl roles_of_expr roles_of_stmt roles_of_element_line roles_of_field_line roles_of_result_form roles_of_type_expr roles_of_func_decl roles_of_type_spec roles_of_value_spec roles_of_element roles_of_listed_expr roles_of_block roles_of_case_clause roles_of_comm_clause roles_of_for_stmt roles_of_if_arm roles_of_range_stmt roles_of_stmt_line roles_of_switch_stmt roles_of_type_switch_stmt roles_of_param roles_of_params roles_of_signature
put_roles_listed_expr x = fold-roll-ListedExpr Bool Bool Bool InList InList Bool Bool Bool InList InList InList InList Bool Bool Bool Bool Bool Bool InList Bool Bool InList Bool Bool parts.decl_layer parts.expr_layer parts.stmt_layer parts.element_line_layer parts.field_line_layer parts.result_form_layer parts.type_expr_layer parts.func_decl_layer parts.type_spec_layer parts.value_spec_layer parts.element_layer parts.listed_expr_layer parts.block_layer parts.case_clause_layer parts.comm_clause_layer parts.for_stmt_layer parts.if_arm_layer parts.range_stmt_layer parts.stmt_line_layer parts.switch_stmt_layer parts.type_switch_stmt_layer parts.param_layer parts.params_layer parts.signature_layer x

abbrev pub view_at_block : Block-F Decl Expr Stmt ElementLine FieldLine ResultForm TypeExpr FuncDecl TypeSpec ValueSpec Element ListedExpr Block CaseClause CommClause ForStmt IfArm RangeStmt StmtLine SwitchStmt TypeSwitchStmt Param Params Signature → Forest
view_at_block x = view.block_layer (map-Block Decl Expr Stmt ElementLine FieldLine ResultForm TypeExpr FuncDecl TypeSpec ValueSpec Element ListedExpr Block CaseClause CommClause ForStmt IfArm RangeStmt StmtLine SwitchStmt TypeSwitchStmt Param Params Signature Forest Forest Forest Forest Forest Forest Forest Forest Forest Forest Forest Forest Forest Forest Forest Forest Forest Forest Forest Forest Forest Forest Forest Forest view.view_decl view.view_expr view.view_stmt view.view_element_line view.view_field_line view.view_result_form view.view_type_expr view.view_func_decl view.view_type_spec view.view_value_spec view.view_element view.view_listed_expr view.view_block view.view_case_clause view.view_comm_clause view.view_for_stmt view.view_if_arm view.view_range_stmt view.view_stmt_line view.view_switch_stmt view.view_type_switch_stmt view.view_param view.view_params view.view_signature x)

abbrev pub fields_at_block : Block-F Decl Expr Stmt ElementLine FieldLine ResultForm TypeExpr FuncDecl TypeSpec ValueSpec Element ListedExpr Block CaseClause CommClause ForStmt IfArm RangeStmt StmtLine SwitchStmt TypeSwitchStmt Param Params Signature → Marked
fields_at_block x = fields.block_layer (map-Block Decl Expr Stmt ElementLine FieldLine ResultForm TypeExpr FuncDecl TypeSpec ValueSpec Element ListedExpr Block CaseClause CommClause ForStmt IfArm RangeStmt StmtLine SwitchStmt TypeSwitchStmt Param Params Signature Marked Marked Marked Marked Marked Marked Marked Marked Marked Marked Marked Marked Marked Marked Marked Marked Marked Marked Marked Marked Marked Marked Marked Marked fields.fields_of_decl fields.fields_of_expr fields.fields_of_stmt fields.fields_of_element_line fields.fields_of_field_line fields.fields_of_result_form fields.fields_of_type_expr fields.fields_of_func_decl fields.fields_of_type_spec fields.fields_of_value_spec fields.fields_of_element fields.fields_of_listed_expr fields.fields_of_block fields.fields_of_case_clause fields.fields_of_comm_clause fields.fields_of_for_stmt fields.fields_of_if_arm fields.fields_of_range_stmt fields.fields_of_stmt_line fields.fields_of_switch_stmt fields.fields_of_type_switch_stmt fields.fields_of_param fields.fields_of_params fields.fields_of_signature x)

abbrev pub roles_at_block : Block-F Decl Expr Stmt ElementLine FieldLine ResultForm TypeExpr FuncDecl TypeSpec ValueSpec Element ListedExpr Block CaseClause CommClause ForStmt IfArm RangeStmt StmtLine SwitchStmt TypeSwitchStmt Param Params Signature → Bool
roles_at_block x = parts.block_layer (map-Block Decl Expr Stmt ElementLine FieldLine ResultForm TypeExpr FuncDecl TypeSpec ValueSpec Element ListedExpr Block CaseClause CommClause ForStmt IfArm RangeStmt StmtLine SwitchStmt TypeSwitchStmt Param Params Signature Bool Bool Bool InList InList Bool Bool Bool InList InList InList InList Bool Bool Bool Bool Bool Bool InList Bool Bool InList Bool Bool roles_of_decl roles_of_expr roles_of_stmt roles_of_element_line roles_of_field_line roles_of_result_form roles_of_type_expr roles_of_func_decl roles_of_type_spec roles_of_value_spec roles_of_element roles_of_listed_expr roles_of_block roles_of_case_clause roles_of_comm_clause roles_of_for_stmt roles_of_if_arm roles_of_range_stmt roles_of_stmt_line roles_of_switch_stmt roles_of_type_switch_stmt roles_of_param roles_of_params roles_of_signature x)

abbrev pub bare_block : Block-F DeclP ExprP StmtP ElementLineP FieldLineP ResultFormP TypeExprP FuncDeclP TypeSpecP ValueSpecP ElementP ListedExprP BlockP CaseClauseP CommClauseP ForStmtP IfArmP RangeStmtP StmtLineP SwitchStmtP TypeSwitchStmtP ParamP ParamsP SignatureP → Block-F Decl Expr Stmt ElementLine FieldLine ResultForm TypeExpr FuncDecl TypeSpec ValueSpec Element ListedExpr Block CaseClause CommClause ForStmt IfArm RangeStmt StmtLine SwitchStmt TypeSwitchStmt Param Params Signature
bare_block y = map-Block DeclP ExprP StmtP ElementLineP FieldLineP ResultFormP TypeExprP FuncDeclP TypeSpecP ValueSpecP ElementP ListedExprP BlockP CaseClauseP CommClauseP ForStmtP IfArmP RangeStmtP StmtLineP SwitchStmtP TypeSwitchStmtP ParamP ParamsP SignatureP Decl Expr Stmt ElementLine FieldLine ResultForm TypeExpr FuncDecl TypeSpec ValueSpec Element ListedExpr Block CaseClause CommClause ForStmt IfArm RangeStmt StmtLine SwitchStmt TypeSwitchStmt Param Params Signature (λ e. e.0) (λ e. e.0) (λ e. e.0) (λ e. e.0) (λ e. e.0) (λ e. e.0) (λ e. e.0) (λ e. e.0) (λ e. e.0) (λ e. e.0) (λ e. e.0) (λ e. e.0) (λ e. e.0) (λ e. e.0) (λ e. e.0) (λ e. e.0) (λ e. e.0) (λ e. e.0) (λ e. e.0) (λ e. e.0) (λ e. e.0) (λ e. e.0) (λ e. e.0) (λ e. e.0) y

pub put_view_block : (x : Block-F Decl Expr Stmt ElementLine FieldLine ResultForm TypeExpr FuncDecl TypeSpec ValueSpec Element ListedExpr Block CaseClause CommClause ForStmt IfArm RangeStmt StmtLine SwitchStmt TypeSwitchStmt Param Params Signature) → view.view_block (roll-Block x) ≡ view_at_block x
unfolding view.view_decl view.view_expr view.view_stmt view.view_element_line view.view_field_line view.view_result_form view.view_type_expr view.view_func_decl view.view_type_spec view.view_value_spec view.view_element view.view_listed_expr view.view_block view.view_case_clause view.view_comm_clause view.view_for_stmt view.view_if_arm view.view_range_stmt view.view_stmt_line view.view_switch_stmt view.view_type_switch_stmt view.view_param view.view_params view.view_signature
put_view_block x = fold-roll-Block Forest Forest Forest Forest Forest Forest Forest Forest Forest Forest Forest Forest Forest Forest Forest Forest Forest Forest Forest Forest Forest Forest Forest Forest view.decl_layer view.expr_layer view.stmt_layer view.element_line_layer view.field_line_layer view.result_form_layer view.type_expr_layer view.func_decl_layer view.type_spec_layer view.value_spec_layer view.element_layer view.listed_expr_layer view.block_layer view.case_clause_layer view.comm_clause_layer view.for_stmt_layer view.if_arm_layer view.range_stmt_layer view.stmt_line_layer view.switch_stmt_layer view.type_switch_stmt_layer view.param_layer view.params_layer view.signature_layer x

pub put_fields_block : (x : Block-F Decl Expr Stmt ElementLine FieldLine ResultForm TypeExpr FuncDecl TypeSpec ValueSpec Element ListedExpr Block CaseClause CommClause ForStmt IfArm RangeStmt StmtLine SwitchStmt TypeSwitchStmt Param Params Signature) → fields.fields_of_block (roll-Block x) ≡ fields_at_block x
unfolding fields.fields_of_decl fields.fields_of_expr fields.fields_of_stmt fields.fields_of_element_line fields.fields_of_field_line fields.fields_of_result_form fields.fields_of_type_expr fields.fields_of_func_decl fields.fields_of_type_spec fields.fields_of_value_spec fields.fields_of_element fields.fields_of_listed_expr fields.fields_of_block fields.fields_of_case_clause fields.fields_of_comm_clause fields.fields_of_for_stmt fields.fields_of_if_arm fields.fields_of_range_stmt fields.fields_of_stmt_line fields.fields_of_switch_stmt fields.fields_of_type_switch_stmt fields.fields_of_param fields.fields_of_params fields.fields_of_signature
put_fields_block x = fold-roll-Block Marked Marked Marked Marked Marked Marked Marked Marked Marked Marked Marked Marked Marked Marked Marked Marked Marked Marked Marked Marked Marked Marked Marked Marked fields.decl_layer fields.expr_layer fields.stmt_layer fields.element_line_layer fields.field_line_layer fields.result_form_layer fields.type_expr_layer fields.func_decl_layer fields.type_spec_layer fields.value_spec_layer fields.element_layer fields.listed_expr_layer fields.block_layer fields.case_clause_layer fields.comm_clause_layer fields.for_stmt_layer fields.if_arm_layer fields.range_stmt_layer fields.stmt_line_layer fields.switch_stmt_layer fields.type_switch_stmt_layer fields.param_layer fields.params_layer fields.signature_layer x

pub put_roles_block : (x : Block-F Decl Expr Stmt ElementLine FieldLine ResultForm TypeExpr FuncDecl TypeSpec ValueSpec Element ListedExpr Block CaseClause CommClause ForStmt IfArm RangeStmt StmtLine SwitchStmt TypeSwitchStmt Param Params Signature) → roles_of_block (roll-Block x) ≡ roles_at_block x
unfolding roles_of_decl roles_of_expr roles_of_stmt roles_of_element_line roles_of_field_line roles_of_result_form roles_of_type_expr roles_of_func_decl roles_of_type_spec roles_of_value_spec roles_of_element roles_of_listed_expr roles_of_block roles_of_case_clause roles_of_comm_clause roles_of_for_stmt roles_of_if_arm roles_of_range_stmt roles_of_stmt_line roles_of_switch_stmt roles_of_type_switch_stmt roles_of_param roles_of_params roles_of_signature
put_roles_block x = fold-roll-Block Bool Bool Bool InList InList Bool Bool Bool InList InList InList InList Bool Bool Bool Bool Bool Bool InList Bool Bool InList Bool Bool parts.decl_layer parts.expr_layer parts.stmt_layer parts.element_line_layer parts.field_line_layer parts.result_form_layer parts.type_expr_layer parts.func_decl_layer parts.type_spec_layer parts.value_spec_layer parts.element_layer parts.listed_expr_layer parts.block_layer parts.case_clause_layer parts.comm_clause_layer parts.for_stmt_layer parts.if_arm_layer parts.range_stmt_layer parts.stmt_line_layer parts.switch_stmt_layer parts.type_switch_stmt_layer parts.param_layer parts.params_layer parts.signature_layer x

abbrev pub view_at_case_clause : CaseClause-F Decl Expr Stmt ElementLine FieldLine ResultForm TypeExpr FuncDecl TypeSpec ValueSpec Element ListedExpr Block CaseClause CommClause ForStmt IfArm RangeStmt StmtLine SwitchStmt TypeSwitchStmt Param Params Signature → Forest
view_at_case_clause x = view.case_clause_layer (map-CaseClause Decl Expr Stmt ElementLine FieldLine ResultForm TypeExpr FuncDecl TypeSpec ValueSpec Element ListedExpr Block CaseClause CommClause ForStmt IfArm RangeStmt StmtLine SwitchStmt TypeSwitchStmt Param Params Signature Forest Forest Forest Forest Forest Forest Forest Forest Forest Forest Forest Forest Forest Forest Forest Forest Forest Forest Forest Forest Forest Forest Forest Forest view.view_decl view.view_expr view.view_stmt view.view_element_line view.view_field_line view.view_result_form view.view_type_expr view.view_func_decl view.view_type_spec view.view_value_spec view.view_element view.view_listed_expr view.view_block view.view_case_clause view.view_comm_clause view.view_for_stmt view.view_if_arm view.view_range_stmt view.view_stmt_line view.view_switch_stmt view.view_type_switch_stmt view.view_param view.view_params view.view_signature x)

abbrev pub fields_at_case_clause : CaseClause-F Decl Expr Stmt ElementLine FieldLine ResultForm TypeExpr FuncDecl TypeSpec ValueSpec Element ListedExpr Block CaseClause CommClause ForStmt IfArm RangeStmt StmtLine SwitchStmt TypeSwitchStmt Param Params Signature → Marked
fields_at_case_clause x = fields.case_clause_layer (map-CaseClause Decl Expr Stmt ElementLine FieldLine ResultForm TypeExpr FuncDecl TypeSpec ValueSpec Element ListedExpr Block CaseClause CommClause ForStmt IfArm RangeStmt StmtLine SwitchStmt TypeSwitchStmt Param Params Signature Marked Marked Marked Marked Marked Marked Marked Marked Marked Marked Marked Marked Marked Marked Marked Marked Marked Marked Marked Marked Marked Marked Marked Marked fields.fields_of_decl fields.fields_of_expr fields.fields_of_stmt fields.fields_of_element_line fields.fields_of_field_line fields.fields_of_result_form fields.fields_of_type_expr fields.fields_of_func_decl fields.fields_of_type_spec fields.fields_of_value_spec fields.fields_of_element fields.fields_of_listed_expr fields.fields_of_block fields.fields_of_case_clause fields.fields_of_comm_clause fields.fields_of_for_stmt fields.fields_of_if_arm fields.fields_of_range_stmt fields.fields_of_stmt_line fields.fields_of_switch_stmt fields.fields_of_type_switch_stmt fields.fields_of_param fields.fields_of_params fields.fields_of_signature x)

abbrev pub roles_at_case_clause : CaseClause-F Decl Expr Stmt ElementLine FieldLine ResultForm TypeExpr FuncDecl TypeSpec ValueSpec Element ListedExpr Block CaseClause CommClause ForStmt IfArm RangeStmt StmtLine SwitchStmt TypeSwitchStmt Param Params Signature → Bool
roles_at_case_clause x = parts.case_clause_layer (map-CaseClause Decl Expr Stmt ElementLine FieldLine ResultForm TypeExpr FuncDecl TypeSpec ValueSpec Element ListedExpr Block CaseClause CommClause ForStmt IfArm RangeStmt StmtLine SwitchStmt TypeSwitchStmt Param Params Signature Bool Bool Bool InList InList Bool Bool Bool InList InList InList InList Bool Bool Bool Bool Bool Bool InList Bool Bool InList Bool Bool roles_of_decl roles_of_expr roles_of_stmt roles_of_element_line roles_of_field_line roles_of_result_form roles_of_type_expr roles_of_func_decl roles_of_type_spec roles_of_value_spec roles_of_element roles_of_listed_expr roles_of_block roles_of_case_clause roles_of_comm_clause roles_of_for_stmt roles_of_if_arm roles_of_range_stmt roles_of_stmt_line roles_of_switch_stmt roles_of_type_switch_stmt roles_of_param roles_of_params roles_of_signature x)

abbrev pub bare_case_clause : CaseClause-F DeclP ExprP StmtP ElementLineP FieldLineP ResultFormP TypeExprP FuncDeclP TypeSpecP ValueSpecP ElementP ListedExprP BlockP CaseClauseP CommClauseP ForStmtP IfArmP RangeStmtP StmtLineP SwitchStmtP TypeSwitchStmtP ParamP ParamsP SignatureP → CaseClause-F Decl Expr Stmt ElementLine FieldLine ResultForm TypeExpr FuncDecl TypeSpec ValueSpec Element ListedExpr Block CaseClause CommClause ForStmt IfArm RangeStmt StmtLine SwitchStmt TypeSwitchStmt Param Params Signature
bare_case_clause y = map-CaseClause DeclP ExprP StmtP ElementLineP FieldLineP ResultFormP TypeExprP FuncDeclP TypeSpecP ValueSpecP ElementP ListedExprP BlockP CaseClauseP CommClauseP ForStmtP IfArmP RangeStmtP StmtLineP SwitchStmtP TypeSwitchStmtP ParamP ParamsP SignatureP Decl Expr Stmt ElementLine FieldLine ResultForm TypeExpr FuncDecl TypeSpec ValueSpec Element ListedExpr Block CaseClause CommClause ForStmt IfArm RangeStmt StmtLine SwitchStmt TypeSwitchStmt Param Params Signature (λ e. e.0) (λ e. e.0) (λ e. e.0) (λ e. e.0) (λ e. e.0) (λ e. e.0) (λ e. e.0) (λ e. e.0) (λ e. e.0) (λ e. e.0) (λ e. e.0) (λ e. e.0) (λ e. e.0) (λ e. e.0) (λ e. e.0) (λ e. e.0) (λ e. e.0) (λ e. e.0) (λ e. e.0) (λ e. e.0) (λ e. e.0) (λ e. e.0) (λ e. e.0) (λ e. e.0) y

pub put_view_case_clause : (x : CaseClause-F Decl Expr Stmt ElementLine FieldLine ResultForm TypeExpr FuncDecl TypeSpec ValueSpec Element ListedExpr Block CaseClause CommClause ForStmt IfArm RangeStmt StmtLine SwitchStmt TypeSwitchStmt Param Params Signature) → view.view_case_clause (roll-CaseClause x) ≡ view_at_case_clause x
unfolding view.view_decl view.view_expr view.view_stmt view.view_element_line view.view_field_line view.view_result_form view.view_type_expr view.view_func_decl view.view_type_spec view.view_value_spec view.view_element view.view_listed_expr view.view_block view.view_case_clause view.view_comm_clause view.view_for_stmt view.view_if_arm view.view_range_stmt view.view_stmt_line view.view_switch_stmt view.view_type_switch_stmt view.view_param view.view_params view.view_signature
put_view_case_clause x = fold-roll-CaseClause Forest Forest Forest Forest Forest Forest Forest Forest Forest Forest Forest Forest Forest Forest Forest Forest Forest Forest Forest Forest Forest Forest Forest Forest view.decl_layer view.expr_layer view.stmt_layer view.element_line_layer view.field_line_layer view.result_form_layer view.type_expr_layer view.func_decl_layer view.type_spec_layer view.value_spec_layer view.element_layer view.listed_expr_layer view.block_layer view.case_clause_layer view.comm_clause_layer view.for_stmt_layer view.if_arm_layer view.range_stmt_layer view.stmt_line_layer view.switch_stmt_layer view.type_switch_stmt_layer view.param_layer view.params_layer view.signature_layer x

pub put_fields_case_clause : (x : CaseClause-F Decl Expr Stmt ElementLine FieldLine ResultForm TypeExpr FuncDecl TypeSpec ValueSpec Element ListedExpr Block CaseClause CommClause ForStmt IfArm RangeStmt StmtLine SwitchStmt TypeSwitchStmt Param Params Signature) → fields.fields_of_case_clause (roll-CaseClause x) ≡ fields_at_case_clause x
unfolding fields.fields_of_decl fields.fields_of_expr fields.fields_of_stmt fields.fields_of_element_line fields.fields_of_field_line fields.fields_of_result_form fields.fields_of_type_expr fields.fields_of_func_decl fields.fields_of_type_spec fields.fields_of_value_spec fields.fields_of_element fields.fields_of_listed_expr fields.fields_of_block fields.fields_of_case_clause fields.fields_of_comm_clause fields.fields_of_for_stmt fields.fields_of_if_arm fields.fields_of_range_stmt fields.fields_of_stmt_line fields.fields_of_switch_stmt fields.fields_of_type_switch_stmt fields.fields_of_param fields.fields_of_params fields.fields_of_signature
put_fields_case_clause x = fold-roll-CaseClause Marked Marked Marked Marked Marked Marked Marked Marked Marked Marked Marked Marked Marked Marked Marked Marked Marked Marked Marked Marked Marked Marked Marked Marked fields.decl_layer fields.expr_layer fields.stmt_layer fields.element_line_layer fields.field_line_layer fields.result_form_layer fields.type_expr_layer fields.func_decl_layer fields.type_spec_layer fields.value_spec_layer fields.element_layer fields.listed_expr_layer fields.block_layer fields.case_clause_layer fields.comm_clause_layer fields.for_stmt_layer fields.if_arm_layer fields.range_stmt_layer fields.stmt_line_layer fields.switch_stmt_layer fields.type_switch_stmt_layer fields.param_layer fields.params_layer fields.signature_layer x

pub put_roles_case_clause : (x : CaseClause-F Decl Expr Stmt ElementLine FieldLine ResultForm TypeExpr FuncDecl TypeSpec ValueSpec Element ListedExpr Block CaseClause CommClause ForStmt IfArm RangeStmt StmtLine SwitchStmt TypeSwitchStmt Param Params Signature) → roles_of_case_clause (roll-CaseClause x) ≡ roles_at_case_clause x
unfolding roles_of_decl roles_of_expr roles_of_stmt roles_of_element_line roles_of_field_line roles_of_result_form roles_of_type_expr roles_of_func_decl roles_of_type_spec roles_of_value_spec roles_of_element roles_of_listed_expr roles_of_block roles_of_case_clause roles_of_comm_clause roles_of_for_stmt roles_of_if_arm roles_of_range_stmt roles_of_stmt_line roles_of_switch_stmt roles_of_type_switch_stmt roles_of_param roles_of_params roles_of_signature
put_roles_case_clause x = fold-roll-CaseClause Bool Bool Bool InList InList Bool Bool Bool InList InList InList InList Bool Bool Bool Bool Bool Bool InList Bool Bool InList Bool Bool parts.decl_layer parts.expr_layer parts.stmt_layer parts.element_line_layer parts.field_line_layer parts.result_form_layer parts.type_expr_layer parts.func_decl_layer parts.type_spec_layer parts.value_spec_layer parts.element_layer parts.listed_expr_layer parts.block_layer parts.case_clause_layer parts.comm_clause_layer parts.for_stmt_layer parts.if_arm_layer parts.range_stmt_layer parts.stmt_line_layer parts.switch_stmt_layer parts.type_switch_stmt_layer parts.param_layer parts.params_layer parts.signature_layer x

abbrev pub view_at_comm_clause : CommClause-F Decl Expr Stmt ElementLine FieldLine ResultForm TypeExpr FuncDecl TypeSpec ValueSpec Element ListedExpr Block CaseClause CommClause ForStmt IfArm RangeStmt StmtLine SwitchStmt TypeSwitchStmt Param Params Signature → Forest
view_at_comm_clause x = view.comm_clause_layer (map-CommClause Decl Expr Stmt ElementLine FieldLine ResultForm TypeExpr FuncDecl TypeSpec ValueSpec Element ListedExpr Block CaseClause CommClause ForStmt IfArm RangeStmt StmtLine SwitchStmt TypeSwitchStmt Param Params Signature Forest Forest Forest Forest Forest Forest Forest Forest Forest Forest Forest Forest Forest Forest Forest Forest Forest Forest Forest Forest Forest Forest Forest Forest view.view_decl view.view_expr view.view_stmt view.view_element_line view.view_field_line view.view_result_form view.view_type_expr view.view_func_decl view.view_type_spec view.view_value_spec view.view_element view.view_listed_expr view.view_block view.view_case_clause view.view_comm_clause view.view_for_stmt view.view_if_arm view.view_range_stmt view.view_stmt_line view.view_switch_stmt view.view_type_switch_stmt view.view_param view.view_params view.view_signature x)

abbrev pub fields_at_comm_clause : CommClause-F Decl Expr Stmt ElementLine FieldLine ResultForm TypeExpr FuncDecl TypeSpec ValueSpec Element ListedExpr Block CaseClause CommClause ForStmt IfArm RangeStmt StmtLine SwitchStmt TypeSwitchStmt Param Params Signature → Marked
fields_at_comm_clause x = fields.comm_clause_layer (map-CommClause Decl Expr Stmt ElementLine FieldLine ResultForm TypeExpr FuncDecl TypeSpec ValueSpec Element ListedExpr Block CaseClause CommClause ForStmt IfArm RangeStmt StmtLine SwitchStmt TypeSwitchStmt Param Params Signature Marked Marked Marked Marked Marked Marked Marked Marked Marked Marked Marked Marked Marked Marked Marked Marked Marked Marked Marked Marked Marked Marked Marked Marked fields.fields_of_decl fields.fields_of_expr fields.fields_of_stmt fields.fields_of_element_line fields.fields_of_field_line fields.fields_of_result_form fields.fields_of_type_expr fields.fields_of_func_decl fields.fields_of_type_spec fields.fields_of_value_spec fields.fields_of_element fields.fields_of_listed_expr fields.fields_of_block fields.fields_of_case_clause fields.fields_of_comm_clause fields.fields_of_for_stmt fields.fields_of_if_arm fields.fields_of_range_stmt fields.fields_of_stmt_line fields.fields_of_switch_stmt fields.fields_of_type_switch_stmt fields.fields_of_param fields.fields_of_params fields.fields_of_signature x)

abbrev pub roles_at_comm_clause : CommClause-F Decl Expr Stmt ElementLine FieldLine ResultForm TypeExpr FuncDecl TypeSpec ValueSpec Element ListedExpr Block CaseClause CommClause ForStmt IfArm RangeStmt StmtLine SwitchStmt TypeSwitchStmt Param Params Signature → Bool
roles_at_comm_clause x = parts.comm_clause_layer (map-CommClause Decl Expr Stmt ElementLine FieldLine ResultForm TypeExpr FuncDecl TypeSpec ValueSpec Element ListedExpr Block CaseClause CommClause ForStmt IfArm RangeStmt StmtLine SwitchStmt TypeSwitchStmt Param Params Signature Bool Bool Bool InList InList Bool Bool Bool InList InList InList InList Bool Bool Bool Bool Bool Bool InList Bool Bool InList Bool Bool roles_of_decl roles_of_expr roles_of_stmt roles_of_element_line roles_of_field_line roles_of_result_form roles_of_type_expr roles_of_func_decl roles_of_type_spec roles_of_value_spec roles_of_element roles_of_listed_expr roles_of_block roles_of_case_clause roles_of_comm_clause roles_of_for_stmt roles_of_if_arm roles_of_range_stmt roles_of_stmt_line roles_of_switch_stmt roles_of_type_switch_stmt roles_of_param roles_of_params roles_of_signature x)

abbrev pub bare_comm_clause : CommClause-F DeclP ExprP StmtP ElementLineP FieldLineP ResultFormP TypeExprP FuncDeclP TypeSpecP ValueSpecP ElementP ListedExprP BlockP CaseClauseP CommClauseP ForStmtP IfArmP RangeStmtP StmtLineP SwitchStmtP TypeSwitchStmtP ParamP ParamsP SignatureP → CommClause-F Decl Expr Stmt ElementLine FieldLine ResultForm TypeExpr FuncDecl TypeSpec ValueSpec Element ListedExpr Block CaseClause CommClause ForStmt IfArm RangeStmt StmtLine SwitchStmt TypeSwitchStmt Param Params Signature
bare_comm_clause y = map-CommClause DeclP ExprP StmtP ElementLineP FieldLineP ResultFormP TypeExprP FuncDeclP TypeSpecP ValueSpecP ElementP ListedExprP BlockP CaseClauseP CommClauseP ForStmtP IfArmP RangeStmtP StmtLineP SwitchStmtP TypeSwitchStmtP ParamP ParamsP SignatureP Decl Expr Stmt ElementLine FieldLine ResultForm TypeExpr FuncDecl TypeSpec ValueSpec Element ListedExpr Block CaseClause CommClause ForStmt IfArm RangeStmt StmtLine SwitchStmt TypeSwitchStmt Param Params Signature (λ e. e.0) (λ e. e.0) (λ e. e.0) (λ e. e.0) (λ e. e.0) (λ e. e.0) (λ e. e.0) (λ e. e.0) (λ e. e.0) (λ e. e.0) (λ e. e.0) (λ e. e.0) (λ e. e.0) (λ e. e.0) (λ e. e.0) (λ e. e.0) (λ e. e.0) (λ e. e.0) (λ e. e.0) (λ e. e.0) (λ e. e.0) (λ e. e.0) (λ e. e.0) (λ e. e.0) y

pub put_view_comm_clause : (x : CommClause-F Decl Expr Stmt ElementLine FieldLine ResultForm TypeExpr FuncDecl TypeSpec ValueSpec Element ListedExpr Block CaseClause CommClause ForStmt IfArm RangeStmt StmtLine SwitchStmt TypeSwitchStmt Param Params Signature) → view.view_comm_clause (roll-CommClause x) ≡ view_at_comm_clause x
unfolding view.view_decl view.view_expr view.view_stmt view.view_element_line view.view_field_line view.view_result_form view.view_type_expr view.view_func_decl view.view_type_spec view.view_value_spec view.view_element view.view_listed_expr view.view_block view.view_case_clause view.view_comm_clause view.view_for_stmt view.view_if_arm view.view_range_stmt view.view_stmt_line view.view_switch_stmt view.view_type_switch_stmt view.view_param view.view_params view.view_signature
put_view_comm_clause x = fold-roll-CommClause Forest Forest Forest Forest Forest Forest Forest Forest Forest Forest Forest Forest Forest Forest Forest Forest Forest Forest Forest Forest Forest Forest Forest Forest view.decl_layer view.expr_layer view.stmt_layer view.element_line_layer view.field_line_layer view.result_form_layer view.type_expr_layer view.func_decl_layer view.type_spec_layer view.value_spec_layer view.element_layer view.listed_expr_layer view.block_layer view.case_clause_layer view.comm_clause_layer view.for_stmt_layer view.if_arm_layer view.range_stmt_layer view.stmt_line_layer view.switch_stmt_layer view.type_switch_stmt_layer view.param_layer view.params_layer view.signature_layer x

pub put_fields_comm_clause : (x : CommClause-F Decl Expr Stmt ElementLine FieldLine ResultForm TypeExpr FuncDecl TypeSpec ValueSpec Element ListedExpr Block CaseClause CommClause ForStmt IfArm RangeStmt StmtLine SwitchStmt TypeSwitchStmt Param Params Signature) → fields.fields_of_comm_clause (roll-CommClause x) ≡ fields_at_comm_clause x
unfolding fields.fields_of_decl fields.fields_of_expr fields.fields_of_stmt fields.fields_of_element_line fields.fields_of_field_line fields.fields_of_result_form fields.fields_of_type_expr fields.fields_of_func_decl fields.fields_of_type_spec fields.fields_of_value_spec fields.fields_of_element fields.fields_of_listed_expr fields.fields_of_block fields.fields_of_case_clause fields.fields_of_comm_clause fields.fields_of_for_stmt fields.fields_of_if_arm fields.fields_of_range_stmt fields.fields_of_stmt_line fields.fields_of_switch_stmt fields.fields_of_type_switch_stmt fields.fields_of_param fields.fields_of_params fields.fields_of_signature
put_fields_comm_clause x = fold-roll-CommClause Marked Marked Marked Marked Marked Marked Marked Marked Marked Marked Marked Marked Marked Marked Marked Marked Marked Marked Marked Marked Marked Marked Marked Marked fields.decl_layer fields.expr_layer fields.stmt_layer fields.element_line_layer fields.field_line_layer fields.result_form_layer fields.type_expr_layer fields.func_decl_layer fields.type_spec_layer fields.value_spec_layer fields.element_layer fields.listed_expr_layer fields.block_layer fields.case_clause_layer fields.comm_clause_layer fields.for_stmt_layer fields.if_arm_layer fields.range_stmt_layer fields.stmt_line_layer fields.switch_stmt_layer fields.type_switch_stmt_layer fields.param_layer fields.params_layer fields.signature_layer x

pub put_roles_comm_clause : (x : CommClause-F Decl Expr Stmt ElementLine FieldLine ResultForm TypeExpr FuncDecl TypeSpec ValueSpec Element ListedExpr Block CaseClause CommClause ForStmt IfArm RangeStmt StmtLine SwitchStmt TypeSwitchStmt Param Params Signature) → roles_of_comm_clause (roll-CommClause x) ≡ roles_at_comm_clause x
unfolding roles_of_decl roles_of_expr roles_of_stmt roles_of_element_line roles_of_field_line roles_of_result_form roles_of_type_expr roles_of_func_decl roles_of_type_spec roles_of_value_spec roles_of_element roles_of_listed_expr roles_of_block roles_of_case_clause roles_of_comm_clause roles_of_for_stmt roles_of_if_arm roles_of_range_stmt roles_of_stmt_line roles_of_switch_stmt roles_of_type_switch_stmt roles_of_param roles_of_params roles_of_signature
put_roles_comm_clause x = fold-roll-CommClause Bool Bool Bool InList InList Bool Bool Bool InList InList InList InList Bool Bool Bool Bool Bool Bool InList Bool Bool InList Bool Bool parts.decl_layer parts.expr_layer parts.stmt_layer parts.element_line_layer parts.field_line_layer parts.result_form_layer parts.type_expr_layer parts.func_decl_layer parts.type_spec_layer parts.value_spec_layer parts.element_layer parts.listed_expr_layer parts.block_layer parts.case_clause_layer parts.comm_clause_layer parts.for_stmt_layer parts.if_arm_layer parts.range_stmt_layer parts.stmt_line_layer parts.switch_stmt_layer parts.type_switch_stmt_layer parts.param_layer parts.params_layer parts.signature_layer x

abbrev pub view_at_for_stmt : ForStmt-F Decl Expr Stmt ElementLine FieldLine ResultForm TypeExpr FuncDecl TypeSpec ValueSpec Element ListedExpr Block CaseClause CommClause ForStmt IfArm RangeStmt StmtLine SwitchStmt TypeSwitchStmt Param Params Signature → Forest
view_at_for_stmt x = view.for_stmt_layer (map-ForStmt Decl Expr Stmt ElementLine FieldLine ResultForm TypeExpr FuncDecl TypeSpec ValueSpec Element ListedExpr Block CaseClause CommClause ForStmt IfArm RangeStmt StmtLine SwitchStmt TypeSwitchStmt Param Params Signature Forest Forest Forest Forest Forest Forest Forest Forest Forest Forest Forest Forest Forest Forest Forest Forest Forest Forest Forest Forest Forest Forest Forest Forest view.view_decl view.view_expr view.view_stmt view.view_element_line view.view_field_line view.view_result_form view.view_type_expr view.view_func_decl view.view_type_spec view.view_value_spec view.view_element view.view_listed_expr view.view_block view.view_case_clause view.view_comm_clause view.view_for_stmt view.view_if_arm view.view_range_stmt view.view_stmt_line view.view_switch_stmt view.view_type_switch_stmt view.view_param view.view_params view.view_signature x)

abbrev pub fields_at_for_stmt : ForStmt-F Decl Expr Stmt ElementLine FieldLine ResultForm TypeExpr FuncDecl TypeSpec ValueSpec Element ListedExpr Block CaseClause CommClause ForStmt IfArm RangeStmt StmtLine SwitchStmt TypeSwitchStmt Param Params Signature → Marked
fields_at_for_stmt x = fields.for_stmt_layer (map-ForStmt Decl Expr Stmt ElementLine FieldLine ResultForm TypeExpr FuncDecl TypeSpec ValueSpec Element ListedExpr Block CaseClause CommClause ForStmt IfArm RangeStmt StmtLine SwitchStmt TypeSwitchStmt Param Params Signature Marked Marked Marked Marked Marked Marked Marked Marked Marked Marked Marked Marked Marked Marked Marked Marked Marked Marked Marked Marked Marked Marked Marked Marked fields.fields_of_decl fields.fields_of_expr fields.fields_of_stmt fields.fields_of_element_line fields.fields_of_field_line fields.fields_of_result_form fields.fields_of_type_expr fields.fields_of_func_decl fields.fields_of_type_spec fields.fields_of_value_spec fields.fields_of_element fields.fields_of_listed_expr fields.fields_of_block fields.fields_of_case_clause fields.fields_of_comm_clause fields.fields_of_for_stmt fields.fields_of_if_arm fields.fields_of_range_stmt fields.fields_of_stmt_line fields.fields_of_switch_stmt fields.fields_of_type_switch_stmt fields.fields_of_param fields.fields_of_params fields.fields_of_signature x)

abbrev pub roles_at_for_stmt : ForStmt-F Decl Expr Stmt ElementLine FieldLine ResultForm TypeExpr FuncDecl TypeSpec ValueSpec Element ListedExpr Block CaseClause CommClause ForStmt IfArm RangeStmt StmtLine SwitchStmt TypeSwitchStmt Param Params Signature → Bool
roles_at_for_stmt x = parts.for_stmt_layer (map-ForStmt Decl Expr Stmt ElementLine FieldLine ResultForm TypeExpr FuncDecl TypeSpec ValueSpec Element ListedExpr Block CaseClause CommClause ForStmt IfArm RangeStmt StmtLine SwitchStmt TypeSwitchStmt Param Params Signature Bool Bool Bool InList InList Bool Bool Bool InList InList InList InList Bool Bool Bool Bool Bool Bool InList Bool Bool InList Bool Bool roles_of_decl roles_of_expr roles_of_stmt roles_of_element_line roles_of_field_line roles_of_result_form roles_of_type_expr roles_of_func_decl roles_of_type_spec roles_of_value_spec roles_of_element roles_of_listed_expr roles_of_block roles_of_case_clause roles_of_comm_clause roles_of_for_stmt roles_of_if_arm roles_of_range_stmt roles_of_stmt_line roles_of_switch_stmt roles_of_type_switch_stmt roles_of_param roles_of_params roles_of_signature x)

abbrev pub bare_for_stmt : ForStmt-F DeclP ExprP StmtP ElementLineP FieldLineP ResultFormP TypeExprP FuncDeclP TypeSpecP ValueSpecP ElementP ListedExprP BlockP CaseClauseP CommClauseP ForStmtP IfArmP RangeStmtP StmtLineP SwitchStmtP TypeSwitchStmtP ParamP ParamsP SignatureP → ForStmt-F Decl Expr Stmt ElementLine FieldLine ResultForm TypeExpr FuncDecl TypeSpec ValueSpec Element ListedExpr Block CaseClause CommClause ForStmt IfArm RangeStmt StmtLine SwitchStmt TypeSwitchStmt Param Params Signature
bare_for_stmt y = map-ForStmt DeclP ExprP StmtP ElementLineP FieldLineP ResultFormP TypeExprP FuncDeclP TypeSpecP ValueSpecP ElementP ListedExprP BlockP CaseClauseP CommClauseP ForStmtP IfArmP RangeStmtP StmtLineP SwitchStmtP TypeSwitchStmtP ParamP ParamsP SignatureP Decl Expr Stmt ElementLine FieldLine ResultForm TypeExpr FuncDecl TypeSpec ValueSpec Element ListedExpr Block CaseClause CommClause ForStmt IfArm RangeStmt StmtLine SwitchStmt TypeSwitchStmt Param Params Signature (λ e. e.0) (λ e. e.0) (λ e. e.0) (λ e. e.0) (λ e. e.0) (λ e. e.0) (λ e. e.0) (λ e. e.0) (λ e. e.0) (λ e. e.0) (λ e. e.0) (λ e. e.0) (λ e. e.0) (λ e. e.0) (λ e. e.0) (λ e. e.0) (λ e. e.0) (λ e. e.0) (λ e. e.0) (λ e. e.0) (λ e. e.0) (λ e. e.0) (λ e. e.0) (λ e. e.0) y

pub put_view_for_stmt : (x : ForStmt-F Decl Expr Stmt ElementLine FieldLine ResultForm TypeExpr FuncDecl TypeSpec ValueSpec Element ListedExpr Block CaseClause CommClause ForStmt IfArm RangeStmt StmtLine SwitchStmt TypeSwitchStmt Param Params Signature) → view.view_for_stmt (roll-ForStmt x) ≡ view_at_for_stmt x
unfolding view.view_decl view.view_expr view.view_stmt view.view_element_line view.view_field_line view.view_result_form view.view_type_expr view.view_func_decl view.view_type_spec view.view_value_spec view.view_element view.view_listed_expr view.view_block view.view_case_clause view.view_comm_clause view.view_for_stmt view.view_if_arm view.view_range_stmt view.view_stmt_line view.view_switch_stmt view.view_type_switch_stmt view.view_param view.view_params view.view_signature
put_view_for_stmt x = fold-roll-ForStmt Forest Forest Forest Forest Forest Forest Forest Forest Forest Forest Forest Forest Forest Forest Forest Forest Forest Forest Forest Forest Forest Forest Forest Forest view.decl_layer view.expr_layer view.stmt_layer view.element_line_layer view.field_line_layer view.result_form_layer view.type_expr_layer view.func_decl_layer view.type_spec_layer view.value_spec_layer view.element_layer view.listed_expr_layer view.block_layer view.case_clause_layer view.comm_clause_layer view.for_stmt_layer view.if_arm_layer view.range_stmt_layer view.stmt_line_layer view.switch_stmt_layer view.type_switch_stmt_layer view.param_layer view.params_layer view.signature_layer x

pub put_fields_for_stmt : (x : ForStmt-F Decl Expr Stmt ElementLine FieldLine ResultForm TypeExpr FuncDecl TypeSpec ValueSpec Element ListedExpr Block CaseClause CommClause ForStmt IfArm RangeStmt StmtLine SwitchStmt TypeSwitchStmt Param Params Signature) → fields.fields_of_for_stmt (roll-ForStmt x) ≡ fields_at_for_stmt x
unfolding fields.fields_of_decl fields.fields_of_expr fields.fields_of_stmt fields.fields_of_element_line fields.fields_of_field_line fields.fields_of_result_form fields.fields_of_type_expr fields.fields_of_func_decl fields.fields_of_type_spec fields.fields_of_value_spec fields.fields_of_element fields.fields_of_listed_expr fields.fields_of_block fields.fields_of_case_clause fields.fields_of_comm_clause fields.fields_of_for_stmt fields.fields_of_if_arm fields.fields_of_range_stmt fields.fields_of_stmt_line fields.fields_of_switch_stmt fields.fields_of_type_switch_stmt fields.fields_of_param fields.fields_of_params fields.fields_of_signature
put_fields_for_stmt x = fold-roll-ForStmt Marked Marked Marked Marked Marked Marked Marked Marked Marked Marked Marked Marked Marked Marked Marked Marked Marked Marked Marked Marked Marked Marked Marked Marked fields.decl_layer fields.expr_layer fields.stmt_layer fields.element_line_layer fields.field_line_layer fields.result_form_layer fields.type_expr_layer fields.func_decl_layer fields.type_spec_layer fields.value_spec_layer fields.element_layer fields.listed_expr_layer fields.block_layer fields.case_clause_layer fields.comm_clause_layer fields.for_stmt_layer fields.if_arm_layer fields.range_stmt_layer fields.stmt_line_layer fields.switch_stmt_layer fields.type_switch_stmt_layer fields.param_layer fields.params_layer fields.signature_layer x

pub put_roles_for_stmt : (x : ForStmt-F Decl Expr Stmt ElementLine FieldLine ResultForm TypeExpr FuncDecl TypeSpec ValueSpec Element ListedExpr Block CaseClause CommClause ForStmt IfArm RangeStmt StmtLine SwitchStmt TypeSwitchStmt Param Params Signature) → roles_of_for_stmt (roll-ForStmt x) ≡ roles_at_for_stmt x
unfolding roles_of_decl roles_of_expr roles_of_stmt roles_of_element_line roles_of_field_line roles_of_result_form roles_of_type_expr roles_of_func_decl roles_of_type_spec roles_of_value_spec roles_of_element roles_of_listed_expr roles_of_block roles_of_case_clause roles_of_comm_clause roles_of_for_stmt roles_of_if_arm roles_of_range_stmt roles_of_stmt_line roles_of_switch_stmt roles_of_type_switch_stmt roles_of_param roles_of_params roles_of_signature
put_roles_for_stmt x = fold-roll-ForStmt Bool Bool Bool InList InList Bool Bool Bool InList InList InList InList Bool Bool Bool Bool Bool Bool InList Bool Bool InList Bool Bool parts.decl_layer parts.expr_layer parts.stmt_layer parts.element_line_layer parts.field_line_layer parts.result_form_layer parts.type_expr_layer parts.func_decl_layer parts.type_spec_layer parts.value_spec_layer parts.element_layer parts.listed_expr_layer parts.block_layer parts.case_clause_layer parts.comm_clause_layer parts.for_stmt_layer parts.if_arm_layer parts.range_stmt_layer parts.stmt_line_layer parts.switch_stmt_layer parts.type_switch_stmt_layer parts.param_layer parts.params_layer parts.signature_layer x

abbrev pub view_at_if_arm : IfArm-F Decl Expr Stmt ElementLine FieldLine ResultForm TypeExpr FuncDecl TypeSpec ValueSpec Element ListedExpr Block CaseClause CommClause ForStmt IfArm RangeStmt StmtLine SwitchStmt TypeSwitchStmt Param Params Signature → Forest
view_at_if_arm x = view.if_arm_layer (map-IfArm Decl Expr Stmt ElementLine FieldLine ResultForm TypeExpr FuncDecl TypeSpec ValueSpec Element ListedExpr Block CaseClause CommClause ForStmt IfArm RangeStmt StmtLine SwitchStmt TypeSwitchStmt Param Params Signature Forest Forest Forest Forest Forest Forest Forest Forest Forest Forest Forest Forest Forest Forest Forest Forest Forest Forest Forest Forest Forest Forest Forest Forest view.view_decl view.view_expr view.view_stmt view.view_element_line view.view_field_line view.view_result_form view.view_type_expr view.view_func_decl view.view_type_spec view.view_value_spec view.view_element view.view_listed_expr view.view_block view.view_case_clause view.view_comm_clause view.view_for_stmt view.view_if_arm view.view_range_stmt view.view_stmt_line view.view_switch_stmt view.view_type_switch_stmt view.view_param view.view_params view.view_signature x)

abbrev pub fields_at_if_arm : IfArm-F Decl Expr Stmt ElementLine FieldLine ResultForm TypeExpr FuncDecl TypeSpec ValueSpec Element ListedExpr Block CaseClause CommClause ForStmt IfArm RangeStmt StmtLine SwitchStmt TypeSwitchStmt Param Params Signature → Marked
fields_at_if_arm x = fields.if_arm_layer (map-IfArm Decl Expr Stmt ElementLine FieldLine ResultForm TypeExpr FuncDecl TypeSpec ValueSpec Element ListedExpr Block CaseClause CommClause ForStmt IfArm RangeStmt StmtLine SwitchStmt TypeSwitchStmt Param Params Signature Marked Marked Marked Marked Marked Marked Marked Marked Marked Marked Marked Marked Marked Marked Marked Marked Marked Marked Marked Marked Marked Marked Marked Marked fields.fields_of_decl fields.fields_of_expr fields.fields_of_stmt fields.fields_of_element_line fields.fields_of_field_line fields.fields_of_result_form fields.fields_of_type_expr fields.fields_of_func_decl fields.fields_of_type_spec fields.fields_of_value_spec fields.fields_of_element fields.fields_of_listed_expr fields.fields_of_block fields.fields_of_case_clause fields.fields_of_comm_clause fields.fields_of_for_stmt fields.fields_of_if_arm fields.fields_of_range_stmt fields.fields_of_stmt_line fields.fields_of_switch_stmt fields.fields_of_type_switch_stmt fields.fields_of_param fields.fields_of_params fields.fields_of_signature x)

abbrev pub roles_at_if_arm : IfArm-F Decl Expr Stmt ElementLine FieldLine ResultForm TypeExpr FuncDecl TypeSpec ValueSpec Element ListedExpr Block CaseClause CommClause ForStmt IfArm RangeStmt StmtLine SwitchStmt TypeSwitchStmt Param Params Signature → Bool
roles_at_if_arm x = parts.if_arm_layer (map-IfArm Decl Expr Stmt ElementLine FieldLine ResultForm TypeExpr FuncDecl TypeSpec ValueSpec Element ListedExpr Block CaseClause CommClause ForStmt IfArm RangeStmt StmtLine SwitchStmt TypeSwitchStmt Param Params Signature Bool Bool Bool InList InList Bool Bool Bool InList InList InList InList Bool Bool Bool Bool Bool Bool InList Bool Bool InList Bool Bool roles_of_decl roles_of_expr roles_of_stmt roles_of_element_line roles_of_field_line roles_of_result_form roles_of_type_expr roles_of_func_decl roles_of_type_spec roles_of_value_spec roles_of_element roles_of_listed_expr roles_of_block roles_of_case_clause roles_of_comm_clause roles_of_for_stmt roles_of_if_arm roles_of_range_stmt roles_of_stmt_line roles_of_switch_stmt roles_of_type_switch_stmt roles_of_param roles_of_params roles_of_signature x)

abbrev pub bare_if_arm : IfArm-F DeclP ExprP StmtP ElementLineP FieldLineP ResultFormP TypeExprP FuncDeclP TypeSpecP ValueSpecP ElementP ListedExprP BlockP CaseClauseP CommClauseP ForStmtP IfArmP RangeStmtP StmtLineP SwitchStmtP TypeSwitchStmtP ParamP ParamsP SignatureP → IfArm-F Decl Expr Stmt ElementLine FieldLine ResultForm TypeExpr FuncDecl TypeSpec ValueSpec Element ListedExpr Block CaseClause CommClause ForStmt IfArm RangeStmt StmtLine SwitchStmt TypeSwitchStmt Param Params Signature
bare_if_arm y = map-IfArm DeclP ExprP StmtP ElementLineP FieldLineP ResultFormP TypeExprP FuncDeclP TypeSpecP ValueSpecP ElementP ListedExprP BlockP CaseClauseP CommClauseP ForStmtP IfArmP RangeStmtP StmtLineP SwitchStmtP TypeSwitchStmtP ParamP ParamsP SignatureP Decl Expr Stmt ElementLine FieldLine ResultForm TypeExpr FuncDecl TypeSpec ValueSpec Element ListedExpr Block CaseClause CommClause ForStmt IfArm RangeStmt StmtLine SwitchStmt TypeSwitchStmt Param Params Signature (λ e. e.0) (λ e. e.0) (λ e. e.0) (λ e. e.0) (λ e. e.0) (λ e. e.0) (λ e. e.0) (λ e. e.0) (λ e. e.0) (λ e. e.0) (λ e. e.0) (λ e. e.0) (λ e. e.0) (λ e. e.0) (λ e. e.0) (λ e. e.0) (λ e. e.0) (λ e. e.0) (λ e. e.0) (λ e. e.0) (λ e. e.0) (λ e. e.0) (λ e. e.0) (λ e. e.0) y

pub put_view_if_arm : (x : IfArm-F Decl Expr Stmt ElementLine FieldLine ResultForm TypeExpr FuncDecl TypeSpec ValueSpec Element ListedExpr Block CaseClause CommClause ForStmt IfArm RangeStmt StmtLine SwitchStmt TypeSwitchStmt Param Params Signature) → view.view_if_arm (roll-IfArm x) ≡ view_at_if_arm x
unfolding view.view_decl view.view_expr view.view_stmt view.view_element_line view.view_field_line view.view_result_form view.view_type_expr view.view_func_decl view.view_type_spec view.view_value_spec view.view_element view.view_listed_expr view.view_block view.view_case_clause view.view_comm_clause view.view_for_stmt view.view_if_arm view.view_range_stmt view.view_stmt_line view.view_switch_stmt view.view_type_switch_stmt view.view_param view.view_params view.view_signature
put_view_if_arm x = fold-roll-IfArm Forest Forest Forest Forest Forest Forest Forest Forest Forest Forest Forest Forest Forest Forest Forest Forest Forest Forest Forest Forest Forest Forest Forest Forest view.decl_layer view.expr_layer view.stmt_layer view.element_line_layer view.field_line_layer view.result_form_layer view.type_expr_layer view.func_decl_layer view.type_spec_layer view.value_spec_layer view.element_layer view.listed_expr_layer view.block_layer view.case_clause_layer view.comm_clause_layer view.for_stmt_layer view.if_arm_layer view.range_stmt_layer view.stmt_line_layer view.switch_stmt_layer view.type_switch_stmt_layer view.param_layer view.params_layer view.signature_layer x

pub put_fields_if_arm : (x : IfArm-F Decl Expr Stmt ElementLine FieldLine ResultForm TypeExpr FuncDecl TypeSpec ValueSpec Element ListedExpr Block CaseClause CommClause ForStmt IfArm RangeStmt StmtLine SwitchStmt TypeSwitchStmt Param Params Signature) → fields.fields_of_if_arm (roll-IfArm x) ≡ fields_at_if_arm x
unfolding fields.fields_of_decl fields.fields_of_expr fields.fields_of_stmt fields.fields_of_element_line fields.fields_of_field_line fields.fields_of_result_form fields.fields_of_type_expr fields.fields_of_func_decl fields.fields_of_type_spec fields.fields_of_value_spec fields.fields_of_element fields.fields_of_listed_expr fields.fields_of_block fields.fields_of_case_clause fields.fields_of_comm_clause fields.fields_of_for_stmt fields.fields_of_if_arm fields.fields_of_range_stmt fields.fields_of_stmt_line fields.fields_of_switch_stmt fields.fields_of_type_switch_stmt fields.fields_of_param fields.fields_of_params fields.fields_of_signature
put_fields_if_arm x = fold-roll-IfArm Marked Marked Marked Marked Marked Marked Marked Marked Marked Marked Marked Marked Marked Marked Marked Marked Marked Marked Marked Marked Marked Marked Marked Marked fields.decl_layer fields.expr_layer fields.stmt_layer fields.element_line_layer fields.field_line_layer fields.result_form_layer fields.type_expr_layer fields.func_decl_layer fields.type_spec_layer fields.value_spec_layer fields.element_layer fields.listed_expr_layer fields.block_layer fields.case_clause_layer fields.comm_clause_layer fields.for_stmt_layer fields.if_arm_layer fields.range_stmt_layer fields.stmt_line_layer fields.switch_stmt_layer fields.type_switch_stmt_layer fields.param_layer fields.params_layer fields.signature_layer x

pub put_roles_if_arm : (x : IfArm-F Decl Expr Stmt ElementLine FieldLine ResultForm TypeExpr FuncDecl TypeSpec ValueSpec Element ListedExpr Block CaseClause CommClause ForStmt IfArm RangeStmt StmtLine SwitchStmt TypeSwitchStmt Param Params Signature) → roles_of_if_arm (roll-IfArm x) ≡ roles_at_if_arm x
unfolding roles_of_decl roles_of_expr roles_of_stmt roles_of_element_line roles_of_field_line roles_of_result_form roles_of_type_expr roles_of_func_decl roles_of_type_spec roles_of_value_spec roles_of_element roles_of_listed_expr roles_of_block roles_of_case_clause roles_of_comm_clause roles_of_for_stmt roles_of_if_arm roles_of_range_stmt roles_of_stmt_line roles_of_switch_stmt roles_of_type_switch_stmt roles_of_param roles_of_params roles_of_signature
put_roles_if_arm x = fold-roll-IfArm Bool Bool Bool InList InList Bool Bool Bool InList InList InList InList Bool Bool Bool Bool Bool Bool InList Bool Bool InList Bool Bool parts.decl_layer parts.expr_layer parts.stmt_layer parts.element_line_layer parts.field_line_layer parts.result_form_layer parts.type_expr_layer parts.func_decl_layer parts.type_spec_layer parts.value_spec_layer parts.element_layer parts.listed_expr_layer parts.block_layer parts.case_clause_layer parts.comm_clause_layer parts.for_stmt_layer parts.if_arm_layer parts.range_stmt_layer parts.stmt_line_layer parts.switch_stmt_layer parts.type_switch_stmt_layer parts.param_layer parts.params_layer parts.signature_layer x

abbrev pub view_at_range_stmt : RangeStmt-F Decl Expr Stmt ElementLine FieldLine ResultForm TypeExpr FuncDecl TypeSpec ValueSpec Element ListedExpr Block CaseClause CommClause ForStmt IfArm RangeStmt StmtLine SwitchStmt TypeSwitchStmt Param Params Signature → Forest
view_at_range_stmt x = view.range_stmt_layer (map-RangeStmt Decl Expr Stmt ElementLine FieldLine ResultForm TypeExpr FuncDecl TypeSpec ValueSpec Element ListedExpr Block CaseClause CommClause ForStmt IfArm RangeStmt StmtLine SwitchStmt TypeSwitchStmt Param Params Signature Forest Forest Forest Forest Forest Forest Forest Forest Forest Forest Forest Forest Forest Forest Forest Forest Forest Forest Forest Forest Forest Forest Forest Forest view.view_decl view.view_expr view.view_stmt view.view_element_line view.view_field_line view.view_result_form view.view_type_expr view.view_func_decl view.view_type_spec view.view_value_spec view.view_element view.view_listed_expr view.view_block view.view_case_clause view.view_comm_clause view.view_for_stmt view.view_if_arm view.view_range_stmt view.view_stmt_line view.view_switch_stmt view.view_type_switch_stmt view.view_param view.view_params view.view_signature x)

abbrev pub fields_at_range_stmt : RangeStmt-F Decl Expr Stmt ElementLine FieldLine ResultForm TypeExpr FuncDecl TypeSpec ValueSpec Element ListedExpr Block CaseClause CommClause ForStmt IfArm RangeStmt StmtLine SwitchStmt TypeSwitchStmt Param Params Signature → Marked
fields_at_range_stmt x = fields.range_stmt_layer (map-RangeStmt Decl Expr Stmt ElementLine FieldLine ResultForm TypeExpr FuncDecl TypeSpec ValueSpec Element ListedExpr Block CaseClause CommClause ForStmt IfArm RangeStmt StmtLine SwitchStmt TypeSwitchStmt Param Params Signature Marked Marked Marked Marked Marked Marked Marked Marked Marked Marked Marked Marked Marked Marked Marked Marked Marked Marked Marked Marked Marked Marked Marked Marked fields.fields_of_decl fields.fields_of_expr fields.fields_of_stmt fields.fields_of_element_line fields.fields_of_field_line fields.fields_of_result_form fields.fields_of_type_expr fields.fields_of_func_decl fields.fields_of_type_spec fields.fields_of_value_spec fields.fields_of_element fields.fields_of_listed_expr fields.fields_of_block fields.fields_of_case_clause fields.fields_of_comm_clause fields.fields_of_for_stmt fields.fields_of_if_arm fields.fields_of_range_stmt fields.fields_of_stmt_line fields.fields_of_switch_stmt fields.fields_of_type_switch_stmt fields.fields_of_param fields.fields_of_params fields.fields_of_signature x)

abbrev pub roles_at_range_stmt : RangeStmt-F Decl Expr Stmt ElementLine FieldLine ResultForm TypeExpr FuncDecl TypeSpec ValueSpec Element ListedExpr Block CaseClause CommClause ForStmt IfArm RangeStmt StmtLine SwitchStmt TypeSwitchStmt Param Params Signature → Bool
roles_at_range_stmt x = parts.range_stmt_layer (map-RangeStmt Decl Expr Stmt ElementLine FieldLine ResultForm TypeExpr FuncDecl TypeSpec ValueSpec Element ListedExpr Block CaseClause CommClause ForStmt IfArm RangeStmt StmtLine SwitchStmt TypeSwitchStmt Param Params Signature Bool Bool Bool InList InList Bool Bool Bool InList InList InList InList Bool Bool Bool Bool Bool Bool InList Bool Bool InList Bool Bool roles_of_decl roles_of_expr roles_of_stmt roles_of_element_line roles_of_field_line roles_of_result_form roles_of_type_expr roles_of_func_decl roles_of_type_spec roles_of_value_spec roles_of_element roles_of_listed_expr roles_of_block roles_of_case_clause roles_of_comm_clause roles_of_for_stmt roles_of_if_arm roles_of_range_stmt roles_of_stmt_line roles_of_switch_stmt roles_of_type_switch_stmt roles_of_param roles_of_params roles_of_signature x)

abbrev pub bare_range_stmt : RangeStmt-F DeclP ExprP StmtP ElementLineP FieldLineP ResultFormP TypeExprP FuncDeclP TypeSpecP ValueSpecP ElementP ListedExprP BlockP CaseClauseP CommClauseP ForStmtP IfArmP RangeStmtP StmtLineP SwitchStmtP TypeSwitchStmtP ParamP ParamsP SignatureP → RangeStmt-F Decl Expr Stmt ElementLine FieldLine ResultForm TypeExpr FuncDecl TypeSpec ValueSpec Element ListedExpr Block CaseClause CommClause ForStmt IfArm RangeStmt StmtLine SwitchStmt TypeSwitchStmt Param Params Signature
bare_range_stmt y = map-RangeStmt DeclP ExprP StmtP ElementLineP FieldLineP ResultFormP TypeExprP FuncDeclP TypeSpecP ValueSpecP ElementP ListedExprP BlockP CaseClauseP CommClauseP ForStmtP IfArmP RangeStmtP StmtLineP SwitchStmtP TypeSwitchStmtP ParamP ParamsP SignatureP Decl Expr Stmt ElementLine FieldLine ResultForm TypeExpr FuncDecl TypeSpec ValueSpec Element ListedExpr Block CaseClause CommClause ForStmt IfArm RangeStmt StmtLine SwitchStmt TypeSwitchStmt Param Params Signature (λ e. e.0) (λ e. e.0) (λ e. e.0) (λ e. e.0) (λ e. e.0) (λ e. e.0) (λ e. e.0) (λ e. e.0) (λ e. e.0) (λ e. e.0) (λ e. e.0) (λ e. e.0) (λ e. e.0) (λ e. e.0) (λ e. e.0) (λ e. e.0) (λ e. e.0) (λ e. e.0) (λ e. e.0) (λ e. e.0) (λ e. e.0) (λ e. e.0) (λ e. e.0) (λ e. e.0) y

pub put_view_range_stmt : (x : RangeStmt-F Decl Expr Stmt ElementLine FieldLine ResultForm TypeExpr FuncDecl TypeSpec ValueSpec Element ListedExpr Block CaseClause CommClause ForStmt IfArm RangeStmt StmtLine SwitchStmt TypeSwitchStmt Param Params Signature) → view.view_range_stmt (roll-RangeStmt x) ≡ view_at_range_stmt x
unfolding view.view_decl view.view_expr view.view_stmt view.view_element_line view.view_field_line view.view_result_form view.view_type_expr view.view_func_decl view.view_type_spec view.view_value_spec view.view_element view.view_listed_expr view.view_block view.view_case_clause view.view_comm_clause view.view_for_stmt view.view_if_arm view.view_range_stmt view.view_stmt_line view.view_switch_stmt view.view_type_switch_stmt view.view_param view.view_params view.view_signature
put_view_range_stmt x = fold-roll-RangeStmt Forest Forest Forest Forest Forest Forest Forest Forest Forest Forest Forest Forest Forest Forest Forest Forest Forest Forest Forest Forest Forest Forest Forest Forest view.decl_layer view.expr_layer view.stmt_layer view.element_line_layer view.field_line_layer view.result_form_layer view.type_expr_layer view.func_decl_layer view.type_spec_layer view.value_spec_layer view.element_layer view.listed_expr_layer view.block_layer view.case_clause_layer view.comm_clause_layer view.for_stmt_layer view.if_arm_layer view.range_stmt_layer view.stmt_line_layer view.switch_stmt_layer view.type_switch_stmt_layer view.param_layer view.params_layer view.signature_layer x

pub put_fields_range_stmt : (x : RangeStmt-F Decl Expr Stmt ElementLine FieldLine ResultForm TypeExpr FuncDecl TypeSpec ValueSpec Element ListedExpr Block CaseClause CommClause ForStmt IfArm RangeStmt StmtLine SwitchStmt TypeSwitchStmt Param Params Signature) → fields.fields_of_range_stmt (roll-RangeStmt x) ≡ fields_at_range_stmt x
unfolding fields.fields_of_decl fields.fields_of_expr fields.fields_of_stmt fields.fields_of_element_line fields.fields_of_field_line fields.fields_of_result_form fields.fields_of_type_expr fields.fields_of_func_decl fields.fields_of_type_spec fields.fields_of_value_spec fields.fields_of_element fields.fields_of_listed_expr fields.fields_of_block fields.fields_of_case_clause fields.fields_of_comm_clause fields.fields_of_for_stmt fields.fields_of_if_arm fields.fields_of_range_stmt fields.fields_of_stmt_line fields.fields_of_switch_stmt fields.fields_of_type_switch_stmt fields.fields_of_param fields.fields_of_params fields.fields_of_signature
put_fields_range_stmt x = fold-roll-RangeStmt Marked Marked Marked Marked Marked Marked Marked Marked Marked Marked Marked Marked Marked Marked Marked Marked Marked Marked Marked Marked Marked Marked Marked Marked fields.decl_layer fields.expr_layer fields.stmt_layer fields.element_line_layer fields.field_line_layer fields.result_form_layer fields.type_expr_layer fields.func_decl_layer fields.type_spec_layer fields.value_spec_layer fields.element_layer fields.listed_expr_layer fields.block_layer fields.case_clause_layer fields.comm_clause_layer fields.for_stmt_layer fields.if_arm_layer fields.range_stmt_layer fields.stmt_line_layer fields.switch_stmt_layer fields.type_switch_stmt_layer fields.param_layer fields.params_layer fields.signature_layer x

pub put_roles_range_stmt : (x : RangeStmt-F Decl Expr Stmt ElementLine FieldLine ResultForm TypeExpr FuncDecl TypeSpec ValueSpec Element ListedExpr Block CaseClause CommClause ForStmt IfArm RangeStmt StmtLine SwitchStmt TypeSwitchStmt Param Params Signature) → roles_of_range_stmt (roll-RangeStmt x) ≡ roles_at_range_stmt x
unfolding roles_of_decl roles_of_expr roles_of_stmt roles_of_element_line roles_of_field_line roles_of_result_form roles_of_type_expr roles_of_func_decl roles_of_type_spec roles_of_value_spec roles_of_element roles_of_listed_expr roles_of_block roles_of_case_clause roles_of_comm_clause roles_of_for_stmt roles_of_if_arm roles_of_range_stmt roles_of_stmt_line roles_of_switch_stmt roles_of_type_switch_stmt roles_of_param roles_of_params roles_of_signature
put_roles_range_stmt x = fold-roll-RangeStmt Bool Bool Bool InList InList Bool Bool Bool InList InList InList InList Bool Bool Bool Bool Bool Bool InList Bool Bool InList Bool Bool parts.decl_layer parts.expr_layer parts.stmt_layer parts.element_line_layer parts.field_line_layer parts.result_form_layer parts.type_expr_layer parts.func_decl_layer parts.type_spec_layer parts.value_spec_layer parts.element_layer parts.listed_expr_layer parts.block_layer parts.case_clause_layer parts.comm_clause_layer parts.for_stmt_layer parts.if_arm_layer parts.range_stmt_layer parts.stmt_line_layer parts.switch_stmt_layer parts.type_switch_stmt_layer parts.param_layer parts.params_layer parts.signature_layer x

abbrev pub view_at_stmt_line : StmtLine-F Decl Expr Stmt ElementLine FieldLine ResultForm TypeExpr FuncDecl TypeSpec ValueSpec Element ListedExpr Block CaseClause CommClause ForStmt IfArm RangeStmt StmtLine SwitchStmt TypeSwitchStmt Param Params Signature → Forest
view_at_stmt_line x = view.stmt_line_layer (map-StmtLine Decl Expr Stmt ElementLine FieldLine ResultForm TypeExpr FuncDecl TypeSpec ValueSpec Element ListedExpr Block CaseClause CommClause ForStmt IfArm RangeStmt StmtLine SwitchStmt TypeSwitchStmt Param Params Signature Forest Forest Forest Forest Forest Forest Forest Forest Forest Forest Forest Forest Forest Forest Forest Forest Forest Forest Forest Forest Forest Forest Forest Forest view.view_decl view.view_expr view.view_stmt view.view_element_line view.view_field_line view.view_result_form view.view_type_expr view.view_func_decl view.view_type_spec view.view_value_spec view.view_element view.view_listed_expr view.view_block view.view_case_clause view.view_comm_clause view.view_for_stmt view.view_if_arm view.view_range_stmt view.view_stmt_line view.view_switch_stmt view.view_type_switch_stmt view.view_param view.view_params view.view_signature x)

abbrev pub fields_at_stmt_line : StmtLine-F Decl Expr Stmt ElementLine FieldLine ResultForm TypeExpr FuncDecl TypeSpec ValueSpec Element ListedExpr Block CaseClause CommClause ForStmt IfArm RangeStmt StmtLine SwitchStmt TypeSwitchStmt Param Params Signature → Marked
fields_at_stmt_line x = fields.stmt_line_layer (map-StmtLine Decl Expr Stmt ElementLine FieldLine ResultForm TypeExpr FuncDecl TypeSpec ValueSpec Element ListedExpr Block CaseClause CommClause ForStmt IfArm RangeStmt StmtLine SwitchStmt TypeSwitchStmt Param Params Signature Marked Marked Marked Marked Marked Marked Marked Marked Marked Marked Marked Marked Marked Marked Marked Marked Marked Marked Marked Marked Marked Marked Marked Marked fields.fields_of_decl fields.fields_of_expr fields.fields_of_stmt fields.fields_of_element_line fields.fields_of_field_line fields.fields_of_result_form fields.fields_of_type_expr fields.fields_of_func_decl fields.fields_of_type_spec fields.fields_of_value_spec fields.fields_of_element fields.fields_of_listed_expr fields.fields_of_block fields.fields_of_case_clause fields.fields_of_comm_clause fields.fields_of_for_stmt fields.fields_of_if_arm fields.fields_of_range_stmt fields.fields_of_stmt_line fields.fields_of_switch_stmt fields.fields_of_type_switch_stmt fields.fields_of_param fields.fields_of_params fields.fields_of_signature x)

abbrev pub roles_at_stmt_line : StmtLine-F Decl Expr Stmt ElementLine FieldLine ResultForm TypeExpr FuncDecl TypeSpec ValueSpec Element ListedExpr Block CaseClause CommClause ForStmt IfArm RangeStmt StmtLine SwitchStmt TypeSwitchStmt Param Params Signature → InList
roles_at_stmt_line x = parts.stmt_line_layer (map-StmtLine Decl Expr Stmt ElementLine FieldLine ResultForm TypeExpr FuncDecl TypeSpec ValueSpec Element ListedExpr Block CaseClause CommClause ForStmt IfArm RangeStmt StmtLine SwitchStmt TypeSwitchStmt Param Params Signature Bool Bool Bool InList InList Bool Bool Bool InList InList InList InList Bool Bool Bool Bool Bool Bool InList Bool Bool InList Bool Bool roles_of_decl roles_of_expr roles_of_stmt roles_of_element_line roles_of_field_line roles_of_result_form roles_of_type_expr roles_of_func_decl roles_of_type_spec roles_of_value_spec roles_of_element roles_of_listed_expr roles_of_block roles_of_case_clause roles_of_comm_clause roles_of_for_stmt roles_of_if_arm roles_of_range_stmt roles_of_stmt_line roles_of_switch_stmt roles_of_type_switch_stmt roles_of_param roles_of_params roles_of_signature x)

abbrev pub bare_stmt_line : StmtLine-F DeclP ExprP StmtP ElementLineP FieldLineP ResultFormP TypeExprP FuncDeclP TypeSpecP ValueSpecP ElementP ListedExprP BlockP CaseClauseP CommClauseP ForStmtP IfArmP RangeStmtP StmtLineP SwitchStmtP TypeSwitchStmtP ParamP ParamsP SignatureP → StmtLine-F Decl Expr Stmt ElementLine FieldLine ResultForm TypeExpr FuncDecl TypeSpec ValueSpec Element ListedExpr Block CaseClause CommClause ForStmt IfArm RangeStmt StmtLine SwitchStmt TypeSwitchStmt Param Params Signature
bare_stmt_line y = map-StmtLine DeclP ExprP StmtP ElementLineP FieldLineP ResultFormP TypeExprP FuncDeclP TypeSpecP ValueSpecP ElementP ListedExprP BlockP CaseClauseP CommClauseP ForStmtP IfArmP RangeStmtP StmtLineP SwitchStmtP TypeSwitchStmtP ParamP ParamsP SignatureP Decl Expr Stmt ElementLine FieldLine ResultForm TypeExpr FuncDecl TypeSpec ValueSpec Element ListedExpr Block CaseClause CommClause ForStmt IfArm RangeStmt StmtLine SwitchStmt TypeSwitchStmt Param Params Signature (λ e. e.0) (λ e. e.0) (λ e. e.0) (λ e. e.0) (λ e. e.0) (λ e. e.0) (λ e. e.0) (λ e. e.0) (λ e. e.0) (λ e. e.0) (λ e. e.0) (λ e. e.0) (λ e. e.0) (λ e. e.0) (λ e. e.0) (λ e. e.0) (λ e. e.0) (λ e. e.0) (λ e. e.0) (λ e. e.0) (λ e. e.0) (λ e. e.0) (λ e. e.0) (λ e. e.0) y

pub put_view_stmt_line : (x : StmtLine-F Decl Expr Stmt ElementLine FieldLine ResultForm TypeExpr FuncDecl TypeSpec ValueSpec Element ListedExpr Block CaseClause CommClause ForStmt IfArm RangeStmt StmtLine SwitchStmt TypeSwitchStmt Param Params Signature) → view.view_stmt_line (roll-StmtLine x) ≡ view_at_stmt_line x
unfolding view.view_decl view.view_expr view.view_stmt view.view_element_line view.view_field_line view.view_result_form view.view_type_expr view.view_func_decl view.view_type_spec view.view_value_spec view.view_element view.view_listed_expr view.view_block view.view_case_clause view.view_comm_clause view.view_for_stmt view.view_if_arm view.view_range_stmt view.view_stmt_line view.view_switch_stmt view.view_type_switch_stmt view.view_param view.view_params view.view_signature
put_view_stmt_line x = fold-roll-StmtLine Forest Forest Forest Forest Forest Forest Forest Forest Forest Forest Forest Forest Forest Forest Forest Forest Forest Forest Forest Forest Forest Forest Forest Forest view.decl_layer view.expr_layer view.stmt_layer view.element_line_layer view.field_line_layer view.result_form_layer view.type_expr_layer view.func_decl_layer view.type_spec_layer view.value_spec_layer view.element_layer view.listed_expr_layer view.block_layer view.case_clause_layer view.comm_clause_layer view.for_stmt_layer view.if_arm_layer view.range_stmt_layer view.stmt_line_layer view.switch_stmt_layer view.type_switch_stmt_layer view.param_layer view.params_layer view.signature_layer x

pub put_fields_stmt_line : (x : StmtLine-F Decl Expr Stmt ElementLine FieldLine ResultForm TypeExpr FuncDecl TypeSpec ValueSpec Element ListedExpr Block CaseClause CommClause ForStmt IfArm RangeStmt StmtLine SwitchStmt TypeSwitchStmt Param Params Signature) → fields.fields_of_stmt_line (roll-StmtLine x) ≡ fields_at_stmt_line x
unfolding fields.fields_of_decl fields.fields_of_expr fields.fields_of_stmt fields.fields_of_element_line fields.fields_of_field_line fields.fields_of_result_form fields.fields_of_type_expr fields.fields_of_func_decl fields.fields_of_type_spec fields.fields_of_value_spec fields.fields_of_element fields.fields_of_listed_expr fields.fields_of_block fields.fields_of_case_clause fields.fields_of_comm_clause fields.fields_of_for_stmt fields.fields_of_if_arm fields.fields_of_range_stmt fields.fields_of_stmt_line fields.fields_of_switch_stmt fields.fields_of_type_switch_stmt fields.fields_of_param fields.fields_of_params fields.fields_of_signature
put_fields_stmt_line x = fold-roll-StmtLine Marked Marked Marked Marked Marked Marked Marked Marked Marked Marked Marked Marked Marked Marked Marked Marked Marked Marked Marked Marked Marked Marked Marked Marked fields.decl_layer fields.expr_layer fields.stmt_layer fields.element_line_layer fields.field_line_layer fields.result_form_layer fields.type_expr_layer fields.func_decl_layer fields.type_spec_layer fields.value_spec_layer fields.element_layer fields.listed_expr_layer fields.block_layer fields.case_clause_layer fields.comm_clause_layer fields.for_stmt_layer fields.if_arm_layer fields.range_stmt_layer fields.stmt_line_layer fields.switch_stmt_layer fields.type_switch_stmt_layer fields.param_layer fields.params_layer fields.signature_layer x

pub put_roles_stmt_line : (x : StmtLine-F Decl Expr Stmt ElementLine FieldLine ResultForm TypeExpr FuncDecl TypeSpec ValueSpec Element ListedExpr Block CaseClause CommClause ForStmt IfArm RangeStmt StmtLine SwitchStmt TypeSwitchStmt Param Params Signature) → roles_of_stmt_line (roll-StmtLine x) ≡ roles_at_stmt_line x
unfolding roles_of_decl roles_of_expr roles_of_stmt roles_of_element_line roles_of_field_line roles_of_result_form roles_of_type_expr roles_of_func_decl roles_of_type_spec roles_of_value_spec roles_of_element roles_of_listed_expr roles_of_block roles_of_case_clause roles_of_comm_clause roles_of_for_stmt roles_of_if_arm roles_of_range_stmt roles_of_stmt_line roles_of_switch_stmt roles_of_type_switch_stmt roles_of_param roles_of_params roles_of_signature
put_roles_stmt_line x = fold-roll-StmtLine Bool Bool Bool InList InList Bool Bool Bool InList InList InList InList Bool Bool Bool Bool Bool Bool InList Bool Bool InList Bool Bool parts.decl_layer parts.expr_layer parts.stmt_layer parts.element_line_layer parts.field_line_layer parts.result_form_layer parts.type_expr_layer parts.func_decl_layer parts.type_spec_layer parts.value_spec_layer parts.element_layer parts.listed_expr_layer parts.block_layer parts.case_clause_layer parts.comm_clause_layer parts.for_stmt_layer parts.if_arm_layer parts.range_stmt_layer parts.stmt_line_layer parts.switch_stmt_layer parts.type_switch_stmt_layer parts.param_layer parts.params_layer parts.signature_layer x

abbrev pub view_at_switch_stmt : SwitchStmt-F Decl Expr Stmt ElementLine FieldLine ResultForm TypeExpr FuncDecl TypeSpec ValueSpec Element ListedExpr Block CaseClause CommClause ForStmt IfArm RangeStmt StmtLine SwitchStmt TypeSwitchStmt Param Params Signature → Forest
view_at_switch_stmt x = view.switch_stmt_layer (map-SwitchStmt Decl Expr Stmt ElementLine FieldLine ResultForm TypeExpr FuncDecl TypeSpec ValueSpec Element ListedExpr Block CaseClause CommClause ForStmt IfArm RangeStmt StmtLine SwitchStmt TypeSwitchStmt Param Params Signature Forest Forest Forest Forest Forest Forest Forest Forest Forest Forest Forest Forest Forest Forest Forest Forest Forest Forest Forest Forest Forest Forest Forest Forest view.view_decl view.view_expr view.view_stmt view.view_element_line view.view_field_line view.view_result_form view.view_type_expr view.view_func_decl view.view_type_spec view.view_value_spec view.view_element view.view_listed_expr view.view_block view.view_case_clause view.view_comm_clause view.view_for_stmt view.view_if_arm view.view_range_stmt view.view_stmt_line view.view_switch_stmt view.view_type_switch_stmt view.view_param view.view_params view.view_signature x)

abbrev pub fields_at_switch_stmt : SwitchStmt-F Decl Expr Stmt ElementLine FieldLine ResultForm TypeExpr FuncDecl TypeSpec ValueSpec Element ListedExpr Block CaseClause CommClause ForStmt IfArm RangeStmt StmtLine SwitchStmt TypeSwitchStmt Param Params Signature → Marked
fields_at_switch_stmt x = fields.switch_stmt_layer (map-SwitchStmt Decl Expr Stmt ElementLine FieldLine ResultForm TypeExpr FuncDecl TypeSpec ValueSpec Element ListedExpr Block CaseClause CommClause ForStmt IfArm RangeStmt StmtLine SwitchStmt TypeSwitchStmt Param Params Signature Marked Marked Marked Marked Marked Marked Marked Marked Marked Marked Marked Marked Marked Marked Marked Marked Marked Marked Marked Marked Marked Marked Marked Marked fields.fields_of_decl fields.fields_of_expr fields.fields_of_stmt fields.fields_of_element_line fields.fields_of_field_line fields.fields_of_result_form fields.fields_of_type_expr fields.fields_of_func_decl fields.fields_of_type_spec fields.fields_of_value_spec fields.fields_of_element fields.fields_of_listed_expr fields.fields_of_block fields.fields_of_case_clause fields.fields_of_comm_clause fields.fields_of_for_stmt fields.fields_of_if_arm fields.fields_of_range_stmt fields.fields_of_stmt_line fields.fields_of_switch_stmt fields.fields_of_type_switch_stmt fields.fields_of_param fields.fields_of_params fields.fields_of_signature x)

abbrev pub roles_at_switch_stmt : SwitchStmt-F Decl Expr Stmt ElementLine FieldLine ResultForm TypeExpr FuncDecl TypeSpec ValueSpec Element ListedExpr Block CaseClause CommClause ForStmt IfArm RangeStmt StmtLine SwitchStmt TypeSwitchStmt Param Params Signature → Bool
roles_at_switch_stmt x = parts.switch_stmt_layer (map-SwitchStmt Decl Expr Stmt ElementLine FieldLine ResultForm TypeExpr FuncDecl TypeSpec ValueSpec Element ListedExpr Block CaseClause CommClause ForStmt IfArm RangeStmt StmtLine SwitchStmt TypeSwitchStmt Param Params Signature Bool Bool Bool InList InList Bool Bool Bool InList InList InList InList Bool Bool Bool Bool Bool Bool InList Bool Bool InList Bool Bool roles_of_decl roles_of_expr roles_of_stmt roles_of_element_line roles_of_field_line roles_of_result_form roles_of_type_expr roles_of_func_decl roles_of_type_spec roles_of_value_spec roles_of_element roles_of_listed_expr roles_of_block roles_of_case_clause roles_of_comm_clause roles_of_for_stmt roles_of_if_arm roles_of_range_stmt roles_of_stmt_line roles_of_switch_stmt roles_of_type_switch_stmt roles_of_param roles_of_params roles_of_signature x)

abbrev pub bare_switch_stmt : SwitchStmt-F DeclP ExprP StmtP ElementLineP FieldLineP ResultFormP TypeExprP FuncDeclP TypeSpecP ValueSpecP ElementP ListedExprP BlockP CaseClauseP CommClauseP ForStmtP IfArmP RangeStmtP StmtLineP SwitchStmtP TypeSwitchStmtP ParamP ParamsP SignatureP → SwitchStmt-F Decl Expr Stmt ElementLine FieldLine ResultForm TypeExpr FuncDecl TypeSpec ValueSpec Element ListedExpr Block CaseClause CommClause ForStmt IfArm RangeStmt StmtLine SwitchStmt TypeSwitchStmt Param Params Signature
bare_switch_stmt y = map-SwitchStmt DeclP ExprP StmtP ElementLineP FieldLineP ResultFormP TypeExprP FuncDeclP TypeSpecP ValueSpecP ElementP ListedExprP BlockP CaseClauseP CommClauseP ForStmtP IfArmP RangeStmtP StmtLineP SwitchStmtP TypeSwitchStmtP ParamP ParamsP SignatureP Decl Expr Stmt ElementLine FieldLine ResultForm TypeExpr FuncDecl TypeSpec ValueSpec Element ListedExpr Block CaseClause CommClause ForStmt IfArm RangeStmt StmtLine SwitchStmt TypeSwitchStmt Param Params Signature (λ e. e.0) (λ e. e.0) (λ e. e.0) (λ e. e.0) (λ e. e.0) (λ e. e.0) (λ e. e.0) (λ e. e.0) (λ e. e.0) (λ e. e.0) (λ e. e.0) (λ e. e.0) (λ e. e.0) (λ e. e.0) (λ e. e.0) (λ e. e.0) (λ e. e.0) (λ e. e.0) (λ e. e.0) (λ e. e.0) (λ e. e.0) (λ e. e.0) (λ e. e.0) (λ e. e.0) y

pub put_view_switch_stmt : (x : SwitchStmt-F Decl Expr Stmt ElementLine FieldLine ResultForm TypeExpr FuncDecl TypeSpec ValueSpec Element ListedExpr Block CaseClause CommClause ForStmt IfArm RangeStmt StmtLine SwitchStmt TypeSwitchStmt Param Params Signature) → view.view_switch_stmt (roll-SwitchStmt x) ≡ view_at_switch_stmt x
unfolding view.view_decl view.view_expr view.view_stmt view.view_element_line view.view_field_line view.view_result_form view.view_type_expr view.view_func_decl view.view_type_spec view.view_value_spec view.view_element view.view_listed_expr view.view_block view.view_case_clause view.view_comm_clause view.view_for_stmt view.view_if_arm view.view_range_stmt view.view_stmt_line view.view_switch_stmt view.view_type_switch_stmt view.view_param view.view_params view.view_signature
put_view_switch_stmt x = fold-roll-SwitchStmt Forest Forest Forest Forest Forest Forest Forest Forest Forest Forest Forest Forest Forest Forest Forest Forest Forest Forest Forest Forest Forest Forest Forest Forest view.decl_layer view.expr_layer view.stmt_layer view.element_line_layer view.field_line_layer view.result_form_layer view.type_expr_layer view.func_decl_layer view.type_spec_layer view.value_spec_layer view.element_layer view.listed_expr_layer view.block_layer view.case_clause_layer view.comm_clause_layer view.for_stmt_layer view.if_arm_layer view.range_stmt_layer view.stmt_line_layer view.switch_stmt_layer view.type_switch_stmt_layer view.param_layer view.params_layer view.signature_layer x

pub put_fields_switch_stmt : (x : SwitchStmt-F Decl Expr Stmt ElementLine FieldLine ResultForm TypeExpr FuncDecl TypeSpec ValueSpec Element ListedExpr Block CaseClause CommClause ForStmt IfArm RangeStmt StmtLine SwitchStmt TypeSwitchStmt Param Params Signature) → fields.fields_of_switch_stmt (roll-SwitchStmt x) ≡ fields_at_switch_stmt x
unfolding fields.fields_of_decl fields.fields_of_expr fields.fields_of_stmt fields.fields_of_element_line fields.fields_of_field_line fields.fields_of_result_form fields.fields_of_type_expr fields.fields_of_func_decl fields.fields_of_type_spec fields.fields_of_value_spec fields.fields_of_element fields.fields_of_listed_expr fields.fields_of_block fields.fields_of_case_clause fields.fields_of_comm_clause fields.fields_of_for_stmt fields.fields_of_if_arm fields.fields_of_range_stmt fields.fields_of_stmt_line fields.fields_of_switch_stmt fields.fields_of_type_switch_stmt fields.fields_of_param fields.fields_of_params fields.fields_of_signature
put_fields_switch_stmt x = fold-roll-SwitchStmt Marked Marked Marked Marked Marked Marked Marked Marked Marked Marked Marked Marked Marked Marked Marked Marked Marked Marked Marked Marked Marked Marked Marked Marked fields.decl_layer fields.expr_layer fields.stmt_layer fields.element_line_layer fields.field_line_layer fields.result_form_layer fields.type_expr_layer fields.func_decl_layer fields.type_spec_layer fields.value_spec_layer fields.element_layer fields.listed_expr_layer fields.block_layer fields.case_clause_layer fields.comm_clause_layer fields.for_stmt_layer fields.if_arm_layer fields.range_stmt_layer fields.stmt_line_layer fields.switch_stmt_layer fields.type_switch_stmt_layer fields.param_layer fields.params_layer fields.signature_layer x

pub put_roles_switch_stmt : (x : SwitchStmt-F Decl Expr Stmt ElementLine FieldLine ResultForm TypeExpr FuncDecl TypeSpec ValueSpec Element ListedExpr Block CaseClause CommClause ForStmt IfArm RangeStmt StmtLine SwitchStmt TypeSwitchStmt Param Params Signature) → roles_of_switch_stmt (roll-SwitchStmt x) ≡ roles_at_switch_stmt x
unfolding roles_of_decl roles_of_expr roles_of_stmt roles_of_element_line roles_of_field_line roles_of_result_form roles_of_type_expr roles_of_func_decl roles_of_type_spec roles_of_value_spec roles_of_element roles_of_listed_expr roles_of_block roles_of_case_clause roles_of_comm_clause roles_of_for_stmt roles_of_if_arm roles_of_range_stmt roles_of_stmt_line roles_of_switch_stmt roles_of_type_switch_stmt roles_of_param roles_of_params roles_of_signature
put_roles_switch_stmt x = fold-roll-SwitchStmt Bool Bool Bool InList InList Bool Bool Bool InList InList InList InList Bool Bool Bool Bool Bool Bool InList Bool Bool InList Bool Bool parts.decl_layer parts.expr_layer parts.stmt_layer parts.element_line_layer parts.field_line_layer parts.result_form_layer parts.type_expr_layer parts.func_decl_layer parts.type_spec_layer parts.value_spec_layer parts.element_layer parts.listed_expr_layer parts.block_layer parts.case_clause_layer parts.comm_clause_layer parts.for_stmt_layer parts.if_arm_layer parts.range_stmt_layer parts.stmt_line_layer parts.switch_stmt_layer parts.type_switch_stmt_layer parts.param_layer parts.params_layer parts.signature_layer x

abbrev pub view_at_type_switch_stmt : TypeSwitchStmt-F Decl Expr Stmt ElementLine FieldLine ResultForm TypeExpr FuncDecl TypeSpec ValueSpec Element ListedExpr Block CaseClause CommClause ForStmt IfArm RangeStmt StmtLine SwitchStmt TypeSwitchStmt Param Params Signature → Forest
view_at_type_switch_stmt x = view.type_switch_stmt_layer (map-TypeSwitchStmt Decl Expr Stmt ElementLine FieldLine ResultForm TypeExpr FuncDecl TypeSpec ValueSpec Element ListedExpr Block CaseClause CommClause ForStmt IfArm RangeStmt StmtLine SwitchStmt TypeSwitchStmt Param Params Signature Forest Forest Forest Forest Forest Forest Forest Forest Forest Forest Forest Forest Forest Forest Forest Forest Forest Forest Forest Forest Forest Forest Forest Forest view.view_decl view.view_expr view.view_stmt view.view_element_line view.view_field_line view.view_result_form view.view_type_expr view.view_func_decl view.view_type_spec view.view_value_spec view.view_element view.view_listed_expr view.view_block view.view_case_clause view.view_comm_clause view.view_for_stmt view.view_if_arm view.view_range_stmt view.view_stmt_line view.view_switch_stmt view.view_type_switch_stmt view.view_param view.view_params view.view_signature x)

abbrev pub fields_at_type_switch_stmt : TypeSwitchStmt-F Decl Expr Stmt ElementLine FieldLine ResultForm TypeExpr FuncDecl TypeSpec ValueSpec Element ListedExpr Block CaseClause CommClause ForStmt IfArm RangeStmt StmtLine SwitchStmt TypeSwitchStmt Param Params Signature → Marked
fields_at_type_switch_stmt x = fields.type_switch_stmt_layer (map-TypeSwitchStmt Decl Expr Stmt ElementLine FieldLine ResultForm TypeExpr FuncDecl TypeSpec ValueSpec Element ListedExpr Block CaseClause CommClause ForStmt IfArm RangeStmt StmtLine SwitchStmt TypeSwitchStmt Param Params Signature Marked Marked Marked Marked Marked Marked Marked Marked Marked Marked Marked Marked Marked Marked Marked Marked Marked Marked Marked Marked Marked Marked Marked Marked fields.fields_of_decl fields.fields_of_expr fields.fields_of_stmt fields.fields_of_element_line fields.fields_of_field_line fields.fields_of_result_form fields.fields_of_type_expr fields.fields_of_func_decl fields.fields_of_type_spec fields.fields_of_value_spec fields.fields_of_element fields.fields_of_listed_expr fields.fields_of_block fields.fields_of_case_clause fields.fields_of_comm_clause fields.fields_of_for_stmt fields.fields_of_if_arm fields.fields_of_range_stmt fields.fields_of_stmt_line fields.fields_of_switch_stmt fields.fields_of_type_switch_stmt fields.fields_of_param fields.fields_of_params fields.fields_of_signature x)

abbrev pub roles_at_type_switch_stmt : TypeSwitchStmt-F Decl Expr Stmt ElementLine FieldLine ResultForm TypeExpr FuncDecl TypeSpec ValueSpec Element ListedExpr Block CaseClause CommClause ForStmt IfArm RangeStmt StmtLine SwitchStmt TypeSwitchStmt Param Params Signature → Bool
roles_at_type_switch_stmt x = parts.type_switch_stmt_layer (map-TypeSwitchStmt Decl Expr Stmt ElementLine FieldLine ResultForm TypeExpr FuncDecl TypeSpec ValueSpec Element ListedExpr Block CaseClause CommClause ForStmt IfArm RangeStmt StmtLine SwitchStmt TypeSwitchStmt Param Params Signature Bool Bool Bool InList InList Bool Bool Bool InList InList InList InList Bool Bool Bool Bool Bool Bool InList Bool Bool InList Bool Bool roles_of_decl roles_of_expr roles_of_stmt roles_of_element_line roles_of_field_line roles_of_result_form roles_of_type_expr roles_of_func_decl roles_of_type_spec roles_of_value_spec roles_of_element roles_of_listed_expr roles_of_block roles_of_case_clause roles_of_comm_clause roles_of_for_stmt roles_of_if_arm roles_of_range_stmt roles_of_stmt_line roles_of_switch_stmt roles_of_type_switch_stmt roles_of_param roles_of_params roles_of_signature x)

abbrev pub bare_type_switch_stmt : TypeSwitchStmt-F DeclP ExprP StmtP ElementLineP FieldLineP ResultFormP TypeExprP FuncDeclP TypeSpecP ValueSpecP ElementP ListedExprP BlockP CaseClauseP CommClauseP ForStmtP IfArmP RangeStmtP StmtLineP SwitchStmtP TypeSwitchStmtP ParamP ParamsP SignatureP → TypeSwitchStmt-F Decl Expr Stmt ElementLine FieldLine ResultForm TypeExpr FuncDecl TypeSpec ValueSpec Element ListedExpr Block CaseClause CommClause ForStmt IfArm RangeStmt StmtLine SwitchStmt TypeSwitchStmt Param Params Signature
bare_type_switch_stmt y = map-TypeSwitchStmt DeclP ExprP StmtP ElementLineP FieldLineP ResultFormP TypeExprP FuncDeclP TypeSpecP ValueSpecP ElementP ListedExprP BlockP CaseClauseP CommClauseP ForStmtP IfArmP RangeStmtP StmtLineP SwitchStmtP TypeSwitchStmtP ParamP ParamsP SignatureP Decl Expr Stmt ElementLine FieldLine ResultForm TypeExpr FuncDecl TypeSpec ValueSpec Element ListedExpr Block CaseClause CommClause ForStmt IfArm RangeStmt StmtLine SwitchStmt TypeSwitchStmt Param Params Signature (λ e. e.0) (λ e. e.0) (λ e. e.0) (λ e. e.0) (λ e. e.0) (λ e. e.0) (λ e. e.0) (λ e. e.0) (λ e. e.0) (λ e. e.0) (λ e. e.0) (λ e. e.0) (λ e. e.0) (λ e. e.0) (λ e. e.0) (λ e. e.0) (λ e. e.0) (λ e. e.0) (λ e. e.0) (λ e. e.0) (λ e. e.0) (λ e. e.0) (λ e. e.0) (λ e. e.0) y

pub put_view_type_switch_stmt : (x : TypeSwitchStmt-F Decl Expr Stmt ElementLine FieldLine ResultForm TypeExpr FuncDecl TypeSpec ValueSpec Element ListedExpr Block CaseClause CommClause ForStmt IfArm RangeStmt StmtLine SwitchStmt TypeSwitchStmt Param Params Signature) → view.view_type_switch_stmt (roll-TypeSwitchStmt x) ≡ view_at_type_switch_stmt x
unfolding view.view_decl view.view_expr view.view_stmt view.view_element_line view.view_field_line view.view_result_form view.view_type_expr view.view_func_decl view.view_type_spec view.view_value_spec view.view_element view.view_listed_expr view.view_block view.view_case_clause view.view_comm_clause view.view_for_stmt view.view_if_arm view.view_range_stmt view.view_stmt_line view.view_switch_stmt view.view_type_switch_stmt view.view_param view.view_params view.view_signature
put_view_type_switch_stmt x = fold-roll-TypeSwitchStmt Forest Forest Forest Forest Forest Forest Forest Forest Forest Forest Forest Forest Forest Forest Forest Forest Forest Forest Forest Forest Forest Forest Forest Forest view.decl_layer view.expr_layer view.stmt_layer view.element_line_layer view.field_line_layer view.result_form_layer view.type_expr_layer view.func_decl_layer view.type_spec_layer view.value_spec_layer view.element_layer view.listed_expr_layer view.block_layer view.case_clause_layer view.comm_clause_layer view.for_stmt_layer view.if_arm_layer view.range_stmt_layer view.stmt_line_layer view.switch_stmt_layer view.type_switch_stmt_layer view.param_layer view.params_layer view.signature_layer x

pub put_fields_type_switch_stmt : (x : TypeSwitchStmt-F Decl Expr Stmt ElementLine FieldLine ResultForm TypeExpr FuncDecl TypeSpec ValueSpec Element ListedExpr Block CaseClause CommClause ForStmt IfArm RangeStmt StmtLine SwitchStmt TypeSwitchStmt Param Params Signature) → fields.fields_of_type_switch_stmt (roll-TypeSwitchStmt x) ≡ fields_at_type_switch_stmt x
unfolding fields.fields_of_decl fields.fields_of_expr fields.fields_of_stmt fields.fields_of_element_line fields.fields_of_field_line fields.fields_of_result_form fields.fields_of_type_expr fields.fields_of_func_decl fields.fields_of_type_spec fields.fields_of_value_spec fields.fields_of_element fields.fields_of_listed_expr fields.fields_of_block fields.fields_of_case_clause fields.fields_of_comm_clause fields.fields_of_for_stmt fields.fields_of_if_arm fields.fields_of_range_stmt fields.fields_of_stmt_line fields.fields_of_switch_stmt fields.fields_of_type_switch_stmt fields.fields_of_param fields.fields_of_params fields.fields_of_signature
put_fields_type_switch_stmt x = fold-roll-TypeSwitchStmt Marked Marked Marked Marked Marked Marked Marked Marked Marked Marked Marked Marked Marked Marked Marked Marked Marked Marked Marked Marked Marked Marked Marked Marked fields.decl_layer fields.expr_layer fields.stmt_layer fields.element_line_layer fields.field_line_layer fields.result_form_layer fields.type_expr_layer fields.func_decl_layer fields.type_spec_layer fields.value_spec_layer fields.element_layer fields.listed_expr_layer fields.block_layer fields.case_clause_layer fields.comm_clause_layer fields.for_stmt_layer fields.if_arm_layer fields.range_stmt_layer fields.stmt_line_layer fields.switch_stmt_layer fields.type_switch_stmt_layer fields.param_layer fields.params_layer fields.signature_layer x

pub put_roles_type_switch_stmt : (x : TypeSwitchStmt-F Decl Expr Stmt ElementLine FieldLine ResultForm TypeExpr FuncDecl TypeSpec ValueSpec Element ListedExpr Block CaseClause CommClause ForStmt IfArm RangeStmt StmtLine SwitchStmt TypeSwitchStmt Param Params Signature) → roles_of_type_switch_stmt (roll-TypeSwitchStmt x) ≡ roles_at_type_switch_stmt x
unfolding roles_of_decl roles_of_expr roles_of_stmt roles_of_element_line roles_of_field_line roles_of_result_form roles_of_type_expr roles_of_func_decl roles_of_type_spec roles_of_value_spec roles_of_element roles_of_listed_expr roles_of_block roles_of_case_clause roles_of_comm_clause roles_of_for_stmt roles_of_if_arm roles_of_range_stmt roles_of_stmt_line roles_of_switch_stmt roles_of_type_switch_stmt roles_of_param roles_of_params roles_of_signature
put_roles_type_switch_stmt x = fold-roll-TypeSwitchStmt Bool Bool Bool InList InList Bool Bool Bool InList InList InList InList Bool Bool Bool Bool Bool Bool InList Bool Bool InList Bool Bool parts.decl_layer parts.expr_layer parts.stmt_layer parts.element_line_layer parts.field_line_layer parts.result_form_layer parts.type_expr_layer parts.func_decl_layer parts.type_spec_layer parts.value_spec_layer parts.element_layer parts.listed_expr_layer parts.block_layer parts.case_clause_layer parts.comm_clause_layer parts.for_stmt_layer parts.if_arm_layer parts.range_stmt_layer parts.stmt_line_layer parts.switch_stmt_layer parts.type_switch_stmt_layer parts.param_layer parts.params_layer parts.signature_layer x

abbrev pub view_at_param : Param-F Decl Expr Stmt ElementLine FieldLine ResultForm TypeExpr FuncDecl TypeSpec ValueSpec Element ListedExpr Block CaseClause CommClause ForStmt IfArm RangeStmt StmtLine SwitchStmt TypeSwitchStmt Param Params Signature → Forest
view_at_param x = view.param_layer (map-Param Decl Expr Stmt ElementLine FieldLine ResultForm TypeExpr FuncDecl TypeSpec ValueSpec Element ListedExpr Block CaseClause CommClause ForStmt IfArm RangeStmt StmtLine SwitchStmt TypeSwitchStmt Param Params Signature Forest Forest Forest Forest Forest Forest Forest Forest Forest Forest Forest Forest Forest Forest Forest Forest Forest Forest Forest Forest Forest Forest Forest Forest view.view_decl view.view_expr view.view_stmt view.view_element_line view.view_field_line view.view_result_form view.view_type_expr view.view_func_decl view.view_type_spec view.view_value_spec view.view_element view.view_listed_expr view.view_block view.view_case_clause view.view_comm_clause view.view_for_stmt view.view_if_arm view.view_range_stmt view.view_stmt_line view.view_switch_stmt view.view_type_switch_stmt view.view_param view.view_params view.view_signature x)

abbrev pub fields_at_param : Param-F Decl Expr Stmt ElementLine FieldLine ResultForm TypeExpr FuncDecl TypeSpec ValueSpec Element ListedExpr Block CaseClause CommClause ForStmt IfArm RangeStmt StmtLine SwitchStmt TypeSwitchStmt Param Params Signature → Marked
fields_at_param x = fields.param_layer (map-Param Decl Expr Stmt ElementLine FieldLine ResultForm TypeExpr FuncDecl TypeSpec ValueSpec Element ListedExpr Block CaseClause CommClause ForStmt IfArm RangeStmt StmtLine SwitchStmt TypeSwitchStmt Param Params Signature Marked Marked Marked Marked Marked Marked Marked Marked Marked Marked Marked Marked Marked Marked Marked Marked Marked Marked Marked Marked Marked Marked Marked Marked fields.fields_of_decl fields.fields_of_expr fields.fields_of_stmt fields.fields_of_element_line fields.fields_of_field_line fields.fields_of_result_form fields.fields_of_type_expr fields.fields_of_func_decl fields.fields_of_type_spec fields.fields_of_value_spec fields.fields_of_element fields.fields_of_listed_expr fields.fields_of_block fields.fields_of_case_clause fields.fields_of_comm_clause fields.fields_of_for_stmt fields.fields_of_if_arm fields.fields_of_range_stmt fields.fields_of_stmt_line fields.fields_of_switch_stmt fields.fields_of_type_switch_stmt fields.fields_of_param fields.fields_of_params fields.fields_of_signature x)

abbrev pub roles_at_param : Param-F Decl Expr Stmt ElementLine FieldLine ResultForm TypeExpr FuncDecl TypeSpec ValueSpec Element ListedExpr Block CaseClause CommClause ForStmt IfArm RangeStmt StmtLine SwitchStmt TypeSwitchStmt Param Params Signature → InList
roles_at_param x = parts.param_layer (map-Param Decl Expr Stmt ElementLine FieldLine ResultForm TypeExpr FuncDecl TypeSpec ValueSpec Element ListedExpr Block CaseClause CommClause ForStmt IfArm RangeStmt StmtLine SwitchStmt TypeSwitchStmt Param Params Signature Bool Bool Bool InList InList Bool Bool Bool InList InList InList InList Bool Bool Bool Bool Bool Bool InList Bool Bool InList Bool Bool roles_of_decl roles_of_expr roles_of_stmt roles_of_element_line roles_of_field_line roles_of_result_form roles_of_type_expr roles_of_func_decl roles_of_type_spec roles_of_value_spec roles_of_element roles_of_listed_expr roles_of_block roles_of_case_clause roles_of_comm_clause roles_of_for_stmt roles_of_if_arm roles_of_range_stmt roles_of_stmt_line roles_of_switch_stmt roles_of_type_switch_stmt roles_of_param roles_of_params roles_of_signature x)

abbrev pub bare_param : Param-F DeclP ExprP StmtP ElementLineP FieldLineP ResultFormP TypeExprP FuncDeclP TypeSpecP ValueSpecP ElementP ListedExprP BlockP CaseClauseP CommClauseP ForStmtP IfArmP RangeStmtP StmtLineP SwitchStmtP TypeSwitchStmtP ParamP ParamsP SignatureP → Param-F Decl Expr Stmt ElementLine FieldLine ResultForm TypeExpr FuncDecl TypeSpec ValueSpec Element ListedExpr Block CaseClause CommClause ForStmt IfArm RangeStmt StmtLine SwitchStmt TypeSwitchStmt Param Params Signature
bare_param y = map-Param DeclP ExprP StmtP ElementLineP FieldLineP ResultFormP TypeExprP FuncDeclP TypeSpecP ValueSpecP ElementP ListedExprP BlockP CaseClauseP CommClauseP ForStmtP IfArmP RangeStmtP StmtLineP SwitchStmtP TypeSwitchStmtP ParamP ParamsP SignatureP Decl Expr Stmt ElementLine FieldLine ResultForm TypeExpr FuncDecl TypeSpec ValueSpec Element ListedExpr Block CaseClause CommClause ForStmt IfArm RangeStmt StmtLine SwitchStmt TypeSwitchStmt Param Params Signature (λ e. e.0) (λ e. e.0) (λ e. e.0) (λ e. e.0) (λ e. e.0) (λ e. e.0) (λ e. e.0) (λ e. e.0) (λ e. e.0) (λ e. e.0) (λ e. e.0) (λ e. e.0) (λ e. e.0) (λ e. e.0) (λ e. e.0) (λ e. e.0) (λ e. e.0) (λ e. e.0) (λ e. e.0) (λ e. e.0) (λ e. e.0) (λ e. e.0) (λ e. e.0) (λ e. e.0) y

pub put_view_param : (x : Param-F Decl Expr Stmt ElementLine FieldLine ResultForm TypeExpr FuncDecl TypeSpec ValueSpec Element ListedExpr Block CaseClause CommClause ForStmt IfArm RangeStmt StmtLine SwitchStmt TypeSwitchStmt Param Params Signature) → view.view_param (roll-Param x) ≡ view_at_param x
unfolding view.view_decl view.view_expr view.view_stmt view.view_element_line view.view_field_line view.view_result_form view.view_type_expr view.view_func_decl view.view_type_spec view.view_value_spec view.view_element view.view_listed_expr view.view_block view.view_case_clause view.view_comm_clause view.view_for_stmt view.view_if_arm view.view_range_stmt view.view_stmt_line view.view_switch_stmt view.view_type_switch_stmt view.view_param view.view_params view.view_signature
put_view_param x = fold-roll-Param Forest Forest Forest Forest Forest Forest Forest Forest Forest Forest Forest Forest Forest Forest Forest Forest Forest Forest Forest Forest Forest Forest Forest Forest view.decl_layer view.expr_layer view.stmt_layer view.element_line_layer view.field_line_layer view.result_form_layer view.type_expr_layer view.func_decl_layer view.type_spec_layer view.value_spec_layer view.element_layer view.listed_expr_layer view.block_layer view.case_clause_layer view.comm_clause_layer view.for_stmt_layer view.if_arm_layer view.range_stmt_layer view.stmt_line_layer view.switch_stmt_layer view.type_switch_stmt_layer view.param_layer view.params_layer view.signature_layer x

pub put_fields_param : (x : Param-F Decl Expr Stmt ElementLine FieldLine ResultForm TypeExpr FuncDecl TypeSpec ValueSpec Element ListedExpr Block CaseClause CommClause ForStmt IfArm RangeStmt StmtLine SwitchStmt TypeSwitchStmt Param Params Signature) → fields.fields_of_param (roll-Param x) ≡ fields_at_param x
unfolding fields.fields_of_decl fields.fields_of_expr fields.fields_of_stmt fields.fields_of_element_line fields.fields_of_field_line fields.fields_of_result_form fields.fields_of_type_expr fields.fields_of_func_decl fields.fields_of_type_spec fields.fields_of_value_spec fields.fields_of_element fields.fields_of_listed_expr fields.fields_of_block fields.fields_of_case_clause fields.fields_of_comm_clause fields.fields_of_for_stmt fields.fields_of_if_arm fields.fields_of_range_stmt fields.fields_of_stmt_line fields.fields_of_switch_stmt fields.fields_of_type_switch_stmt fields.fields_of_param fields.fields_of_params fields.fields_of_signature
put_fields_param x = fold-roll-Param Marked Marked Marked Marked Marked Marked Marked Marked Marked Marked Marked Marked Marked Marked Marked Marked Marked Marked Marked Marked Marked Marked Marked Marked fields.decl_layer fields.expr_layer fields.stmt_layer fields.element_line_layer fields.field_line_layer fields.result_form_layer fields.type_expr_layer fields.func_decl_layer fields.type_spec_layer fields.value_spec_layer fields.element_layer fields.listed_expr_layer fields.block_layer fields.case_clause_layer fields.comm_clause_layer fields.for_stmt_layer fields.if_arm_layer fields.range_stmt_layer fields.stmt_line_layer fields.switch_stmt_layer fields.type_switch_stmt_layer fields.param_layer fields.params_layer fields.signature_layer x

pub put_roles_param : (x : Param-F Decl Expr Stmt ElementLine FieldLine ResultForm TypeExpr FuncDecl TypeSpec ValueSpec Element ListedExpr Block CaseClause CommClause ForStmt IfArm RangeStmt StmtLine SwitchStmt TypeSwitchStmt Param Params Signature) → roles_of_param (roll-Param x) ≡ roles_at_param x
unfolding roles_of_decl roles_of_expr roles_of_stmt roles_of_element_line roles_of_field_line roles_of_result_form roles_of_type_expr roles_of_func_decl roles_of_type_spec roles_of_value_spec roles_of_element roles_of_listed_expr roles_of_block roles_of_case_clause roles_of_comm_clause roles_of_for_stmt roles_of_if_arm roles_of_range_stmt roles_of_stmt_line roles_of_switch_stmt roles_of_type_switch_stmt roles_of_param roles_of_params roles_of_signature
put_roles_param x = fold-roll-Param Bool Bool Bool InList InList Bool Bool Bool InList InList InList InList Bool Bool Bool Bool Bool Bool InList Bool Bool InList Bool Bool parts.decl_layer parts.expr_layer parts.stmt_layer parts.element_line_layer parts.field_line_layer parts.result_form_layer parts.type_expr_layer parts.func_decl_layer parts.type_spec_layer parts.value_spec_layer parts.element_layer parts.listed_expr_layer parts.block_layer parts.case_clause_layer parts.comm_clause_layer parts.for_stmt_layer parts.if_arm_layer parts.range_stmt_layer parts.stmt_line_layer parts.switch_stmt_layer parts.type_switch_stmt_layer parts.param_layer parts.params_layer parts.signature_layer x

abbrev pub view_at_params : Params-F Decl Expr Stmt ElementLine FieldLine ResultForm TypeExpr FuncDecl TypeSpec ValueSpec Element ListedExpr Block CaseClause CommClause ForStmt IfArm RangeStmt StmtLine SwitchStmt TypeSwitchStmt Param Params Signature → Forest
view_at_params x = view.params_layer (map-Params Decl Expr Stmt ElementLine FieldLine ResultForm TypeExpr FuncDecl TypeSpec ValueSpec Element ListedExpr Block CaseClause CommClause ForStmt IfArm RangeStmt StmtLine SwitchStmt TypeSwitchStmt Param Params Signature Forest Forest Forest Forest Forest Forest Forest Forest Forest Forest Forest Forest Forest Forest Forest Forest Forest Forest Forest Forest Forest Forest Forest Forest view.view_decl view.view_expr view.view_stmt view.view_element_line view.view_field_line view.view_result_form view.view_type_expr view.view_func_decl view.view_type_spec view.view_value_spec view.view_element view.view_listed_expr view.view_block view.view_case_clause view.view_comm_clause view.view_for_stmt view.view_if_arm view.view_range_stmt view.view_stmt_line view.view_switch_stmt view.view_type_switch_stmt view.view_param view.view_params view.view_signature x)

abbrev pub fields_at_params : Params-F Decl Expr Stmt ElementLine FieldLine ResultForm TypeExpr FuncDecl TypeSpec ValueSpec Element ListedExpr Block CaseClause CommClause ForStmt IfArm RangeStmt StmtLine SwitchStmt TypeSwitchStmt Param Params Signature → Marked
fields_at_params x = fields.params_layer (map-Params Decl Expr Stmt ElementLine FieldLine ResultForm TypeExpr FuncDecl TypeSpec ValueSpec Element ListedExpr Block CaseClause CommClause ForStmt IfArm RangeStmt StmtLine SwitchStmt TypeSwitchStmt Param Params Signature Marked Marked Marked Marked Marked Marked Marked Marked Marked Marked Marked Marked Marked Marked Marked Marked Marked Marked Marked Marked Marked Marked Marked Marked fields.fields_of_decl fields.fields_of_expr fields.fields_of_stmt fields.fields_of_element_line fields.fields_of_field_line fields.fields_of_result_form fields.fields_of_type_expr fields.fields_of_func_decl fields.fields_of_type_spec fields.fields_of_value_spec fields.fields_of_element fields.fields_of_listed_expr fields.fields_of_block fields.fields_of_case_clause fields.fields_of_comm_clause fields.fields_of_for_stmt fields.fields_of_if_arm fields.fields_of_range_stmt fields.fields_of_stmt_line fields.fields_of_switch_stmt fields.fields_of_type_switch_stmt fields.fields_of_param fields.fields_of_params fields.fields_of_signature x)

abbrev pub roles_at_params : Params-F Decl Expr Stmt ElementLine FieldLine ResultForm TypeExpr FuncDecl TypeSpec ValueSpec Element ListedExpr Block CaseClause CommClause ForStmt IfArm RangeStmt StmtLine SwitchStmt TypeSwitchStmt Param Params Signature → Bool
roles_at_params x = parts.params_layer (map-Params Decl Expr Stmt ElementLine FieldLine ResultForm TypeExpr FuncDecl TypeSpec ValueSpec Element ListedExpr Block CaseClause CommClause ForStmt IfArm RangeStmt StmtLine SwitchStmt TypeSwitchStmt Param Params Signature Bool Bool Bool InList InList Bool Bool Bool InList InList InList InList Bool Bool Bool Bool Bool Bool InList Bool Bool InList Bool Bool roles_of_decl roles_of_expr roles_of_stmt roles_of_element_line roles_of_field_line roles_of_result_form roles_of_type_expr roles_of_func_decl roles_of_type_spec roles_of_value_spec roles_of_element roles_of_listed_expr roles_of_block roles_of_case_clause roles_of_comm_clause roles_of_for_stmt roles_of_if_arm roles_of_range_stmt roles_of_stmt_line roles_of_switch_stmt roles_of_type_switch_stmt roles_of_param roles_of_params roles_of_signature x)

abbrev pub bare_params : Params-F DeclP ExprP StmtP ElementLineP FieldLineP ResultFormP TypeExprP FuncDeclP TypeSpecP ValueSpecP ElementP ListedExprP BlockP CaseClauseP CommClauseP ForStmtP IfArmP RangeStmtP StmtLineP SwitchStmtP TypeSwitchStmtP ParamP ParamsP SignatureP → Params-F Decl Expr Stmt ElementLine FieldLine ResultForm TypeExpr FuncDecl TypeSpec ValueSpec Element ListedExpr Block CaseClause CommClause ForStmt IfArm RangeStmt StmtLine SwitchStmt TypeSwitchStmt Param Params Signature
bare_params y = map-Params DeclP ExprP StmtP ElementLineP FieldLineP ResultFormP TypeExprP FuncDeclP TypeSpecP ValueSpecP ElementP ListedExprP BlockP CaseClauseP CommClauseP ForStmtP IfArmP RangeStmtP StmtLineP SwitchStmtP TypeSwitchStmtP ParamP ParamsP SignatureP Decl Expr Stmt ElementLine FieldLine ResultForm TypeExpr FuncDecl TypeSpec ValueSpec Element ListedExpr Block CaseClause CommClause ForStmt IfArm RangeStmt StmtLine SwitchStmt TypeSwitchStmt Param Params Signature (λ e. e.0) (λ e. e.0) (λ e. e.0) (λ e. e.0) (λ e. e.0) (λ e. e.0) (λ e. e.0) (λ e. e.0) (λ e. e.0) (λ e. e.0) (λ e. e.0) (λ e. e.0) (λ e. e.0) (λ e. e.0) (λ e. e.0) (λ e. e.0) (λ e. e.0) (λ e. e.0) (λ e. e.0) (λ e. e.0) (λ e. e.0) (λ e. e.0) (λ e. e.0) (λ e. e.0) y

pub put_view_params : (x : Params-F Decl Expr Stmt ElementLine FieldLine ResultForm TypeExpr FuncDecl TypeSpec ValueSpec Element ListedExpr Block CaseClause CommClause ForStmt IfArm RangeStmt StmtLine SwitchStmt TypeSwitchStmt Param Params Signature) → view.view_params (roll-Params x) ≡ view_at_params x
unfolding view.view_decl view.view_expr view.view_stmt view.view_element_line view.view_field_line view.view_result_form view.view_type_expr view.view_func_decl view.view_type_spec view.view_value_spec view.view_element view.view_listed_expr view.view_block view.view_case_clause view.view_comm_clause view.view_for_stmt view.view_if_arm view.view_range_stmt view.view_stmt_line view.view_switch_stmt view.view_type_switch_stmt view.view_param view.view_params view.view_signature
put_view_params x = fold-roll-Params Forest Forest Forest Forest Forest Forest Forest Forest Forest Forest Forest Forest Forest Forest Forest Forest Forest Forest Forest Forest Forest Forest Forest Forest view.decl_layer view.expr_layer view.stmt_layer view.element_line_layer view.field_line_layer view.result_form_layer view.type_expr_layer view.func_decl_layer view.type_spec_layer view.value_spec_layer view.element_layer view.listed_expr_layer view.block_layer view.case_clause_layer view.comm_clause_layer view.for_stmt_layer view.if_arm_layer view.range_stmt_layer view.stmt_line_layer view.switch_stmt_layer view.type_switch_stmt_layer view.param_layer view.params_layer view.signature_layer x

pub put_fields_params : (x : Params-F Decl Expr Stmt ElementLine FieldLine ResultForm TypeExpr FuncDecl TypeSpec ValueSpec Element ListedExpr Block CaseClause CommClause ForStmt IfArm RangeStmt StmtLine SwitchStmt TypeSwitchStmt Param Params Signature) → fields.fields_of_params (roll-Params x) ≡ fields_at_params x
unfolding fields.fields_of_decl fields.fields_of_expr fields.fields_of_stmt fields.fields_of_element_line fields.fields_of_field_line fields.fields_of_result_form fields.fields_of_type_expr fields.fields_of_func_decl fields.fields_of_type_spec fields.fields_of_value_spec fields.fields_of_element fields.fields_of_listed_expr fields.fields_of_block fields.fields_of_case_clause fields.fields_of_comm_clause fields.fields_of_for_stmt fields.fields_of_if_arm fields.fields_of_range_stmt fields.fields_of_stmt_line fields.fields_of_switch_stmt fields.fields_of_type_switch_stmt fields.fields_of_param fields.fields_of_params fields.fields_of_signature
put_fields_params x = fold-roll-Params Marked Marked Marked Marked Marked Marked Marked Marked Marked Marked Marked Marked Marked Marked Marked Marked Marked Marked Marked Marked Marked Marked Marked Marked fields.decl_layer fields.expr_layer fields.stmt_layer fields.element_line_layer fields.field_line_layer fields.result_form_layer fields.type_expr_layer fields.func_decl_layer fields.type_spec_layer fields.value_spec_layer fields.element_layer fields.listed_expr_layer fields.block_layer fields.case_clause_layer fields.comm_clause_layer fields.for_stmt_layer fields.if_arm_layer fields.range_stmt_layer fields.stmt_line_layer fields.switch_stmt_layer fields.type_switch_stmt_layer fields.param_layer fields.params_layer fields.signature_layer x

pub put_roles_params : (x : Params-F Decl Expr Stmt ElementLine FieldLine ResultForm TypeExpr FuncDecl TypeSpec ValueSpec Element ListedExpr Block CaseClause CommClause ForStmt IfArm RangeStmt StmtLine SwitchStmt TypeSwitchStmt Param Params Signature) → roles_of_params (roll-Params x) ≡ roles_at_params x
unfolding roles_of_decl roles_of_expr roles_of_stmt roles_of_element_line roles_of_field_line roles_of_result_form roles_of_type_expr roles_of_func_decl roles_of_type_spec roles_of_value_spec roles_of_element roles_of_listed_expr roles_of_block roles_of_case_clause roles_of_comm_clause roles_of_for_stmt roles_of_if_arm roles_of_range_stmt roles_of_stmt_line roles_of_switch_stmt roles_of_type_switch_stmt roles_of_param roles_of_params roles_of_signature
put_roles_params x = fold-roll-Params Bool Bool Bool InList InList Bool Bool Bool InList InList InList InList Bool Bool Bool Bool Bool Bool InList Bool Bool InList Bool Bool parts.decl_layer parts.expr_layer parts.stmt_layer parts.element_line_layer parts.field_line_layer parts.result_form_layer parts.type_expr_layer parts.func_decl_layer parts.type_spec_layer parts.value_spec_layer parts.element_layer parts.listed_expr_layer parts.block_layer parts.case_clause_layer parts.comm_clause_layer parts.for_stmt_layer parts.if_arm_layer parts.range_stmt_layer parts.stmt_line_layer parts.switch_stmt_layer parts.type_switch_stmt_layer parts.param_layer parts.params_layer parts.signature_layer x

abbrev pub view_at_signature : Signature-F Decl Expr Stmt ElementLine FieldLine ResultForm TypeExpr FuncDecl TypeSpec ValueSpec Element ListedExpr Block CaseClause CommClause ForStmt IfArm RangeStmt StmtLine SwitchStmt TypeSwitchStmt Param Params Signature → Forest
view_at_signature x = view.signature_layer (map-Signature Decl Expr Stmt ElementLine FieldLine ResultForm TypeExpr FuncDecl TypeSpec ValueSpec Element ListedExpr Block CaseClause CommClause ForStmt IfArm RangeStmt StmtLine SwitchStmt TypeSwitchStmt Param Params Signature Forest Forest Forest Forest Forest Forest Forest Forest Forest Forest Forest Forest Forest Forest Forest Forest Forest Forest Forest Forest Forest Forest Forest Forest view.view_decl view.view_expr view.view_stmt view.view_element_line view.view_field_line view.view_result_form view.view_type_expr view.view_func_decl view.view_type_spec view.view_value_spec view.view_element view.view_listed_expr view.view_block view.view_case_clause view.view_comm_clause view.view_for_stmt view.view_if_arm view.view_range_stmt view.view_stmt_line view.view_switch_stmt view.view_type_switch_stmt view.view_param view.view_params view.view_signature x)

abbrev pub fields_at_signature : Signature-F Decl Expr Stmt ElementLine FieldLine ResultForm TypeExpr FuncDecl TypeSpec ValueSpec Element ListedExpr Block CaseClause CommClause ForStmt IfArm RangeStmt StmtLine SwitchStmt TypeSwitchStmt Param Params Signature → Marked
fields_at_signature x = fields.signature_layer (map-Signature Decl Expr Stmt ElementLine FieldLine ResultForm TypeExpr FuncDecl TypeSpec ValueSpec Element ListedExpr Block CaseClause CommClause ForStmt IfArm RangeStmt StmtLine SwitchStmt TypeSwitchStmt Param Params Signature Marked Marked Marked Marked Marked Marked Marked Marked Marked Marked Marked Marked Marked Marked Marked Marked Marked Marked Marked Marked Marked Marked Marked Marked fields.fields_of_decl fields.fields_of_expr fields.fields_of_stmt fields.fields_of_element_line fields.fields_of_field_line fields.fields_of_result_form fields.fields_of_type_expr fields.fields_of_func_decl fields.fields_of_type_spec fields.fields_of_value_spec fields.fields_of_element fields.fields_of_listed_expr fields.fields_of_block fields.fields_of_case_clause fields.fields_of_comm_clause fields.fields_of_for_stmt fields.fields_of_if_arm fields.fields_of_range_stmt fields.fields_of_stmt_line fields.fields_of_switch_stmt fields.fields_of_type_switch_stmt fields.fields_of_param fields.fields_of_params fields.fields_of_signature x)

abbrev pub roles_at_signature : Signature-F Decl Expr Stmt ElementLine FieldLine ResultForm TypeExpr FuncDecl TypeSpec ValueSpec Element ListedExpr Block CaseClause CommClause ForStmt IfArm RangeStmt StmtLine SwitchStmt TypeSwitchStmt Param Params Signature → Bool
roles_at_signature x = parts.signature_layer (map-Signature Decl Expr Stmt ElementLine FieldLine ResultForm TypeExpr FuncDecl TypeSpec ValueSpec Element ListedExpr Block CaseClause CommClause ForStmt IfArm RangeStmt StmtLine SwitchStmt TypeSwitchStmt Param Params Signature Bool Bool Bool InList InList Bool Bool Bool InList InList InList InList Bool Bool Bool Bool Bool Bool InList Bool Bool InList Bool Bool roles_of_decl roles_of_expr roles_of_stmt roles_of_element_line roles_of_field_line roles_of_result_form roles_of_type_expr roles_of_func_decl roles_of_type_spec roles_of_value_spec roles_of_element roles_of_listed_expr roles_of_block roles_of_case_clause roles_of_comm_clause roles_of_for_stmt roles_of_if_arm roles_of_range_stmt roles_of_stmt_line roles_of_switch_stmt roles_of_type_switch_stmt roles_of_param roles_of_params roles_of_signature x)

abbrev pub bare_signature : Signature-F DeclP ExprP StmtP ElementLineP FieldLineP ResultFormP TypeExprP FuncDeclP TypeSpecP ValueSpecP ElementP ListedExprP BlockP CaseClauseP CommClauseP ForStmtP IfArmP RangeStmtP StmtLineP SwitchStmtP TypeSwitchStmtP ParamP ParamsP SignatureP → Signature-F Decl Expr Stmt ElementLine FieldLine ResultForm TypeExpr FuncDecl TypeSpec ValueSpec Element ListedExpr Block CaseClause CommClause ForStmt IfArm RangeStmt StmtLine SwitchStmt TypeSwitchStmt Param Params Signature
bare_signature y = map-Signature DeclP ExprP StmtP ElementLineP FieldLineP ResultFormP TypeExprP FuncDeclP TypeSpecP ValueSpecP ElementP ListedExprP BlockP CaseClauseP CommClauseP ForStmtP IfArmP RangeStmtP StmtLineP SwitchStmtP TypeSwitchStmtP ParamP ParamsP SignatureP Decl Expr Stmt ElementLine FieldLine ResultForm TypeExpr FuncDecl TypeSpec ValueSpec Element ListedExpr Block CaseClause CommClause ForStmt IfArm RangeStmt StmtLine SwitchStmt TypeSwitchStmt Param Params Signature (λ e. e.0) (λ e. e.0) (λ e. e.0) (λ e. e.0) (λ e. e.0) (λ e. e.0) (λ e. e.0) (λ e. e.0) (λ e. e.0) (λ e. e.0) (λ e. e.0) (λ e. e.0) (λ e. e.0) (λ e. e.0) (λ e. e.0) (λ e. e.0) (λ e. e.0) (λ e. e.0) (λ e. e.0) (λ e. e.0) (λ e. e.0) (λ e. e.0) (λ e. e.0) (λ e. e.0) y

pub put_view_signature : (x : Signature-F Decl Expr Stmt ElementLine FieldLine ResultForm TypeExpr FuncDecl TypeSpec ValueSpec Element ListedExpr Block CaseClause CommClause ForStmt IfArm RangeStmt StmtLine SwitchStmt TypeSwitchStmt Param Params Signature) → view.view_signature (roll-Signature x) ≡ view_at_signature x
unfolding view.view_decl view.view_expr view.view_stmt view.view_element_line view.view_field_line view.view_result_form view.view_type_expr view.view_func_decl view.view_type_spec view.view_value_spec view.view_element view.view_listed_expr view.view_block view.view_case_clause view.view_comm_clause view.view_for_stmt view.view_if_arm view.view_range_stmt view.view_stmt_line view.view_switch_stmt view.view_type_switch_stmt view.view_param view.view_params view.view_signature
put_view_signature x = fold-roll-Signature Forest Forest Forest Forest Forest Forest Forest Forest Forest Forest Forest Forest Forest Forest Forest Forest Forest Forest Forest Forest Forest Forest Forest Forest view.decl_layer view.expr_layer view.stmt_layer view.element_line_layer view.field_line_layer view.result_form_layer view.type_expr_layer view.func_decl_layer view.type_spec_layer view.value_spec_layer view.element_layer view.listed_expr_layer view.block_layer view.case_clause_layer view.comm_clause_layer view.for_stmt_layer view.if_arm_layer view.range_stmt_layer view.stmt_line_layer view.switch_stmt_layer view.type_switch_stmt_layer view.param_layer view.params_layer view.signature_layer x

pub put_fields_signature : (x : Signature-F Decl Expr Stmt ElementLine FieldLine ResultForm TypeExpr FuncDecl TypeSpec ValueSpec Element ListedExpr Block CaseClause CommClause ForStmt IfArm RangeStmt StmtLine SwitchStmt TypeSwitchStmt Param Params Signature) → fields.fields_of_signature (roll-Signature x) ≡ fields_at_signature x
unfolding fields.fields_of_decl fields.fields_of_expr fields.fields_of_stmt fields.fields_of_element_line fields.fields_of_field_line fields.fields_of_result_form fields.fields_of_type_expr fields.fields_of_func_decl fields.fields_of_type_spec fields.fields_of_value_spec fields.fields_of_element fields.fields_of_listed_expr fields.fields_of_block fields.fields_of_case_clause fields.fields_of_comm_clause fields.fields_of_for_stmt fields.fields_of_if_arm fields.fields_of_range_stmt fields.fields_of_stmt_line fields.fields_of_switch_stmt fields.fields_of_type_switch_stmt fields.fields_of_param fields.fields_of_params fields.fields_of_signature
put_fields_signature x = fold-roll-Signature Marked Marked Marked Marked Marked Marked Marked Marked Marked Marked Marked Marked Marked Marked Marked Marked Marked Marked Marked Marked Marked Marked Marked Marked fields.decl_layer fields.expr_layer fields.stmt_layer fields.element_line_layer fields.field_line_layer fields.result_form_layer fields.type_expr_layer fields.func_decl_layer fields.type_spec_layer fields.value_spec_layer fields.element_layer fields.listed_expr_layer fields.block_layer fields.case_clause_layer fields.comm_clause_layer fields.for_stmt_layer fields.if_arm_layer fields.range_stmt_layer fields.stmt_line_layer fields.switch_stmt_layer fields.type_switch_stmt_layer fields.param_layer fields.params_layer fields.signature_layer x

pub put_roles_signature : (x : Signature-F Decl Expr Stmt ElementLine FieldLine ResultForm TypeExpr FuncDecl TypeSpec ValueSpec Element ListedExpr Block CaseClause CommClause ForStmt IfArm RangeStmt StmtLine SwitchStmt TypeSwitchStmt Param Params Signature) → roles_of_signature (roll-Signature x) ≡ roles_at_signature x
unfolding roles_of_decl roles_of_expr roles_of_stmt roles_of_element_line roles_of_field_line roles_of_result_form roles_of_type_expr roles_of_func_decl roles_of_type_spec roles_of_value_spec roles_of_element roles_of_listed_expr roles_of_block roles_of_case_clause roles_of_comm_clause roles_of_for_stmt roles_of_if_arm roles_of_range_stmt roles_of_stmt_line roles_of_switch_stmt roles_of_type_switch_stmt roles_of_param roles_of_params roles_of_signature
put_roles_signature x = fold-roll-Signature Bool Bool Bool InList InList Bool Bool Bool InList InList InList InList Bool Bool Bool Bool Bool Bool InList Bool Bool InList Bool Bool parts.decl_layer parts.expr_layer parts.stmt_layer parts.element_line_layer parts.field_line_layer parts.result_form_layer parts.type_expr_layer parts.func_decl_layer parts.type_spec_layer parts.value_spec_layer parts.element_layer parts.listed_expr_layer parts.block_layer parts.case_clause_layer parts.comm_clause_layer parts.for_stmt_layer parts.if_arm_layer parts.range_stmt_layer parts.stmt_line_layer parts.switch_stmt_layer parts.type_switch_stmt_layer parts.param_layer parts.params_layer parts.signature_layer x
