-- What is seen of an expression or a type, by its variant.
use Rattle.std.proofs.Common.{◌≡◌, Bool, true, false, Option, Some, None, refl, sym, ap, ◌∙◌}
use Rattle.std.specs.Prelude.{if◌then◌else◌}
use Rattle.std.specs.Global.{Box}
use Rattle.go_ast.specs.declared.token.Token.{Token}
use Rattle.go_syntax.specs.declared.decls.Decl.{Decl}
use Rattle.go_syntax.specs.declared.exprs.Expr.{Expr}
use Rattle.go_syntax.specs.declared.stmts.Stmt.{Stmt}
use Rattle.go_syntax.specs.declared.type_exprs.ElementLine.{ElementLine}
use Rattle.go_syntax.specs.declared.type_exprs.FieldLine.{FieldLine}
use Rattle.go_syntax.specs.declared.type_exprs.ResultForm.{ResultForm}
use Rattle.go_syntax.specs.declared.type_exprs.NamedType.{NamedType}
use Rattle.go_syntax.specs.declared.type_exprs.TypeExpr.{TypeExpr}
use Rattle.go_syntax.specs.declared.decls.FuncDecl.{FuncDecl}
use Rattle.go_syntax.specs.declared.decls.TypeSpec.{TypeSpec}
use Rattle.go_syntax.specs.declared.decls.ValueSpec.{ValueSpec}
use Rattle.go_syntax.specs.declared.exprs.Element.{Element}
use Rattle.go_syntax.specs.declared.exprs.ListedExpr.{ListedExpr}
use Rattle.go_syntax.specs.declared.stmts.Block.{Block}
use Rattle.go_syntax.specs.declared.stmts.CaseClause.{CaseClause}
use Rattle.go_syntax.specs.declared.stmts.CommClause.{CommClause}
use Rattle.go_syntax.specs.declared.stmts.ForStmt.{ForStmt}
use Rattle.go_syntax.specs.declared.stmts.IfArm.{IfArm}
use Rattle.go_syntax.specs.declared.stmts.RangeStmt.{RangeStmt}
use Rattle.go_syntax.specs.declared.stmts.StmtLine.{StmtLine}
use Rattle.go_syntax.specs.declared.stmts.SwitchStmt.{SwitchStmt}
use Rattle.go_syntax.specs.declared.stmts.TypeSwitchStmt.{TypeSwitchStmt}
use Rattle.go_syntax.specs.declared.type_exprs.Param.{Param}
use Rattle.go_syntax.specs.declared.type_exprs.Params.{Params}
use Rattle.go_syntax.specs.declared.type_exprs.Signature.{Signature}
use Rattle.go_syntax.specs.declared.decls.Decl.TheOpen as layers
use Rattle.go_syntax.specs.declared.decls.Decl.TheOpen.{Decl-F, Expr-F, Stmt-F, ElementLine-F, FieldLine-F, ResultForm-F, TypeExpr-F, FuncDecl-F, TypeSpec-F, ValueSpec-F, Element-F, ListedExpr-F, Block-F, CaseClause-F, CommClause-F, ForStmt-F, IfArm-F, RangeStmt-F, StmtLine-F, SwitchStmt-F, TypeSwitchStmt-F, Param-F, Params-F, Signature-F}
use Rattle.go_syntax.specs.declared.type_exprs.NamedType.TheVariants as named
use Rattle.go_syntax.specs.declared.exprs.Expr.TheVariants as exprs
use Rattle.go_syntax.specs.declared.type_exprs.TypeExpr.TheVariants as types
use Rattle.go_syntax.specs.declared.decls.Decl.TheViews.{out-Expr, roll-Expr, roll-out-Expr, out-TypeExpr, roll-TypeExpr, roll-out-TypeExpr}
use Rattle.go_syntax.specs.declared.decls.Decl.TheFolds.{fold-roll-Expr, fold-roll-TypeExpr, map-Expr, map-TypeExpr}
use Rattle.go_grammar.specs.Forests as forms
use Rattle.go_grammar.specs.Forests.{Form, Forest, empty, leaf, node, append}
use Rattle.go_grammar.specs.View.{view_decl, decl_layer, view_expr, expr_layer, view_stmt, stmt_layer, view_element_line, element_line_layer, view_field_line, field_line_layer, view_result_form, result_form_layer, view_type_expr, type_expr_layer, view_func_decl, func_decl_layer, view_type_spec, type_spec_layer, view_value_spec, value_spec_layer, view_element, element_layer, view_listed_expr, listed_expr_layer, view_block, block_layer, view_case_clause, case_clause_layer, view_comm_clause, comm_clause_layer, view_for_stmt, for_stmt_layer, view_if_arm, if_arm_layer, view_range_stmt, range_stmt_layer, view_stmt_line, stmt_line_layer, view_switch_stmt, switch_stmt_layer, view_type_switch_stmt, type_switch_stmt_layer, view_param, param_layer, view_params, params_layer, view_signature, signature_layer}
use Rattle.go_grammar.specs.TypeReading.{Place, is_none}
use Rattle.go_grammar.specs.ExprReading.{is_name, is_type_only, is_only_a_type, is_literal_type, literal_type, imported_type, starred, unary_of}
use Rattle.go_grammar.specs.StmtReading.{is_primary, is_single}
use Rattle.go_fragments.specs.Entries.{local_name}
use Rattle.go_fragments.specs.Expressions.{name_token, type_named}

abbrev Layer : Type 0
Layer = Expr-F Decl Expr Stmt ElementLine FieldLine ResultForm TypeExpr FuncDecl TypeSpec ValueSpec Element ListedExpr Block CaseClause CommClause ForStmt IfArm RangeStmt StmtLine SwitchStmt TypeSwitchStmt Param Params Signature

abbrev seen : Layer → Forest
seen x = expr_layer (map-Expr Decl Expr Stmt ElementLine FieldLine ResultForm TypeExpr FuncDecl TypeSpec ValueSpec Element ListedExpr Block CaseClause CommClause ForStmt IfArm RangeStmt StmtLine SwitchStmt TypeSwitchStmt Param Params Signature Forest Forest Forest Forest Forest Forest Forest Forest Forest Forest Forest Forest Forest Forest Forest Forest Forest Forest Forest Forest Forest Forest Forest Forest view_decl view_expr view_stmt view_element_line view_field_line view_result_form view_type_expr view_func_decl view_type_spec view_value_spec view_element view_listed_expr view_block view_case_clause view_comm_clause view_for_stmt view_if_arm view_range_stmt view_stmt_line view_switch_stmt view_type_switch_stmt view_param view_params view_signature x)

seen_rolled : (x : Layer) → view_expr (roll-Expr x) ≡ seen x
unfolding view_decl view_expr view_stmt view_element_line view_field_line view_result_form view_type_expr view_func_decl view_type_spec view_value_spec view_element view_listed_expr view_block view_case_clause view_comm_clause view_for_stmt view_if_arm view_range_stmt view_stmt_line view_switch_stmt view_type_switch_stmt view_param view_params view_signature
seen_rolled x = fold-roll-Expr Forest Forest Forest Forest Forest Forest Forest Forest Forest Forest Forest Forest Forest Forest Forest Forest Forest Forest Forest Forest Forest Forest Forest Forest decl_layer expr_layer stmt_layer element_line_layer field_line_layer result_form_layer type_expr_layer func_decl_layer type_spec_layer value_spec_layer element_layer listed_expr_layer block_layer case_clause_layer comm_clause_layer for_stmt_layer if_arm_layer range_stmt_layer stmt_line_layer switch_stmt_layer type_switch_stmt_layer param_layer params_layer signature_layer x

seen_out : (tree : Expr) → view_expr tree ≡ seen (out-Expr tree)
seen_out tree = ap view_expr (sym (roll-out-Expr tree)) ∙ seen_rolled (out-Expr tree)

abbrev TypeLayer : Type 0
TypeLayer = TypeExpr-F Decl Expr Stmt ElementLine FieldLine ResultForm TypeExpr FuncDecl TypeSpec ValueSpec Element ListedExpr Block CaseClause CommClause ForStmt IfArm RangeStmt StmtLine SwitchStmt TypeSwitchStmt Param Params Signature

abbrev seen_type : TypeLayer → Forest
seen_type x = type_expr_layer (map-TypeExpr Decl Expr Stmt ElementLine FieldLine ResultForm TypeExpr FuncDecl TypeSpec ValueSpec Element ListedExpr Block CaseClause CommClause ForStmt IfArm RangeStmt StmtLine SwitchStmt TypeSwitchStmt Param Params Signature Forest Forest Forest Forest Forest Forest Forest Forest Forest Forest Forest Forest Forest Forest Forest Forest Forest Forest Forest Forest Forest Forest Forest Forest view_decl view_expr view_stmt view_element_line view_field_line view_result_form view_type_expr view_func_decl view_type_spec view_value_spec view_element view_listed_expr view_block view_case_clause view_comm_clause view_for_stmt view_if_arm view_range_stmt view_stmt_line view_switch_stmt view_type_switch_stmt view_param view_params view_signature x)

seen_type_rolled : (x : TypeLayer) → view_type_expr (roll-TypeExpr x) ≡ seen_type x
unfolding view_decl view_expr view_stmt view_element_line view_field_line view_result_form view_type_expr view_func_decl view_type_spec view_value_spec view_element view_listed_expr view_block view_case_clause view_comm_clause view_for_stmt view_if_arm view_range_stmt view_stmt_line view_switch_stmt view_type_switch_stmt view_param view_params view_signature
seen_type_rolled x = fold-roll-TypeExpr Forest Forest Forest Forest Forest Forest Forest Forest Forest Forest Forest Forest Forest Forest Forest Forest Forest Forest Forest Forest Forest Forest Forest Forest decl_layer expr_layer stmt_layer element_line_layer field_line_layer result_form_layer type_expr_layer func_decl_layer type_spec_layer value_spec_layer element_layer listed_expr_layer block_layer case_clause_layer comm_clause_layer for_stmt_layer if_arm_layer range_stmt_layer stmt_line_layer switch_stmt_layer type_switch_stmt_layer param_layer params_layer signature_layer x

seen_type_out : (tree : TypeExpr) → view_type_expr tree ≡ seen_type (out-TypeExpr tree)
seen_type_out tree = ap view_type_expr (sym (roll-out-TypeExpr tree)) ∙ seen_type_rolled (out-TypeExpr tree)

not_name_by : (layer : Layer) (tree : Expr) → out-Expr tree ≡ layer → ((a : Token) → tree ≡ exprs.Name a → ⊥) → is_name (seen layer) ≡ false
not_name_by (layers.Expr-F.Int a) tree eq no_name = refl
not_name_by (layers.Expr-F.Rune a) tree eq no_name = refl
not_name_by (layers.Expr-F.Text a) tree eq no_name = refl
not_name_by (layers.Expr-F.Expr::Name a) tree eq no_name = absurd (no_name a (sym (roll-out-Expr tree) ∙ ap roll-Expr eq ∙ exprs.rolls-Name a))
not_name_by (layers.Expr-F.Expr::Paren a b c) tree eq no_name = refl
not_name_by (layers.Expr-F.Expr::Function a b c) tree eq no_name = refl
not_name_by (layers.Expr-F.Expr::TypeForm a) tree eq no_name = refl
not_name_by (layers.Expr-F.Composite a b c d) tree eq no_name = refl
not_name_by (layers.Expr-F.Selector a b c) tree eq no_name = refl
not_name_by (layers.Expr-F.Assertion a b c d e) tree eq no_name = refl
not_name_by (layers.Expr-F.Index a b c d) tree eq no_name = refl
not_name_by (layers.Expr-F.Expr::Slice a b c d e f) tree eq no_name = refl
not_name_by (layers.Expr-F.FullSlice a b c d e f g h) tree eq no_name = refl
not_name_by (layers.Expr-F.Call a b c d e f) tree eq no_name = refl
not_name_by (layers.Expr-F.Unary a b) tree eq no_name = refl
not_name_by (layers.Expr-F.Binary a b c) tree eq no_name = refl

pub not_name : (tree : Expr) → ((a : Token) → tree ≡ exprs.Name a → ⊥) → is_name (view_expr tree) ≡ false
not_name tree no_name = ap (λ (seen_so : Forest). is_name (seen_so)) (seen_out tree) ∙ not_name_by (out-Expr tree) tree refl no_name

not_type_form_by : (layer : Layer) (tree : Expr) → out-Expr tree ≡ layer → ((a : Box TypeExpr) → tree ≡ exprs.TypeForm a → ⊥) → is_type_only (seen layer) ≡ false
not_type_form_by (layers.Expr-F.Int a) tree eq no_typeform = refl
not_type_form_by (layers.Expr-F.Rune a) tree eq no_typeform = refl
not_type_form_by (layers.Expr-F.Text a) tree eq no_typeform = refl
not_type_form_by (layers.Expr-F.Expr::Name a) tree eq no_typeform = refl
not_type_form_by (layers.Expr-F.Expr::Paren a b c) tree eq no_typeform = refl
not_type_form_by (layers.Expr-F.Expr::Function a b c) tree eq no_typeform = refl
not_type_form_by (layers.Expr-F.Expr::TypeForm a) tree eq no_typeform = absurd (no_typeform a (sym (roll-out-Expr tree) ∙ ap roll-Expr eq ∙ exprs.rolls-TypeForm a))
not_type_form_by (layers.Expr-F.Composite a b c d) tree eq no_typeform = refl
not_type_form_by (layers.Expr-F.Selector a b c) tree eq no_typeform = refl
not_type_form_by (layers.Expr-F.Assertion a b c d e) tree eq no_typeform = refl
not_type_form_by (layers.Expr-F.Index a b c d) tree eq no_typeform = refl
not_type_form_by (layers.Expr-F.Expr::Slice a b c d e f) tree eq no_typeform = refl
not_type_form_by (layers.Expr-F.FullSlice a b c d e f g h) tree eq no_typeform = refl
not_type_form_by (layers.Expr-F.Call a b c d e f) tree eq no_typeform = refl
not_type_form_by (layers.Expr-F.Unary a b) tree eq no_typeform = refl
not_type_form_by (layers.Expr-F.Binary a b c) tree eq no_typeform = refl

pub not_type_form : (tree : Expr) → ((a : Box TypeExpr) → tree ≡ exprs.TypeForm a → ⊥) → is_type_only (view_expr tree) ≡ false
not_type_form tree no_typeform = ap (λ (seen_so : Forest). is_type_only (seen_so)) (seen_out tree) ∙ not_type_form_by (out-Expr tree) tree refl no_typeform

not_only_a_type_by : (layer : TypeLayer) (tree : TypeExpr) → out-TypeExpr tree ≡ layer → ((a : Token) (b : Box TypeExpr) → tree ≡ types.Pointer a b → ⊥) → ((a : Token) (b : Option Token) (c : Box TypeExpr) → tree ≡ types.Chan a b c → ⊥) → ((a b : Token) (c : Box TypeExpr) → tree ≡ types.ReceiveChan a b c → ⊥) → ((a : Token) (b : Box Signature) → tree ≡ types.Function a b → ⊥) → is_only_a_type (seen_type layer) ≡ false
not_only_a_type_by (layers.TypeExpr-F.TypeExpr::Name (named.Local a)) tree eq no_pointer no_chan no_receivechan no_function = refl
not_only_a_type_by (layers.TypeExpr-F.TypeExpr::Name (named.Imported a b c)) tree eq no_pointer no_chan no_receivechan no_function = refl
not_only_a_type_by (layers.TypeExpr-F.TypeExpr::Paren a b c) tree eq no_pointer no_chan no_receivechan no_function = refl
not_only_a_type_by (layers.TypeExpr-F.Pointer a b) tree eq no_pointer no_chan no_receivechan no_function = absurd (no_pointer a b (sym (roll-out-TypeExpr tree) ∙ ap roll-TypeExpr eq ∙ types.rolls-Pointer a b))
not_only_a_type_by (layers.TypeExpr-F.TypeExpr::Slice a b c) tree eq no_pointer no_chan no_receivechan no_function = refl
not_only_a_type_by (layers.TypeExpr-F.Array a b c d) tree eq no_pointer no_chan no_receivechan no_function = refl
not_only_a_type_by (layers.TypeExpr-F.OpenArray a b c d) tree eq no_pointer no_chan no_receivechan no_function = refl
not_only_a_type_by (layers.TypeExpr-F.Map a b c d e) tree eq no_pointer no_chan no_receivechan no_function = refl
not_only_a_type_by (layers.TypeExpr-F.Chan a b c) tree eq no_pointer no_chan no_receivechan no_function = absurd (no_chan a b c (sym (roll-out-TypeExpr tree) ∙ ap roll-TypeExpr eq ∙ types.rolls-Chan a b c))
not_only_a_type_by (layers.TypeExpr-F.ReceiveChan a b c) tree eq no_pointer no_chan no_receivechan no_function = absurd (no_receivechan a b c (sym (roll-out-TypeExpr tree) ∙ ap roll-TypeExpr eq ∙ types.rolls-ReceiveChan a b c))
not_only_a_type_by (layers.TypeExpr-F.TypeExpr::Function a b) tree eq no_pointer no_chan no_receivechan no_function = absurd (no_function a b (sym (roll-out-TypeExpr tree) ∙ ap roll-TypeExpr eq ∙ types.rolls-Function a b))
not_only_a_type_by (layers.TypeExpr-F.Struct a b c d) tree eq no_pointer no_chan no_receivechan no_function = refl
not_only_a_type_by (layers.TypeExpr-F.Interface a b c d) tree eq no_pointer no_chan no_receivechan no_function = refl

pub not_only_a_type : (tree : TypeExpr) → ((a : Token) (b : Box TypeExpr) → tree ≡ types.Pointer a b → ⊥) → ((a : Token) (b : Option Token) (c : Box TypeExpr) → tree ≡ types.Chan a b c → ⊥) → ((a b : Token) (c : Box TypeExpr) → tree ≡ types.ReceiveChan a b c → ⊥) → ((a : Token) (b : Box Signature) → tree ≡ types.Function a b → ⊥) → is_only_a_type (view_type_expr tree) ≡ false
not_only_a_type tree no_pointer no_chan no_receivechan no_function = ap (λ (seen_so : Forest). is_only_a_type (seen_so)) (seen_type_out tree) ∙ not_only_a_type_by (out-TypeExpr tree) tree refl no_pointer no_chan no_receivechan no_function

no_local_name_by : (layer : TypeLayer) (tree : TypeExpr) → out-TypeExpr tree ≡ layer → ((a : NamedType) → tree ≡ types.Name a → ⊥) → local_name (seen_type layer) ≡ None
no_local_name_by (layers.TypeExpr-F.TypeExpr::Name a) tree eq no_name = absurd (no_name a (sym (roll-out-TypeExpr tree) ∙ ap roll-TypeExpr eq ∙ types.rolls-Name a))
no_local_name_by (layers.TypeExpr-F.TypeExpr::Paren a b c) tree eq no_name = refl
no_local_name_by (layers.TypeExpr-F.Pointer a b) tree eq no_name = refl
no_local_name_by (layers.TypeExpr-F.TypeExpr::Slice a b c) tree eq no_name = refl
no_local_name_by (layers.TypeExpr-F.Array a b c d) tree eq no_name = refl
no_local_name_by (layers.TypeExpr-F.OpenArray a b c d) tree eq no_name = refl
no_local_name_by (layers.TypeExpr-F.Map a b c d e) tree eq no_name = refl
no_local_name_by (layers.TypeExpr-F.Chan a b c) tree eq no_name = refl
no_local_name_by (layers.TypeExpr-F.ReceiveChan a b c) tree eq no_name = refl
no_local_name_by (layers.TypeExpr-F.TypeExpr::Function a b) tree eq no_name = refl
no_local_name_by (layers.TypeExpr-F.Struct a b c d) tree eq no_name = refl
no_local_name_by (layers.TypeExpr-F.Interface a b c d) tree eq no_name = refl

-- a type that is no name names nothing of this package
pub no_local_name : (tree : TypeExpr) → ((a : NamedType) → tree ≡ types.Name a → ⊥) → local_name (view_type_expr tree) ≡ None
no_local_name tree no_name = ap (λ (seen_so : Forest). local_name (seen_so)) (seen_type_out tree) ∙ no_local_name_by (out-TypeExpr tree) tree refl no_name

no_literal_by : (place : Place) (layer : Layer) (tree : Expr) → out-Expr tree ≡ layer → ((a : Box TypeExpr) → tree ≡ exprs.TypeForm a → ⊥) → ((a : Token) → tree ≡ exprs.Name a → ⊥) → ((a : Box Expr) (b c : Token) → tree ≡ exprs.Selector a b c → ⊥) → is_literal_type place (seen layer) ≡ false
no_literal_by place (layers.Expr-F.Int a) tree eq no_typeform no_name no_selector = refl
no_literal_by place (layers.Expr-F.Rune a) tree eq no_typeform no_name no_selector = refl
no_literal_by place (layers.Expr-F.Text a) tree eq no_typeform no_name no_selector = refl
no_literal_by place (layers.Expr-F.Expr::Name a) tree eq no_typeform no_name no_selector = absurd (no_name a (sym (roll-out-Expr tree) ∙ ap roll-Expr eq ∙ exprs.rolls-Name a))
no_literal_by place (layers.Expr-F.Expr::Paren a b c) tree eq no_typeform no_name no_selector = refl
no_literal_by place (layers.Expr-F.Expr::Function a b c) tree eq no_typeform no_name no_selector = refl
no_literal_by place (layers.Expr-F.Expr::TypeForm a) tree eq no_typeform no_name no_selector = absurd (no_typeform a (sym (roll-out-Expr tree) ∙ ap roll-Expr eq ∙ exprs.rolls-TypeForm a))
no_literal_by place (layers.Expr-F.Composite a b c d) tree eq no_typeform no_name no_selector = refl
no_literal_by place (layers.Expr-F.Selector a b c) tree eq no_typeform no_name no_selector = absurd (no_selector a b c (sym (roll-out-Expr tree) ∙ ap roll-Expr eq ∙ exprs.rolls-Selector a b c))
no_literal_by place (layers.Expr-F.Assertion a b c d e) tree eq no_typeform no_name no_selector = refl
no_literal_by place (layers.Expr-F.Index a b c d) tree eq no_typeform no_name no_selector = refl
no_literal_by place (layers.Expr-F.Expr::Slice a b c d e f) tree eq no_typeform no_name no_selector = refl
no_literal_by place (layers.Expr-F.FullSlice a b c d e f g h) tree eq no_typeform no_name no_selector = refl
no_literal_by place (layers.Expr-F.Call a b c d e f) tree eq no_typeform no_name no_selector = refl
no_literal_by place (layers.Expr-F.Unary a b) tree eq no_typeform no_name no_selector = refl
no_literal_by place (layers.Expr-F.Binary a b c) tree eq no_typeform no_name no_selector = refl

pub no_literal : (place : Place) (tree : Expr) → ((a : Box TypeExpr) → tree ≡ exprs.TypeForm a → ⊥) → ((a : Token) → tree ≡ exprs.Name a → ⊥) → ((a : Box Expr) (b c : Token) → tree ≡ exprs.Selector a b c → ⊥) → is_literal_type place (view_expr tree) ≡ false
no_literal place tree no_typeform no_name no_selector = ap (λ (seen_so : Forest). is_literal_type place (seen_so)) (seen_out tree) ∙ no_literal_by place (out-Expr tree) tree refl no_typeform no_name no_selector

no_type_named_by : (layer : Layer) (tree : Expr) → out-Expr tree ≡ layer → ((a : Token) → tree ≡ exprs.Name a → ⊥) → ((a : Box Expr) (b c : Token) → tree ≡ exprs.Selector a b c → ⊥) → type_named (seen layer) ≡ None
no_type_named_by (layers.Expr-F.Int a) tree eq no_name no_selector = refl
no_type_named_by (layers.Expr-F.Rune a) tree eq no_name no_selector = refl
no_type_named_by (layers.Expr-F.Text a) tree eq no_name no_selector = refl
no_type_named_by (layers.Expr-F.Expr::Name a) tree eq no_name no_selector = absurd (no_name a (sym (roll-out-Expr tree) ∙ ap roll-Expr eq ∙ exprs.rolls-Name a))
no_type_named_by (layers.Expr-F.Expr::Paren a b c) tree eq no_name no_selector = refl
no_type_named_by (layers.Expr-F.Expr::Function a b c) tree eq no_name no_selector = refl
no_type_named_by (layers.Expr-F.Expr::TypeForm a) tree eq no_name no_selector = refl
no_type_named_by (layers.Expr-F.Composite a b c d) tree eq no_name no_selector = refl
no_type_named_by (layers.Expr-F.Selector a b c) tree eq no_name no_selector = absurd (no_selector a b c (sym (roll-out-Expr tree) ∙ ap roll-Expr eq ∙ exprs.rolls-Selector a b c))
no_type_named_by (layers.Expr-F.Assertion a b c d e) tree eq no_name no_selector = refl
no_type_named_by (layers.Expr-F.Index a b c d) tree eq no_name no_selector = refl
no_type_named_by (layers.Expr-F.Expr::Slice a b c d e f) tree eq no_name no_selector = refl
no_type_named_by (layers.Expr-F.FullSlice a b c d e f g h) tree eq no_name no_selector = refl
no_type_named_by (layers.Expr-F.Call a b c d e f) tree eq no_name no_selector = refl
no_type_named_by (layers.Expr-F.Unary a b) tree eq no_name no_selector = refl
no_type_named_by (layers.Expr-F.Binary a b c) tree eq no_name no_selector = refl

pub no_type_named : (tree : Expr) → ((a : Token) → tree ≡ exprs.Name a → ⊥) → ((a : Box Expr) (b c : Token) → tree ≡ exprs.Selector a b c → ⊥) → type_named (view_expr tree) ≡ None
no_type_named tree no_name no_selector = ap (λ (seen_so : Forest). type_named (seen_so)) (seen_out tree) ∙ no_type_named_by (out-Expr tree) tree refl no_name no_selector

literal_named_by : (layer : Layer) (tree : Expr) → out-Expr tree ≡ layer → ((a : Box TypeExpr) → tree ≡ exprs.TypeForm a → ⊥) → literal_type (seen layer) ≡ type_named (seen layer)
literal_named_by (layers.Expr-F.Int a) tree eq no_typeform = refl
literal_named_by (layers.Expr-F.Rune a) tree eq no_typeform = refl
literal_named_by (layers.Expr-F.Text a) tree eq no_typeform = refl
literal_named_by (layers.Expr-F.Expr::Name a) tree eq no_typeform = refl
literal_named_by (layers.Expr-F.Expr::Paren a b c) tree eq no_typeform = refl
literal_named_by (layers.Expr-F.Expr::Function a b c) tree eq no_typeform = refl
literal_named_by (layers.Expr-F.Expr::TypeForm a) tree eq no_typeform = absurd (no_typeform a (sym (roll-out-Expr tree) ∙ ap roll-Expr eq ∙ exprs.rolls-TypeForm a))
literal_named_by (layers.Expr-F.Composite a b c d) tree eq no_typeform = refl
literal_named_by (layers.Expr-F.Selector a b c) tree eq no_typeform = refl
literal_named_by (layers.Expr-F.Assertion a b c d e) tree eq no_typeform = refl
literal_named_by (layers.Expr-F.Index a b c d) tree eq no_typeform = refl
literal_named_by (layers.Expr-F.Expr::Slice a b c d e f) tree eq no_typeform = refl
literal_named_by (layers.Expr-F.FullSlice a b c d e f g h) tree eq no_typeform = refl
literal_named_by (layers.Expr-F.Call a b c d e f) tree eq no_typeform = refl
literal_named_by (layers.Expr-F.Unary a b) tree eq no_typeform = refl
literal_named_by (layers.Expr-F.Binary a b c) tree eq no_typeform = refl

pub literal_named : (tree : Expr) → ((a : Box TypeExpr) → tree ≡ exprs.TypeForm a → ⊥) → literal_type (view_expr tree) ≡ type_named (view_expr tree)
literal_named tree no_typeform = ap literal_type (seen_out tree) ∙ literal_named_by (out-Expr tree) tree refl no_typeform ∙ ap type_named (sym (seen_out tree))

abbrev imported : Token → Token → Forest → Option Forest
imported dot name operand = imported_type (append operand (leaf dot (leaf name empty)))

imported_none_by : (dot name : Token) (layer : Layer) → name_token (seen layer) ≡ None → imported dot name (seen layer) ≡ None
imported_none_by dot name (layers.Expr-F.Int a) none = refl
imported_none_by dot name (layers.Expr-F.Rune a) none = refl
imported_none_by dot name (layers.Expr-F.Text a) none = refl
imported_none_by dot name (layers.Expr-F.Expr::Name a) none = absurd cc
imported_none_by dot name (layers.Expr-F.Expr::Paren a b c) none = refl
imported_none_by dot name (layers.Expr-F.Expr::Function a b c) none = refl
imported_none_by dot name (layers.Expr-F.Expr::TypeForm a) none = refl
imported_none_by dot name (layers.Expr-F.Composite a b c d) none = refl
imported_none_by dot name (layers.Expr-F.Selector a b c) none = refl
imported_none_by dot name (layers.Expr-F.Assertion a b c d e) none = refl
imported_none_by dot name (layers.Expr-F.Index a b c d) none = refl
imported_none_by dot name (layers.Expr-F.Expr::Slice a b c d e f) none = refl
imported_none_by dot name (layers.Expr-F.FullSlice a b c d e f g h) none = refl
imported_none_by dot name (layers.Expr-F.Call a b c d e f) none = refl
imported_none_by dot name (layers.Expr-F.Unary a b) none = refl
imported_none_by dot name (layers.Expr-F.Binary a b c) none = refl

imported_some_by : (package_name dot name : Token) (layer : Layer) → name_token (seen layer) ≡ Some (leaf package_name empty) → imported dot name (seen layer) ≡ Some (node forms.TypeNameForm (leaf package_name (leaf dot (leaf name empty))) empty)
imported_some_by package_name dot name (layers.Expr-F.Int a) is_one = absurd cc
imported_some_by package_name dot name (layers.Expr-F.Rune a) is_one = absurd cc
imported_some_by package_name dot name (layers.Expr-F.Text a) is_one = absurd cc
imported_some_by package_name dot name (layers.Expr-F.Expr::Name a) is_one = let same : a ≡ package_name = cc in rw same refl
imported_some_by package_name dot name (layers.Expr-F.Expr::Paren a b c) is_one = absurd cc
imported_some_by package_name dot name (layers.Expr-F.Expr::Function a b c) is_one = absurd cc
imported_some_by package_name dot name (layers.Expr-F.Expr::TypeForm a) is_one = absurd cc
imported_some_by package_name dot name (layers.Expr-F.Composite a b c d) is_one = absurd cc
imported_some_by package_name dot name (layers.Expr-F.Selector a b c) is_one = absurd cc
imported_some_by package_name dot name (layers.Expr-F.Assertion a b c d e) is_one = absurd cc
imported_some_by package_name dot name (layers.Expr-F.Index a b c d) is_one = absurd cc
imported_some_by package_name dot name (layers.Expr-F.Expr::Slice a b c d e f) is_one = absurd cc
imported_some_by package_name dot name (layers.Expr-F.FullSlice a b c d e f g h) is_one = absurd cc
imported_some_by package_name dot name (layers.Expr-F.Call a b c d e f) is_one = absurd cc
imported_some_by package_name dot name (layers.Expr-F.Unary a b) is_one = absurd cc
imported_some_by package_name dot name (layers.Expr-F.Binary a b c) is_one = absurd cc

-- a selector is the name of a type where its operand is a name
pub imported_none : (dot name : Token) (tree : Expr) → name_token (view_expr tree) ≡ None → imported_type (append (view_expr tree) (leaf dot (leaf name empty))) ≡ None
imported_none dot name tree h = ap (imported dot name) (seen_out tree) ∙ imported_none_by dot name (out-Expr tree) (sym (ap name_token (seen_out tree)) ∙ h)

pub imported_some : (package_name dot name : Token) (tree : Expr) → name_token (view_expr tree) ≡ Some (leaf package_name empty) → imported_type (append (view_expr tree) (leaf dot (leaf name empty))) ≡ Some (node forms.TypeNameForm (leaf package_name (leaf dot (leaf name empty))) empty)
imported_some package_name dot name tree h = ap (imported dot name) (seen_out tree) ∙ imported_some_by package_name dot name (out-Expr tree) (sym (ap name_token (seen_out tree)) ∙ h)

no_name_token_by : (layer : Layer) (tree : Expr) → out-Expr tree ≡ layer → ((a : Token) → tree ≡ exprs.Name a → ⊥) → name_token (seen layer) ≡ None
no_name_token_by (layers.Expr-F.Int a) tree eq no_name = refl
no_name_token_by (layers.Expr-F.Rune a) tree eq no_name = refl
no_name_token_by (layers.Expr-F.Text a) tree eq no_name = refl
no_name_token_by (layers.Expr-F.Expr::Name a) tree eq no_name = absurd (no_name a (sym (roll-out-Expr tree) ∙ ap roll-Expr eq ∙ exprs.rolls-Name a))
no_name_token_by (layers.Expr-F.Expr::Paren a b c) tree eq no_name = refl
no_name_token_by (layers.Expr-F.Expr::Function a b c) tree eq no_name = refl
no_name_token_by (layers.Expr-F.Expr::TypeForm a) tree eq no_name = refl
no_name_token_by (layers.Expr-F.Composite a b c d) tree eq no_name = refl
no_name_token_by (layers.Expr-F.Selector a b c) tree eq no_name = refl
no_name_token_by (layers.Expr-F.Assertion a b c d e) tree eq no_name = refl
no_name_token_by (layers.Expr-F.Index a b c d) tree eq no_name = refl
no_name_token_by (layers.Expr-F.Expr::Slice a b c d e f) tree eq no_name = refl
no_name_token_by (layers.Expr-F.FullSlice a b c d e f g h) tree eq no_name = refl
no_name_token_by (layers.Expr-F.Call a b c d e f) tree eq no_name = refl
no_name_token_by (layers.Expr-F.Unary a b) tree eq no_name = refl
no_name_token_by (layers.Expr-F.Binary a b c) tree eq no_name = refl

pub no_name_token : (tree : Expr) → ((a : Token) → tree ≡ exprs.Name a → ⊥) → name_token (view_expr tree) ≡ None
no_name_token tree no_name = ap (λ (seen_so : Forest). name_token (seen_so)) (seen_out tree) ∙ no_name_token_by (out-Expr tree) tree refl no_name

primary_by : (layer : Layer) (tree : Expr) → out-Expr tree ≡ layer → ((a : Token) (b : Box Expr) → tree ≡ exprs.Unary a b → ⊥) → ((a : Box Expr) (b : Token) (c : Box Expr) → tree ≡ exprs.Binary a b c → ⊥) → is_primary (seen layer) ≡ true
primary_by (layers.Expr-F.Int a) tree eq no_unary no_binary = refl
primary_by (layers.Expr-F.Rune a) tree eq no_unary no_binary = refl
primary_by (layers.Expr-F.Text a) tree eq no_unary no_binary = refl
primary_by (layers.Expr-F.Expr::Name a) tree eq no_unary no_binary = refl
primary_by (layers.Expr-F.Expr::Paren a b c) tree eq no_unary no_binary = refl
primary_by (layers.Expr-F.Expr::Function a b c) tree eq no_unary no_binary = refl
primary_by (layers.Expr-F.Expr::TypeForm a) tree eq no_unary no_binary = refl
primary_by (layers.Expr-F.Composite a b c d) tree eq no_unary no_binary = refl
primary_by (layers.Expr-F.Selector a b c) tree eq no_unary no_binary = refl
primary_by (layers.Expr-F.Assertion a b c d e) tree eq no_unary no_binary = refl
primary_by (layers.Expr-F.Index a b c d) tree eq no_unary no_binary = refl
primary_by (layers.Expr-F.Expr::Slice a b c d e f) tree eq no_unary no_binary = refl
primary_by (layers.Expr-F.FullSlice a b c d e f g h) tree eq no_unary no_binary = refl
primary_by (layers.Expr-F.Call a b c d e f) tree eq no_unary no_binary = refl
primary_by (layers.Expr-F.Unary a b) tree eq no_unary no_binary = absurd (no_unary a b (sym (roll-out-Expr tree) ∙ ap roll-Expr eq ∙ exprs.rolls-Unary a b))
primary_by (layers.Expr-F.Binary a b c) tree eq no_unary no_binary = absurd (no_binary a b c (sym (roll-out-Expr tree) ∙ ap roll-Expr eq ∙ exprs.rolls-Binary a b c))

pub primary : (tree : Expr) → ((a : Token) (b : Box Expr) → tree ≡ exprs.Unary a b → ⊥) → ((a : Box Expr) (b : Token) (c : Box Expr) → tree ≡ exprs.Binary a b c → ⊥) → is_primary (view_expr tree) ≡ true
primary tree no_unary no_binary = ap (λ (seen_so : Forest). is_primary (seen_so)) (seen_out tree) ∙ primary_by (out-Expr tree) tree refl no_unary no_binary

abbrev form_of : Forest → Form
form_of (node form below behind) = form
form_of _ = forms.IntForm

abbrev below_of : Forest → Forest
below_of (node form below behind) = below
below_of _ = empty

node_by : (layer : Layer) → seen layer ≡ node (form_of (seen layer)) (below_of (seen layer)) empty
node_by (layers.Expr-F.Int a) = refl
node_by (layers.Expr-F.Rune a) = refl
node_by (layers.Expr-F.Text a) = refl
node_by (layers.Expr-F.Expr::Name a) = refl
node_by (layers.Expr-F.Expr::Paren a b c) = refl
node_by (layers.Expr-F.Expr::Function a b c) = refl
node_by (layers.Expr-F.Expr::TypeForm a) = refl
node_by (layers.Expr-F.Composite a b c d) = refl
node_by (layers.Expr-F.Selector a b c) = refl
node_by (layers.Expr-F.Assertion a b c d e) = refl
node_by (layers.Expr-F.Index a b c d) = refl
node_by (layers.Expr-F.Expr::Slice a b c d e f) = refl
node_by (layers.Expr-F.FullSlice a b c d e f g h) = refl
node_by (layers.Expr-F.Call a b c d e f) = refl
node_by (layers.Expr-F.Unary a b) = refl
node_by (layers.Expr-F.Binary a b c) = refl

-- an expression is one node
pub expr_node : (tree : Expr) → view_expr tree ≡ node (form_of (view_expr tree)) (below_of (view_expr tree)) empty
expr_node tree = seen_out tree ∙ node_by (out-Expr tree) ∙ ap (λ (seen_so : Forest). node (form_of seen_so) (below_of seen_so) empty) (sym (seen_out tree))

ends_there : (form : Form) (below more : Forest) → is_single (node form below more) ≡ is_none more
ends_there form below empty = refl
ends_there form below (leaf token behind) = refl
ends_there form below (node other under behind) = refl

pub single_before : (tree : Expr) (more : Forest) → is_single (append (view_expr tree) more) ≡ is_none more
single_before tree more = ap (λ (seen_so : Forest). is_single (append seen_so more)) (expr_node tree) ∙ ends_there (form_of (view_expr tree)) (below_of (view_expr tree)) more

pub name_before : (tree : Expr) (more : Forest) → is_name (append (view_expr tree) more) ≡ is_name (view_expr tree)
name_before tree more = ap (λ (seen_so : Forest). is_name (append seen_so more)) (expr_node tree) ∙ same_name (form_of (view_expr tree)) (below_of (view_expr tree)) more ∙ ap is_name (sym (expr_node tree))
  where
    same_name : (form : Form) (below more : Forest) → is_name (node form below more) ≡ is_name (node form below empty)
    same_name forms.NameForm below more = refl
    same_name _ below more = refl

-- `*` before an expression, and before a type that is none
pub starred_plain : (star : Token) (tree : Forest) → is_type_only tree ≡ false → starred star tree ≡ unary_of star tree
starred_plain star empty h = refl
starred_plain star (leaf token behind) h = refl
starred_plain star (node form below behind) h = ap (λ (b : Bool). if b then node forms.TypeOperandForm (node forms.PointerForm (leaf star below) empty) empty else unary_of star (node form below behind)) h

pub starred_type : (star : Token) (base : Forest) → is_only_a_type base ≡ true → starred star (node forms.TypeOperandForm base empty) ≡ node forms.TypeOperandForm (node forms.PointerForm (leaf star base) empty) empty
starred_type star base h = ap (λ (b : Bool). if b then node forms.TypeOperandForm (node forms.PointerForm (leaf star base) empty) empty else unary_of star (node forms.TypeOperandForm base empty)) h
