-- Each expression is seen as one node.
use Rattle.std.specs.Prelude.{not}
use Rattle.std.specs.Option.{is_none, is_some}
use Rattle.std.proofs.Common.{◌≡◌, ◌≤◌, ◌<◌, Bool, true, false, refl, sym, ap, ◌∙◌, List, [], ◌∷◌, length, get_or, Option, Some, None, arith}
use Rattle.go_ast.specs.declared.token.Token.{Token}
use Rattle.go_syntax.specs.declared.exprs.Expr.{Expr}
use Rattle.go_syntax.specs.declared.exprs.ListedExpr.{ListedExpr}
use Rattle.go_syntax.specs.declared.decls.Decl.TheOpen as layers
use Rattle.go_syntax.specs.declared.decls.Decl.TheOpen.{Decl-F, Expr-F, Stmt-F, ElementLine-F, FieldLine-F, ResultForm-F, TypeExpr-F, FuncDecl-F, TypeSpec-F, ValueSpec-F, Element-F, ListedExpr-F, Block-F, CaseClause-F, CommClause-F, ForStmt-F, IfArm-F, RangeStmt-F, StmtLine-F, SwitchStmt-F, TypeSwitchStmt-F, Param-F, Params-F, Signature-F}
use Rattle.go_syntax.specs.declared.decls.Decl.TheViews.{out-ListedExpr}
use Rattle.go_syntax.specs.declared.decls.Decl.TheFolds.{fold_out-Expr}
use Rattle.go_grammar.specs.Forests.{Forest, empty, node, append}
use Rattle.go_grammar.specs.View.{◌⊕◌, each, token_if, decl_layer, view_expr, expr_layer, stmt_layer, element_line_layer, field_line_layer, result_form_layer, type_expr_layer, func_decl_layer, type_spec_layer, value_spec_layer, element_layer, view_listed_expr, listed_expr_layer, block_layer, case_clause_layer, comm_clause_layer, for_stmt_layer, if_arm_layer, range_stmt_layer, stmt_line_layer, switch_stmt_layer, type_switch_stmt_layer, param_layer, params_layer, signature_layer}
use Rattle.go_grammar.specs.StmtReading.{is_single}
use Rattle.go_grammar.proofs.Views.{view_listed_expr_made}

layer_single : (layer : Expr-F Forest Forest Forest Forest Forest Forest Forest Forest Forest Forest Forest Forest Forest Forest Forest Forest Forest Forest Forest Forest Forest Forest Forest Forest) → is_single (expr_layer layer) ≡ true
layer_single (layers.Expr-F.Int token) = refl
layer_single (layers.Expr-F.Rune token) = refl
layer_single (layers.Expr-F.Text token) = refl
layer_single (layers.Expr-F.Expr::Name token) = refl
layer_single (layers.Expr-F.Expr::Paren «open» inner close) = refl
layer_single (layers.Expr-F.Expr::Function word signature body) = refl
layer_single (layers.Expr-F.Expr::TypeForm form) = refl
layer_single (layers.Expr-F.Composite form «open» elements close) = refl
layer_single (layers.Expr-F.Selector operand dot name) = refl
layer_single (layers.Expr-F.Assertion operand dot «open» form close) = refl
layer_single (layers.Expr-F.Index operand «open» index close) = refl
layer_single (layers.Expr-F.Expr::Slice operand «open» low colon high close) = refl
layer_single (layers.Expr-F.FullSlice operand «open» low colon high second_colon max close) = refl
layer_single (layers.Expr-F.Call callee «open» arguments ellipsis comma close) = refl
layer_single (layers.Expr-F.Unary operator operand) = refl
layer_single (layers.Expr-F.Binary left operator right) = refl

by_layer : (trees : Forest) (layer : Expr-F Forest Forest Forest Forest Forest Forest Forest Forest Forest Forest Forest Forest Forest Forest Forest Forest Forest Forest Forest Forest Forest Forest Forest Forest) → trees ≡ expr_layer layer → is_single trees ≡ true
by_layer trees layer e = ap is_single e ∙ layer_single layer

pub expr_single : (e : Expr) → is_single (view_expr e) ≡ true
unfolding view_expr
expr_single e = by_layer (view_expr e) _ (fold_out-Expr Forest Forest Forest Forest Forest Forest Forest Forest Forest Forest Forest Forest Forest Forest Forest Forest Forest Forest Forest Forest Forest Forest Forest Forest decl_layer expr_layer stmt_layer element_line_layer field_line_layer result_form_layer type_expr_layer func_decl_layer type_spec_layer value_spec_layer element_layer listed_expr_layer block_layer case_clause_layer comm_clause_layer for_stmt_layer if_arm_layer range_stmt_layer stmt_line_layer switch_stmt_layer type_switch_stmt_layer param_layer params_layer signature_layer e)

-- ---- lists of expressions

pub alone : (trees : Forest) (comma : Option Token) → is_single trees ≡ true → is_single (append (append trees (token_if comma)) empty) ≡ is_none comma
alone (node form below empty) None h = refl
alone (node form below empty) (Some token) h = refl
alone _ comma h = absurd cc

pub followed : (trees : Forest) (comma : Option Token) (more : Forest) (rest : Forest) → is_single trees ≡ true → is_single more ≡ true → (next : Option Token) → is_single (append (append trees (token_if comma)) (append (append more (token_if next)) rest)) ≡ false
followed (node form below empty) None (node form' below' empty) rest h g next = refl
followed (node form below empty) (Some token) (node form' below' empty) rest h g next = refl
followed _ comma _ rest h g next = absurd cc

pub listed_made : (x : ListedExpr) → view_listed_expr x ≡ view_expr x.expr.value ⊕ token_if x.comma
listed_made x = view_listed_expr_made (out-ListedExpr x)

abbrev pub is_one : List ListedExpr → Bool
is_one [] = false
is_one (x ∷ []) = is_none x.comma
is_one (x ∷ y ∷ ys) = false

pub list_single : (items : List ListedExpr) → is_single (each view_listed_expr items) ≡ is_one items
list_single [] = refl
list_single (x ∷ []) = rw (listed_made x) (alone (view_expr x.expr.value) x.comma (expr_single x.expr.value))
list_single (x ∷ y ∷ ys) = rw (listed_made x, listed_made y) (followed (view_expr x.expr.value) x.comma (view_expr y.expr.value) (each view_listed_expr ys) (expr_single x.expr.value) (expr_single y.expr.value) y.comma)

by_comma : (comma : Option Token) (b : Bool) → is_some comma ≡ not b → b ≡ is_none comma
by_comma None true h = refl
by_comma None false h = absurd cc
by_comma (Some token) true h = absurd cc
by_comma (Some token) false h = refl

one_case : (items : List ListedExpr) (x : ListedExpr) (b : Bool) → 1 ≤ length items → length items < 2 → x ≡ get_or items 0 x → is_some x.comma ≡ not b → b ≡ is_one items
one_case [] x b least below e f = absurd (omega arith)
one_case (y ∷ []) x b least below e f = by_comma x.comma b f ∙ ap (λ (item : ListedExpr). is_none item.comma) e
one_case (y ∷ z ∷ zs) x b least below e f = absurd (omega arith)

many_case : (items : List ListedExpr) → 2 ≤ length items → false ≡ is_one items
many_case [] least = absurd (omega arith)
many_case (y ∷ []) least = absurd (omega arith)
many_case (y ∷ z ∷ zs) least = refl

-- of a slice with one item, whether it has no comma
pub one_item : (slice items : List ListedExpr) (x : ListedExpr) (b : Bool) → slice ≡ items → 1 ≤ length slice → length slice < 2 → x ≡ get_or slice 0 x → is_some x.comma ≡ not b → b ≡ is_single (each view_listed_expr items)
one_item slice items x b same least below e f = one_case slice x b least below e f ∙ ap is_one same ∙ sym (list_single items)

pub many_items : (slice items : List ListedExpr) → slice ≡ items → 2 ≤ length slice → false ≡ is_single (each view_listed_expr items)
many_items slice items same least = many_case slice least ∙ ap is_one same ∙ sym (list_single items)
