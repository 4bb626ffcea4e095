-- The fields of expressions are told, where those of what is below are.
use Rattle.std.proofs.Common.{◌≡◌, refl, sym, ap, ◌∙◌, map, Option, Some, None}
use Rattle.std.specs.Prelude.{Bool, true, ◌&&◌}
use Rattle.std.specs.Global.{Box}
use Rattle.go_ast.specs.declared.token.Token.{Token}
use Rattle.go_ast.specs.declared.token.Kind.TheVariants as kinds
use Rattle.go_syntax.specs.declared.decls.Decl.TheOpen as layers
use Rattle.go_syntax.specs.declared.decls.Decl.TheOpen.{Decl-F, Expr-F, Stmt-F, ElementLine-F, FieldLine-F}
use Rattle.go_syntax.specs.declared.decls.Decl.TheOpen.{ResultForm-F, TypeExpr-F, FuncDecl-F, TypeSpec-F, ValueSpec-F}
use Rattle.go_syntax.specs.declared.decls.Decl.TheOpen.{Element-F, ListedExpr-F, Block-F, CaseClause-F, CommClause-F}
use Rattle.go_syntax.specs.declared.decls.Decl.TheOpen.{ForStmt-F, IfArm-F, RangeStmt-F, StmtLine-F, SwitchStmt-F}
use Rattle.go_syntax.specs.declared.decls.Decl.TheOpen.{TypeSwitchStmt-F, Param-F, Params-F, Signature-F}
use Rattle.go_syntax.specs.declared.decls.Decl.TheViews.{roll-Expr}
use Rattle.go_syntax.specs.declared.decls.Decl.TheViews.{roll-Element}
use Rattle.go_syntax.specs.declared.decls.Decl.TheViews.{roll-ListedExpr}
use Rattle.go_grammar.specs.Forests as forms
use Rattle.go_grammar.specs.Forests.{Form, Forest}
use Rattle.go_grammar.specs.Grammar.{is_sign}
use Rattle.go_grammar.specs.View as view
use Rattle.tree_roles.specs.Tokens.{is_kind, is_if, parens, brackets, braces, in_turn}
use Rattle.tree_roles.specs.Tokens.{ends, between}
use Rattle.tree_roles.specs.Tokens.{is_binary, is_comma, slice_marks}
use Rattle.tree_roles.specs.Tokens.{full_slice_marks, call_marks, InList}
use Rattle.tree_roles.specs.Roles.{roles_of_expr}
use Rattle.tree_roles.specs.Roles.{roles_of_type_expr}
use Rattle.tree_roles.specs.Roles.{roles_of_element, roles_of_listed_expr}
use Rattle.tree_roles.specs.Roles.{roles_of_block}
use Rattle.tree_roles.specs.Roles.{roles_of_signature}
use Rattle.tree_laws.specs.Fields as fields
use Rattle.tree_laws.specs.Fields.{Field, Marked}
use Rattle.tree_laws.proofs.Pieces.{IsTree, Ended, Listed, and2, and3, and4}
use Rattle.tree_laws.proofs.Pieces.{nothing, under, token, token_is, maybe_is, ◌⊗◌, made}
use Rattle.tree_laws.proofs.Pieces.{carry, ended, carry_ended, each_ended, listed, carry_listed, each_listed}
use Rattle.tree_laws.proofs.TokenKinds.{comma_field}
use Rattle.tree_laws.proofs.TokenKinds.{comma_and_close}
use Rattle.tree_laws.proofs.Layers.{DeclP, ExprP, StmtP, ElementLineP, FieldLineP, ResultFormP, TypeExprP, FuncDeclP}
use Rattle.tree_laws.proofs.Layers.{TypeSpecP, ValueSpecP, ElementP, ListedExprP, BlockP, CaseClauseP, CommClauseP}
use Rattle.tree_laws.proofs.Layers.{ForStmtP, IfArmP, RangeStmtP, StmtLineP, SwitchStmtP, TypeSwitchStmtP, ParamP}
use Rattle.tree_laws.proofs.Layers.{ParamsP, SignatureP, FineExpr}
use Rattle.tree_laws.proofs.Layers.{FineElement, FineListedExpr}
use Rattle.tree_laws.proofs.Layers.{view_at_expr}
use Rattle.tree_laws.proofs.Layers.{view_at_element, view_at_listed_expr}
use Rattle.tree_laws.proofs.Layers.{fields_at_expr}
use Rattle.tree_laws.proofs.Layers.{fields_at_element}
use Rattle.tree_laws.proofs.Layers.{fields_at_listed_expr}
use Rattle.tree_laws.proofs.Layers.{roles_at_expr}
use Rattle.tree_laws.proofs.Layers.{roles_at_element, roles_at_listed_expr}
use Rattle.tree_laws.proofs.Layers.{bare_expr}
use Rattle.tree_laws.proofs.Layers.{bare_element, bare_listed_expr}
use Rattle.tree_laws.proofs.Layers.{put_view_expr}
use Rattle.tree_laws.proofs.Layers.{put_view_element, put_view_listed_expr}
use Rattle.tree_laws.proofs.Layers.{put_fields_expr}
use Rattle.tree_laws.proofs.Layers.{put_fields_element, put_fields_listed_expr}
use Rattle.tree_laws.proofs.Layers.{put_roles_expr}
use Rattle.tree_laws.proofs.Layers.{put_roles_element}
use Rattle.tree_laws.proofs.Layers.{put_roles_listed_expr}

case_expr : (y : Expr-F DeclP ExprP StmtP ElementLineP FieldLineP ResultFormP TypeExprP FuncDeclP TypeSpecP ValueSpecP ElementP ListedExprP BlockP CaseClauseP CommClauseP ForStmtP IfArmP RangeStmtP StmtLineP SwitchStmtP TypeSwitchStmtP ParamP ParamsP SignatureP) → roles_at_expr (bare_expr y) ≡ true → IsTree (view_at_expr (bare_expr y)) (fields_at_expr (bare_expr y))
unfolding slice_marks full_slice_marks call_marks
case_expr (layers.Expr-F.Int token) h =
    made (token_is forms.IntForm fields.Only kinds.Int token (λ before after. refl) h)
case_expr (layers.Expr-F.Rune token) h =
    made (token_is forms.RuneForm fields.Only kinds.Rune token (λ before after. refl) h)
case_expr (layers.Expr-F.Text token) h =
    made (token_is forms.TextForm fields.Only kinds.Text token (λ before after. refl) h)
case_expr (layers.Expr-F.Expr::Name token) h =
    made (token_is forms.NameForm fields.Only kinds.Name token (λ before after. refl) h)
case_expr (layers.Expr-F.Expr::Paren «open» inner close) h =
    let hs = and2 (parens «open» close) (roles_of_expr inner.value.0) h in
    let ps = and2 (is_kind kinds.OpenParen «open») (is_kind kinds.CloseParen close) hs.0 in
    made (token_is forms.ParenForm fields.Open kinds.OpenParen «open» (λ before after. refl) ps.0 ⊗ under {form = forms.ParenForm} (λ after kind. refl) (inner.value.1 hs.1) ⊗ token_is forms.ParenForm fields.Close kinds.CloseParen close (λ before after. refl) ps.1)
case_expr (layers.Expr-F.Expr::Function word signature body) h =
    let hs = and3 (is_kind kinds.FuncWord word) (roles_of_signature signature.value.0) (roles_of_block body.value.0) h in
    made (token_is forms.LiteralFunctionForm fields.Word kinds.FuncWord word (λ before after. refl) hs.0 ⊗ under {form = forms.LiteralFunctionForm} (λ after kind. refl) (signature.value.1 hs.1) ⊗ under {form = forms.LiteralFunctionForm} (λ after kind. refl) (body.value.1 hs.2))
case_expr (layers.Expr-F.Expr::TypeForm form) h =
    made (under {form = forms.TypeOperandForm} (λ after kind. refl) (form.value.1 h))
case_expr (layers.Expr-F.Composite None «open» elements close) h =
    let hs = and3 (true) (braces «open» close) (in_turn (map roles_of_element (map (λ e. e.0) elements.items))) h in
    let ps = and2 (is_kind kinds.OpenBrace «open») (is_kind kinds.CloseBrace close) hs.1 in
    made (nothing {form = forms.CompositeForm} (λ after kind. refl) ⊗ token_is forms.CompositeForm fields.Open kinds.OpenBrace «open» (λ before after. refl) ps.0 ⊗ (each_ended is_comma fields.Comma roles_of_element view.view_element fields.fields_of_element elements.items hs.2).part forms.CompositeForm (λ after kind. refl) (λ before after kind h. comma_field kind h) ⊗ token_is forms.CompositeForm fields.Close kinds.CloseBrace close (λ before after. refl) ps.1)
case_expr (layers.Expr-F.Composite (Some form) «open» elements close) h =
    let hs = and3 (roles_of_type_expr form.value.0) (braces «open» close) (in_turn (map roles_of_element (map (λ e. e.0) elements.items))) h in
    let ps = and2 (is_kind kinds.OpenBrace «open») (is_kind kinds.CloseBrace close) hs.1 in
    made (under {form = forms.CompositeForm} (λ after kind. refl) (form.value.1 hs.0) ⊗ token_is forms.CompositeForm fields.Open kinds.OpenBrace «open» (λ before after. refl) ps.0 ⊗ (each_ended is_comma fields.Comma roles_of_element view.view_element fields.fields_of_element elements.items hs.2).part forms.CompositeForm (λ after kind. refl) (λ before after kind h. comma_field kind h) ⊗ token_is forms.CompositeForm fields.Close kinds.CloseBrace close (λ before after. refl) ps.1)
case_expr (layers.Expr-F.Selector operand dot name) h =
    let hs = and3 (roles_of_expr operand.value.0) (is_kind kinds.Dot dot) (is_kind kinds.Name name) h in
    made (under {form = forms.SelectorForm} (λ after kind. refl) (operand.value.1 hs.0) ⊗ token_is forms.SelectorForm fields.Dot kinds.Dot dot (λ before after. refl) hs.1 ⊗ token_is forms.SelectorForm fields.Name kinds.Name name (λ before after. refl) hs.2)
case_expr (layers.Expr-F.Assertion operand dot «open» form close) h =
    let hs = and4 (roles_of_expr operand.value.0) (is_kind kinds.Dot dot) (parens «open» close) (roles_of_type_expr form.value.0) h in
    let ps = and2 (is_kind kinds.OpenParen «open») (is_kind kinds.CloseParen close) hs.2 in
    made (under {form = forms.AssertionForm} (λ after kind. refl) (operand.value.1 hs.0) ⊗ token_is forms.AssertionForm fields.Dot kinds.Dot dot (λ before after. refl) hs.1 ⊗ token_is forms.AssertionForm fields.Open kinds.OpenParen «open» (λ before after. refl) ps.0 ⊗ under {form = forms.AssertionForm} (λ after kind. refl) (form.value.1 hs.3) ⊗ token_is forms.AssertionForm fields.Close kinds.CloseParen close (λ before after. refl) ps.1)
case_expr (layers.Expr-F.Index operand «open» index close) h =
    let hs = and3 (roles_of_expr operand.value.0) (brackets «open» close) (roles_of_expr index.value.0) h in
    let ps = and2 (is_kind kinds.OpenBracket «open») (is_kind kinds.CloseBracket close) hs.1 in
    made (under {form = forms.IndexForm} (λ after kind. refl) (operand.value.1 hs.0) ⊗ token_is forms.IndexForm fields.Open kinds.OpenBracket «open» (λ before after. refl) ps.0 ⊗ under {form = forms.IndexForm} (λ after kind. refl) (index.value.1 hs.2) ⊗ token_is forms.IndexForm fields.Close kinds.CloseBracket close (λ before after. refl) ps.1)
case_expr (layers.Expr-F.Expr::Slice operand «open» None colon None close) h =
    let hs = and4 (roles_of_expr operand.value.0) (slice_marks «open» colon close) (true) (true) h in
    let ms = and2 (brackets «open» close) (is_kind kinds.Colon colon) hs.1 in
    let ps = and2 (is_kind kinds.OpenBracket «open») (is_kind kinds.CloseBracket close) ms.0 in
    made (under {form = forms.SliceExprForm} (λ after kind. refl) (operand.value.1 hs.0) ⊗ token_is forms.SliceExprForm fields.Open kinds.OpenBracket «open» (λ before after. refl) ps.0 ⊗ nothing {form = forms.SliceExprForm} (λ after kind. refl) ⊗ token_is forms.SliceExprForm fields.Colon kinds.Colon colon (λ before after. refl) ms.1 ⊗ nothing {form = forms.SliceExprForm} (λ after kind. refl) ⊗ token_is forms.SliceExprForm fields.Close kinds.CloseBracket close (λ before after. refl) ps.1)
case_expr (layers.Expr-F.Expr::Slice operand «open» None colon (Some high) close) h =
    let hs = and4 (roles_of_expr operand.value.0) (slice_marks «open» colon close) (true) (roles_of_expr high.value.0) h in
    let ms = and2 (brackets «open» close) (is_kind kinds.Colon colon) hs.1 in
    let ps = and2 (is_kind kinds.OpenBracket «open») (is_kind kinds.CloseBracket close) ms.0 in
    made (under {form = forms.SliceExprForm} (λ after kind. refl) (operand.value.1 hs.0) ⊗ token_is forms.SliceExprForm fields.Open kinds.OpenBracket «open» (λ before after. refl) ps.0 ⊗ nothing {form = forms.SliceExprForm} (λ after kind. refl) ⊗ token_is forms.SliceExprForm fields.Colon kinds.Colon colon (λ before after. refl) ms.1 ⊗ under {form = forms.SliceExprForm} (λ after kind. refl) (high.value.1 hs.3) ⊗ token_is forms.SliceExprForm fields.Close kinds.CloseBracket close (λ before after. refl) ps.1)
case_expr (layers.Expr-F.Expr::Slice operand «open» (Some low) colon None close) h =
    let hs = and4 (roles_of_expr operand.value.0) (slice_marks «open» colon close) (roles_of_expr low.value.0) (true) h in
    let ms = and2 (brackets «open» close) (is_kind kinds.Colon colon) hs.1 in
    let ps = and2 (is_kind kinds.OpenBracket «open») (is_kind kinds.CloseBracket close) ms.0 in
    made (under {form = forms.SliceExprForm} (λ after kind. refl) (operand.value.1 hs.0) ⊗ token_is forms.SliceExprForm fields.Open kinds.OpenBracket «open» (λ before after. refl) ps.0 ⊗ under {form = forms.SliceExprForm} (λ after kind. refl) (low.value.1 hs.2) ⊗ token_is forms.SliceExprForm fields.Colon kinds.Colon colon (λ before after. refl) ms.1 ⊗ nothing {form = forms.SliceExprForm} (λ after kind. refl) ⊗ token_is forms.SliceExprForm fields.Close kinds.CloseBracket close (λ before after. refl) ps.1)
case_expr (layers.Expr-F.Expr::Slice operand «open» (Some low) colon (Some high) close) h =
    let hs = and4 (roles_of_expr operand.value.0) (slice_marks «open» colon close) (roles_of_expr low.value.0) (roles_of_expr high.value.0) h in
    let ms = and2 (brackets «open» close) (is_kind kinds.Colon colon) hs.1 in
    let ps = and2 (is_kind kinds.OpenBracket «open») (is_kind kinds.CloseBracket close) ms.0 in
    made (under {form = forms.SliceExprForm} (λ after kind. refl) (operand.value.1 hs.0) ⊗ token_is forms.SliceExprForm fields.Open kinds.OpenBracket «open» (λ before after. refl) ps.0 ⊗ under {form = forms.SliceExprForm} (λ after kind. refl) (low.value.1 hs.2) ⊗ token_is forms.SliceExprForm fields.Colon kinds.Colon colon (λ before after. refl) ms.1 ⊗ under {form = forms.SliceExprForm} (λ after kind. refl) (high.value.1 hs.3) ⊗ token_is forms.SliceExprForm fields.Close kinds.CloseBracket close (λ before after. refl) ps.1)
case_expr (layers.Expr-F.FullSlice operand «open» None colon high second_colon max close) h =
    let hs = and3 (roles_of_expr operand.value.0) (full_slice_marks «open» colon second_colon close) (true && roles_of_expr high.value.0 && roles_of_expr max.value.0) h in
    let ms = and3 (brackets «open» close) (is_kind kinds.Colon colon) (is_kind kinds.Colon second_colon) hs.1 in
    let ps = and2 (is_kind kinds.OpenBracket «open») (is_kind kinds.CloseBracket close) ms.0 in
    let bs = and3 (true) (roles_of_expr high.value.0) (roles_of_expr max.value.0) hs.2 in
    made (under {form = forms.FullSliceForm} (λ after kind. refl) (operand.value.1 hs.0) ⊗ token_is forms.FullSliceForm fields.Open kinds.OpenBracket «open» (λ before after. refl) ps.0 ⊗ nothing {form = forms.FullSliceForm} (λ after kind. refl) ⊗ token_is forms.FullSliceForm fields.Colon kinds.Colon colon (λ before after. refl) ms.1 ⊗ under {form = forms.FullSliceForm} (λ after kind. refl) (high.value.1 bs.1) ⊗ token_is forms.FullSliceForm fields.Colon kinds.Colon second_colon (λ before after. refl) ms.2 ⊗ under {form = forms.FullSliceForm} (λ after kind. refl) (max.value.1 bs.2) ⊗ token_is forms.FullSliceForm fields.Close kinds.CloseBracket close (λ before after. refl) ps.1)
case_expr (layers.Expr-F.FullSlice operand «open» (Some low) colon high second_colon max close) h =
    let hs = and3 (roles_of_expr operand.value.0) (full_slice_marks «open» colon second_colon close) (roles_of_expr low.value.0 && roles_of_expr high.value.0 && roles_of_expr max.value.0) h in
    let ms = and3 (brackets «open» close) (is_kind kinds.Colon colon) (is_kind kinds.Colon second_colon) hs.1 in
    let ps = and2 (is_kind kinds.OpenBracket «open») (is_kind kinds.CloseBracket close) ms.0 in
    let bs = and3 (roles_of_expr low.value.0) (roles_of_expr high.value.0) (roles_of_expr max.value.0) hs.2 in
    made (under {form = forms.FullSliceForm} (λ after kind. refl) (operand.value.1 hs.0) ⊗ token_is forms.FullSliceForm fields.Open kinds.OpenBracket «open» (λ before after. refl) ps.0 ⊗ under {form = forms.FullSliceForm} (λ after kind. refl) (low.value.1 bs.0) ⊗ token_is forms.FullSliceForm fields.Colon kinds.Colon colon (λ before after. refl) ms.1 ⊗ under {form = forms.FullSliceForm} (λ after kind. refl) (high.value.1 bs.1) ⊗ token_is forms.FullSliceForm fields.Colon kinds.Colon second_colon (λ before after. refl) ms.2 ⊗ under {form = forms.FullSliceForm} (λ after kind. refl) (max.value.1 bs.2) ⊗ token_is forms.FullSliceForm fields.Close kinds.CloseBracket close (λ before after. refl) ps.1)
case_expr (layers.Expr-F.Call callee «open» arguments ellipsis None close) h =
    let hs = and3 (roles_of_expr callee.value.0) (call_marks «open» ellipsis None close) (in_turn (map roles_of_listed_expr (map (λ e. e.0) arguments.items))) h in
    let ms = and3 (parens «open» close) (is_if kinds.Ellipsis ellipsis) (true) hs.1 in
    let ps = and2 (is_kind kinds.OpenParen «open») (is_kind kinds.CloseParen close) ms.0 in
    made (under {form = forms.CallForm} (λ after kind. refl) (callee.value.1 hs.0) ⊗ token_is forms.CallForm fields.Open kinds.OpenParen «open» (λ before after. refl) ps.0 ⊗ each_listed roles_of_listed_expr view.view_listed_expr fields.fields_of_listed_expr arguments.items hs.2 forms.CallForm (λ after kind. refl) (λ before. refl) ⊗ maybe_is forms.CallForm fields.Ellipsis kinds.Ellipsis ellipsis (λ after kind. refl) (λ before after. refl) ms.1 ⊗ nothing {form = forms.CallForm} (λ after kind. refl) ⊗ token_is forms.CallForm fields.Close kinds.CloseParen close (λ before after. refl) ps.1)
case_expr (layers.Expr-F.Call callee «open» arguments ellipsis (Some comma) close) h =
    let hs = and3 (roles_of_expr callee.value.0) (call_marks «open» ellipsis (Some comma) close) (in_turn (map roles_of_listed_expr (map (λ e. e.0) arguments.items))) h in
    let ms = and3 (parens «open» close) (is_if kinds.Ellipsis ellipsis) (is_kind kinds.Comma comma) hs.1 in
    let ps = and2 (is_kind kinds.OpenParen «open») (is_kind kinds.CloseParen close) ms.0 in
    made (under {form = forms.CallForm} (λ after kind. refl) (callee.value.1 hs.0) ⊗ token_is forms.CallForm fields.Open kinds.OpenParen «open» (λ before after. refl) ps.0 ⊗ each_listed roles_of_listed_expr view.view_listed_expr fields.fields_of_listed_expr arguments.items hs.2 forms.CallForm (λ after kind. refl) (λ before. refl) ⊗ maybe_is forms.CallForm fields.Ellipsis kinds.Ellipsis ellipsis (λ after kind. refl) (λ before after. refl) ms.1 ⊗ comma_and_close comma close ms.2 ps.1)
case_expr (layers.Expr-F.Unary operator operand) h =
    let hs = and2 (is_sign operator.kind) (roles_of_expr operand.value.0) h in
    made (token forms.UnaryForm fields.Operator operator (λ before after. refl) ⊗ under {form = forms.UnaryForm} (λ after kind. refl) (operand.value.1 hs.1))
case_expr (layers.Expr-F.Binary left operator right) h =
    let hs = and3 (roles_of_expr left.value.0) (is_binary operator.kind) (roles_of_expr right.value.0) h in
    made (under {form = forms.BinaryForm} (λ after kind. refl) (left.value.1 hs.0) ⊗ token forms.BinaryForm fields.Operator operator (λ before after. refl) ⊗ under {form = forms.BinaryForm} (λ after kind. refl) (right.value.1 hs.2))

pub step_expr : (y : Expr-F DeclP ExprP StmtP ElementLineP FieldLineP ResultFormP TypeExprP FuncDeclP TypeSpecP ValueSpecP ElementP ListedExprP BlockP CaseClauseP CommClauseP ForStmtP IfArmP RangeStmtP StmtLineP SwitchStmtP TypeSwitchStmtP ParamP ParamsP SignatureP) → FineExpr (roll-Expr (bare_expr y))
step_expr y h = carry (put_view_expr (bare_expr y)) (put_fields_expr (bare_expr y)) (case_expr y (sym (put_roles_expr (bare_expr y)) ∙ h))

of_element : (key : Option (Box ExprP)) (colon : Option Token) (value : Box ExprP) (comma : Option Token) → (more : Bool) → roles_at_element (bare_element (record { key = key; colon = colon; value = value; comma = comma })) more ≡ true → Ended is_comma fields.Comma (view_at_element (bare_element (record { key = key; colon = colon; value = value; comma = comma }))) (fields_at_element (bare_element (record { key = key; colon = colon; value = value; comma = comma })))
of_element None colon value comma more h =
    let hs = and4 (true) (is_if kinds.Colon colon) (roles_of_expr value.value.0) (ends is_comma comma more) h in
    ended is_comma fields.Comma comma more (made (nothing {form = forms.ElementForm} (λ after kind. refl) ⊗ maybe_is forms.ElementForm fields.Colon kinds.Colon colon (λ after kind. refl) (λ before after. refl) hs.1 ⊗ under {form = forms.ElementForm} (λ after kind. refl) (value.value.1 hs.2))) hs.3
of_element (Some key) colon value comma more h =
    let hs = and4 (roles_of_expr key.value.0) (is_if kinds.Colon colon) (roles_of_expr value.value.0) (ends is_comma comma more) h in
    ended is_comma fields.Comma comma more (made (under {form = forms.ElementForm} (λ after kind. refl) (key.value.1 hs.0) ⊗ maybe_is forms.ElementForm fields.Colon kinds.Colon colon (λ after kind. refl) (λ before after. refl) hs.1 ⊗ under {form = forms.ElementForm} (λ after kind. refl) (value.value.1 hs.2))) hs.3

case_element : (y : Element-F DeclP ExprP StmtP ElementLineP FieldLineP ResultFormP TypeExprP FuncDeclP TypeSpecP ValueSpecP ElementP ListedExprP BlockP CaseClauseP CommClauseP ForStmtP IfArmP RangeStmtP StmtLineP SwitchStmtP TypeSwitchStmtP ParamP ParamsP SignatureP) → (more : Bool) → roles_at_element (bare_element y) more ≡ true → Ended is_comma fields.Comma (view_at_element (bare_element y)) (fields_at_element (bare_element y))
case_element y more h = of_element y.key y.colon y.value y.comma more h

pub step_element : (y : Element-F DeclP ExprP StmtP ElementLineP FieldLineP ResultFormP TypeExprP FuncDeclP TypeSpecP ValueSpecP ElementP ListedExprP BlockP CaseClauseP CommClauseP ForStmtP IfArmP RangeStmtP StmtLineP SwitchStmtP TypeSwitchStmtP ParamP ParamsP SignatureP) → FineElement (roll-Element (bare_element y))
step_element y more h = carry_ended (put_view_element (bare_element y)) (put_fields_element (bare_element y)) (case_element y more (sym (ap (λ (f : InList). f more) (put_roles_element (bare_element y))) ∙ h))

of_listed_expr : (expr : Box ExprP) (comma : Option Token) → (more : Bool) → roles_at_listed_expr (bare_listed_expr (record { expr = expr; comma = comma })) more ≡ true → Listed more (view_at_listed_expr (bare_listed_expr (record { expr = expr; comma = comma }))) (fields_at_listed_expr (bare_listed_expr (record { expr = expr; comma = comma })))
of_listed_expr expr comma more h =
    let hs = and2 (roles_of_expr expr.value.0) (between comma more) h in
    listed comma more (expr.value.1 hs.0) hs.1

case_listed_expr : (y : ListedExpr-F DeclP ExprP StmtP ElementLineP FieldLineP ResultFormP TypeExprP FuncDeclP TypeSpecP ValueSpecP ElementP ListedExprP BlockP CaseClauseP CommClauseP ForStmtP IfArmP RangeStmtP StmtLineP SwitchStmtP TypeSwitchStmtP ParamP ParamsP SignatureP) → (more : Bool) → roles_at_listed_expr (bare_listed_expr y) more ≡ true → Listed more (view_at_listed_expr (bare_listed_expr y)) (fields_at_listed_expr (bare_listed_expr y))
case_listed_expr y more h = of_listed_expr y.expr y.comma more h

pub step_listed_expr : (y : ListedExpr-F DeclP ExprP StmtP ElementLineP FieldLineP ResultFormP TypeExprP FuncDeclP TypeSpecP ValueSpecP ElementP ListedExprP BlockP CaseClauseP CommClauseP ForStmtP IfArmP RangeStmtP StmtLineP SwitchStmtP TypeSwitchStmtP ParamP ParamsP SignatureP) → FineListedExpr (roll-ListedExpr (bare_listed_expr y))
step_listed_expr y more h = carry_listed (put_view_listed_expr (bare_listed_expr y)) (put_fields_listed_expr (bare_listed_expr y)) (case_listed_expr y more (sym (ap (λ (f : InList). f more) (put_roles_listed_expr (bare_listed_expr y))) ∙ h))
