-- The fields of types are told, where those of what is below are.
use Rattle.std.proofs.Common.{◌≡◌, refl, sym, ap, ◌∙◌, map, Option}
use Rattle.std.specs.Prelude.{Bool, true}
use Rattle.std.specs.Global.{Box, Vec}
use Rattle.go_ast.specs.declared.token.Token.{Token}
use Rattle.go_ast.specs.declared.token.Kind.TheVariants as kinds
use Rattle.go_syntax.specs.declared.type_exprs.ListedName.{ListedName}
use Rattle.go_syntax.specs.declared.decls.Decl.TheOpen as layers
use Rattle.go_syntax.specs.declared.decls.Decl.TheOpen.{Decl-F, Expr-F, Stmt-F, ElementLine-F, FieldLine-F}
use Rattle.go_syntax.specs.declared.decls.Decl.TheOpen.{ResultForm-F, TypeExpr-F, FuncDecl-F, TypeSpec-F, ValueSpec-F}
use Rattle.go_syntax.specs.declared.decls.Decl.TheOpen.{Element-F, ListedExpr-F, Block-F, CaseClause-F, CommClause-F}
use Rattle.go_syntax.specs.declared.decls.Decl.TheOpen.{ForStmt-F, IfArm-F, RangeStmt-F, StmtLine-F, SwitchStmt-F}
use Rattle.go_syntax.specs.declared.decls.Decl.TheOpen.{TypeSwitchStmt-F, Param-F, Params-F, Signature-F}
use Rattle.go_syntax.specs.declared.decls.Decl.TheViews.{roll-ElementLine}
use Rattle.go_syntax.specs.declared.decls.Decl.TheViews.{roll-FieldLine, roll-ResultForm, roll-TypeExpr}
use Rattle.go_syntax.specs.declared.decls.Decl.TheViews.{roll-Param, roll-Params, roll-Signature}
use Rattle.go_grammar.specs.Forests as forms
use Rattle.go_grammar.specs.Forests.{Form, Forest}
use Rattle.go_grammar.specs.Grammar.{is_semicolon}
use Rattle.go_grammar.specs.View as view
use Rattle.tree_roles.specs.Tokens.{is_kind, is_if, parens, brackets, braces, in_turn}
use Rattle.tree_roles.specs.Tokens.{ends, are_names, is_named}
use Rattle.tree_roles.specs.Tokens.{is_comma}
use Rattle.tree_roles.specs.Tokens.{InList}
use Rattle.tree_roles.specs.Roles.{roles_of_expr, roles_of_element_line}
use Rattle.tree_roles.specs.Roles.{roles_of_field_line, roles_of_result_form, roles_of_type_expr}
use Rattle.tree_roles.specs.Roles.{roles_of_param, roles_of_params, roles_of_signature}
use Rattle.tree_laws.specs.Fields as fields
use Rattle.tree_laws.specs.Fields.{Field, Marked}
use Rattle.tree_laws.proofs.Told.{Plain}
use Rattle.tree_laws.proofs.Pieces.{Part, IsTree, Ended, Line, and2, and3, and4}
use Rattle.tree_laws.proofs.Pieces.{nothing, under, token, token_is, maybe_is, ◌⊗◌, made, made_of}
use Rattle.tree_laws.proofs.Pieces.{carry, ended, carry_ended, each_ended}
use Rattle.tree_laws.proofs.Pieces.{line, empty_line, carry_line, names, named_type}
use Rattle.tree_laws.proofs.TokenKinds.{comma_field}
use Rattle.tree_laws.proofs.TokenKinds.{struct_lines, interface_lines, lines_within}
use Rattle.tree_laws.proofs.Layers.{DeclP, ExprP, StmtP, ElementLineP, FieldLineP, ResultFormP, TypeExprP, FuncDeclP}
use Rattle.tree_laws.proofs.Layers.{TypeSpecP, ValueSpecP, ElementP, ListedExprP, BlockP, CaseClauseP, CommClauseP}
use Rattle.tree_laws.proofs.Layers.{ForStmtP, IfArmP, RangeStmtP, StmtLineP, SwitchStmtP, TypeSwitchStmtP, ParamP}
use Rattle.tree_laws.proofs.Layers.{ParamsP, SignatureP, FineElementLine, FineFieldLine}
use Rattle.tree_laws.proofs.Layers.{FineResultForm, FineTypeExpr}
use Rattle.tree_laws.proofs.Layers.{FineParam, FineParams, FineSignature}
use Rattle.tree_laws.proofs.Layers.{view_at_element_line, view_at_field_line}
use Rattle.tree_laws.proofs.Layers.{view_at_result_form, view_at_type_expr}
use Rattle.tree_laws.proofs.Layers.{view_at_param, view_at_params, view_at_signature}
use Rattle.tree_laws.proofs.Layers.{fields_at_element_line}
use Rattle.tree_laws.proofs.Layers.{fields_at_field_line, fields_at_result_form, fields_at_type_expr}
use Rattle.tree_laws.proofs.Layers.{fields_at_param, fields_at_params, fields_at_signature}
use Rattle.tree_laws.proofs.Layers.{roles_at_element_line, roles_at_field_line}
use Rattle.tree_laws.proofs.Layers.{roles_at_result_form, roles_at_type_expr}
use Rattle.tree_laws.proofs.Layers.{roles_at_param, roles_at_params, roles_at_signature}
use Rattle.tree_laws.proofs.Layers.{bare_element_line, bare_field_line}
use Rattle.tree_laws.proofs.Layers.{bare_result_form, bare_type_expr}
use Rattle.tree_laws.proofs.Layers.{bare_param, bare_params, bare_signature}
use Rattle.tree_laws.proofs.Layers.{put_view_element_line, put_view_field_line}
use Rattle.tree_laws.proofs.Layers.{put_view_result_form, put_view_type_expr}
use Rattle.tree_laws.proofs.Layers.{put_view_param, put_view_params, put_view_signature}
use Rattle.tree_laws.proofs.Layers.{put_fields_element_line}
use Rattle.tree_laws.proofs.Layers.{put_fields_field_line, put_fields_result_form, put_fields_type_expr}
use Rattle.tree_laws.proofs.Layers.{put_fields_param}
use Rattle.tree_laws.proofs.Layers.{put_fields_params, put_fields_signature}
use Rattle.tree_laws.proofs.Layers.{put_roles_element_line, put_roles_field_line}
use Rattle.tree_laws.proofs.Layers.{put_roles_result_form, put_roles_type_expr}
use Rattle.tree_laws.proofs.Layers.{put_roles_param, put_roles_params, put_roles_signature}

case_element_line : (y : ElementLine-F DeclP ExprP StmtP ElementLineP FieldLineP ResultFormP TypeExprP FuncDeclP TypeSpecP ValueSpecP ElementP ListedExprP BlockP CaseClauseP CommClauseP ForStmtP IfArmP RangeStmtP StmtLineP SwitchStmtP TypeSwitchStmtP ParamP ParamsP SignatureP) → (more : Bool) → roles_at_element_line (bare_element_line y) more ≡ true → Line more (view_at_element_line (bare_element_line y)) (fields_at_element_line (bare_element_line y))
case_element_line (layers.ElementLine-F.ElementLine::Empty token) more h =
    empty_line token more h
case_element_line (layers.ElementLine-F.Method name signature semicolon) more h =
    let hs = and3 (is_kind kinds.Name name) (roles_of_signature signature.value.0) (ends is_semicolon semicolon more) h in
    line semicolon more (made (token_is forms.MethodForm fields.Name kinds.Name name (λ before after. refl) hs.0 ⊗ under {form = forms.MethodForm} (λ after kind. refl) (signature.value.1 hs.1))) hs.2
case_element_line (layers.ElementLine-F.ElementLine::Embedded name semicolon) more h =
    let hs = and2 (is_named name) (ends is_semicolon semicolon more) h in
    line semicolon more (made (under {form = forms.EmbeddedElementForm} (λ after kind. refl) (named_type name hs.0))) hs.1

pub step_element_line : (y : ElementLine-F DeclP ExprP StmtP ElementLineP FieldLineP ResultFormP TypeExprP FuncDeclP TypeSpecP ValueSpecP ElementP ListedExprP BlockP CaseClauseP CommClauseP ForStmtP IfArmP RangeStmtP StmtLineP SwitchStmtP TypeSwitchStmtP ParamP ParamsP SignatureP) → FineElementLine (roll-ElementLine (bare_element_line y))
step_element_line y more h = carry_line (put_view_element_line (bare_element_line y)) (put_fields_element_line (bare_element_line y)) (case_element_line y more (sym (ap (λ (f : InList). f more) (put_roles_element_line (bare_element_line y))) ∙ h))

case_field_line : (y : FieldLine-F DeclP ExprP StmtP ElementLineP FieldLineP ResultFormP TypeExprP FuncDeclP TypeSpecP ValueSpecP ElementP ListedExprP BlockP CaseClauseP CommClauseP ForStmtP IfArmP RangeStmtP StmtLineP SwitchStmtP TypeSwitchStmtP ParamP ParamsP SignatureP) → (more : Bool) → roles_at_field_line (bare_field_line y) more ≡ true → Line more (view_at_field_line (bare_field_line y)) (fields_at_field_line (bare_field_line y))
case_field_line (layers.FieldLine-F.FieldLine::Empty token) more h =
    empty_line token more h
case_field_line (layers.FieldLine-F.Named names_of form tag semicolon) more h =
    let hs = and4 (are_names names_of.items) (roles_of_type_expr form.value.0) (is_if kinds.Text tag) (ends is_semicolon semicolon more) h in
    line semicolon more (made (names forms.NamedFieldForm (λ after kind. refl) (λ before after. refl) (λ before after. refl) names_of.items hs.0 ⊗ under {form = forms.NamedFieldForm} (λ after kind. refl) (form.value.1 hs.1) ⊗ maybe_is forms.NamedFieldForm fields.Tag kinds.Text tag (λ after kind. refl) (λ before after. refl) hs.2)) hs.3
case_field_line (layers.FieldLine-F.FieldLine::Embedded star name tag semicolon) more h =
    let hs = and4 (is_if kinds.Star star) (is_named name) (is_if kinds.Text tag) (ends is_semicolon semicolon more) h in
    line semicolon more (made (maybe_is forms.EmbeddedFieldForm fields.Star kinds.Star star (λ after kind. refl) (λ before after. refl) hs.0 ⊗ under {form = forms.EmbeddedFieldForm} (λ after kind. refl) (named_type name hs.1) ⊗ maybe_is forms.EmbeddedFieldForm fields.Tag kinds.Text tag (λ after kind. refl) (λ before after. refl) hs.2)) hs.3

pub step_field_line : (y : FieldLine-F DeclP ExprP StmtP ElementLineP FieldLineP ResultFormP TypeExprP FuncDeclP TypeSpecP ValueSpecP ElementP ListedExprP BlockP CaseClauseP CommClauseP ForStmtP IfArmP RangeStmtP StmtLineP SwitchStmtP TypeSwitchStmtP ParamP ParamsP SignatureP) → FineFieldLine (roll-FieldLine (bare_field_line y))
step_field_line y more h = carry_line (put_view_field_line (bare_field_line y)) (put_fields_field_line (bare_field_line y)) (case_field_line y more (sym (ap (λ (f : InList). f more) (put_roles_field_line (bare_field_line y))) ∙ h))

case_result_form : (y : ResultForm-F DeclP ExprP StmtP ElementLineP FieldLineP ResultFormP TypeExprP FuncDeclP TypeSpecP ValueSpecP ElementP ListedExprP BlockP CaseClauseP CommClauseP ForStmtP IfArmP RangeStmtP StmtLineP SwitchStmtP TypeSwitchStmtP ParamP ParamsP SignatureP) → roles_at_result_form (bare_result_form y) ≡ true → (form : Form) → Plain form → Part form (view_at_result_form (bare_result_form y)) (fields_at_result_form (bare_result_form y))
case_result_form layers.ResultForm-F.None h =
    λ form fine. nothing fine
case_result_form (layers.ResultForm-F.Params params) h =
    λ form fine. under fine (params.1 h)
case_result_form (layers.ResultForm-F.ResultForm::TypeForm inner) h =
    λ form fine. under fine (inner.value.1 h)

pub step_result_form : (y : ResultForm-F DeclP ExprP StmtP ElementLineP FieldLineP ResultFormP TypeExprP FuncDeclP TypeSpecP ValueSpecP ElementP ListedExprP BlockP CaseClauseP CommClauseP ForStmtP IfArmP RangeStmtP StmtLineP SwitchStmtP TypeSwitchStmtP ParamP ParamsP SignatureP) → FineResultForm (roll-ResultForm (bare_result_form y))
step_result_form y h form fine = rw (put_view_result_form (bare_result_form y), put_fields_result_form (bare_result_form y)) (case_result_form y (sym (put_roles_result_form (bare_result_form y)) ∙ h) form fine)

case_type_expr : (y : TypeExpr-F DeclP ExprP StmtP ElementLineP FieldLineP ResultFormP TypeExprP FuncDeclP TypeSpecP ValueSpecP ElementP ListedExprP BlockP CaseClauseP CommClauseP ForStmtP IfArmP RangeStmtP StmtLineP SwitchStmtP TypeSwitchStmtP ParamP ParamsP SignatureP) → roles_at_type_expr (bare_type_expr y) ≡ true → IsTree (view_at_type_expr (bare_type_expr y)) (fields_at_type_expr (bare_type_expr y))
case_type_expr (layers.TypeExpr-F.TypeExpr::Name name) h =
    named_type name h
case_type_expr (layers.TypeExpr-F.TypeExpr::Paren «open» inner close) h =
    let hs = and2 (parens «open» close) (roles_of_type_expr inner.value.0) h in
    let ps = and2 (is_kind kinds.OpenParen «open») (is_kind kinds.CloseParen close) hs.0 in
    made (token_is forms.ParenTypeForm fields.Open kinds.OpenParen «open» (λ before after. refl) ps.0 ⊗ under {form = forms.ParenTypeForm} (λ after kind. refl) (inner.value.1 hs.1) ⊗ token_is forms.ParenTypeForm fields.Close kinds.CloseParen close (λ before after. refl) ps.1)
case_type_expr (layers.TypeExpr-F.Pointer star base) h =
    let hs = and2 (is_kind kinds.Star star) (roles_of_type_expr base.value.0) h in
    made (token_is forms.PointerForm fields.Star kinds.Star star (λ before after. refl) hs.0 ⊗ under {form = forms.PointerForm} (λ after kind. refl) (base.value.1 hs.1))
case_type_expr (layers.TypeExpr-F.TypeExpr::Slice «open» close element) h =
    let hs = and2 (brackets «open» close) (roles_of_type_expr element.value.0) h in
    let ps = and2 (is_kind kinds.OpenBracket «open») (is_kind kinds.CloseBracket close) hs.0 in
    made (token_is forms.SliceForm fields.Open kinds.OpenBracket «open» (λ before after. refl) ps.0 ⊗ token_is forms.SliceForm fields.Close kinds.CloseBracket close (λ before after. refl) ps.1 ⊗ under {form = forms.SliceForm} (λ after kind. refl) (element.value.1 hs.1))
case_type_expr (layers.TypeExpr-F.Array «open» length close element) h =
    let hs = and3 (brackets «open» close) (roles_of_expr length.value.0) (roles_of_type_expr element.value.0) h in
    let ps = and2 (is_kind kinds.OpenBracket «open») (is_kind kinds.CloseBracket close) hs.0 in
    made (token_is forms.ArrayForm fields.Open kinds.OpenBracket «open» (λ before after. refl) ps.0 ⊗ under {form = forms.ArrayForm} (λ after kind. refl) (length.value.1 hs.1) ⊗ token_is forms.ArrayForm fields.Close kinds.CloseBracket close (λ before after. refl) ps.1 ⊗ under {form = forms.ArrayForm} (λ after kind. refl) (element.value.1 hs.2))
case_type_expr (layers.TypeExpr-F.OpenArray «open» ellipsis close element) h =
    let hs = and3 (brackets «open» close) (is_kind kinds.Ellipsis ellipsis) (roles_of_type_expr element.value.0) h in
    let ps = and2 (is_kind kinds.OpenBracket «open») (is_kind kinds.CloseBracket close) hs.0 in
    made (token_is forms.OpenArrayForm fields.Open kinds.OpenBracket «open» (λ before after. refl) ps.0 ⊗ token_is forms.OpenArrayForm fields.Ellipsis kinds.Ellipsis ellipsis (λ before after. refl) hs.1 ⊗ token_is forms.OpenArrayForm fields.Close kinds.CloseBracket close (λ before after. refl) ps.1 ⊗ under {form = forms.OpenArrayForm} (λ after kind. refl) (element.value.1 hs.2))
case_type_expr (layers.TypeExpr-F.Map word «open» key close element) h =
    let hs = and4 (is_kind kinds.MapWord word) (brackets «open» close) (roles_of_type_expr key.value.0) (roles_of_type_expr element.value.0) h in
    let ps = and2 (is_kind kinds.OpenBracket «open») (is_kind kinds.CloseBracket close) hs.1 in
    made (token_is forms.MapForm fields.Word kinds.MapWord word (λ before after. refl) hs.0 ⊗ token_is forms.MapForm fields.Open kinds.OpenBracket «open» (λ before after. refl) ps.0 ⊗ under {form = forms.MapForm} (λ after kind. refl) (key.value.1 hs.2) ⊗ token_is forms.MapForm fields.Close kinds.CloseBracket close (λ before after. refl) ps.1 ⊗ under {form = forms.MapForm} (λ after kind. refl) (element.value.1 hs.3))
case_type_expr (layers.TypeExpr-F.Chan word arrow element) h =
    let hs = and3 (is_kind kinds.ChanWord word) (is_if kinds.Arrow arrow) (roles_of_type_expr element.value.0) h in
    made (token_is forms.ChanForm fields.Word kinds.ChanWord word (λ before after. refl) hs.0 ⊗ maybe_is forms.ChanForm fields.Arrow kinds.Arrow arrow (λ after kind. refl) (λ before after. refl) hs.1 ⊗ under {form = forms.ChanForm} (λ after kind. refl) (element.value.1 hs.2))
case_type_expr (layers.TypeExpr-F.ReceiveChan arrow word element) h =
    let hs = and3 (is_kind kinds.Arrow arrow) (is_kind kinds.ChanWord word) (roles_of_type_expr element.value.0) h in
    made (token_is forms.ReceiveChanForm fields.Arrow kinds.Arrow arrow (λ before after. refl) hs.0 ⊗ token_is forms.ReceiveChanForm fields.Word kinds.ChanWord word (λ before after. refl) hs.1 ⊗ under {form = forms.ReceiveChanForm} (λ after kind. refl) (element.value.1 hs.2))
case_type_expr (layers.TypeExpr-F.TypeExpr::Function word signature) h =
    let hs = and2 (is_kind kinds.FuncWord word) (roles_of_signature signature.value.0) h in
    made (token_is forms.FunctionForm fields.Word kinds.FuncWord word (λ before after. refl) hs.0 ⊗ under {form = forms.FunctionForm} (λ after kind. refl) (signature.value.1 hs.1))
case_type_expr (layers.TypeExpr-F.Struct word «open» fields_of close) h =
    let hs = and3 (is_kind kinds.StructWord word) (braces «open» close) (in_turn (map roles_of_field_line (map (λ e. e.0) fields_of.items))) h in
    let ps = and2 (is_kind kinds.OpenBrace «open») (is_kind kinds.CloseBrace close) hs.1 in
    made_of (lines_within forms.StructForm fields.Word kinds.StructWord struct_lines (λ before after. refl) (λ before after. refl) (λ before after. refl) roles_of_field_line view.view_field_line fields.fields_of_field_line word «open» fields_of.items close hs.0 ps.0 hs.2 ps.1)
case_type_expr (layers.TypeExpr-F.Interface word «open» elements close) h =
    let hs = and3 (is_kind kinds.InterfaceWord word) (braces «open» close) (in_turn (map roles_of_element_line (map (λ e. e.0) elements.items))) h in
    let ps = and2 (is_kind kinds.OpenBrace «open») (is_kind kinds.CloseBrace close) hs.1 in
    made_of (lines_within forms.InterfaceForm fields.Word kinds.InterfaceWord interface_lines (λ before after. refl) (λ before after. refl) (λ before after. refl) roles_of_element_line view.view_element_line fields.fields_of_element_line word «open» elements.items close hs.0 ps.0 hs.2 ps.1)

pub step_type_expr : (y : TypeExpr-F DeclP ExprP StmtP ElementLineP FieldLineP ResultFormP TypeExprP FuncDeclP TypeSpecP ValueSpecP ElementP ListedExprP BlockP CaseClauseP CommClauseP ForStmtP IfArmP RangeStmtP StmtLineP SwitchStmtP TypeSwitchStmtP ParamP ParamsP SignatureP) → FineTypeExpr (roll-TypeExpr (bare_type_expr y))
step_type_expr y h = carry (put_view_type_expr (bare_type_expr y)) (put_fields_type_expr (bare_type_expr y)) (case_type_expr y (sym (put_roles_type_expr (bare_type_expr y)) ∙ h))

of_param : (names_of : Vec ListedName) (ellipsis : Option Token) (form : Box TypeExprP) (comma : Option Token) → (more : Bool) → roles_at_param (bare_param (record { names = names_of; ellipsis = ellipsis; form = form; comma = comma })) more ≡ true → Ended is_comma fields.Comma (view_at_param (bare_param (record { names = names_of; ellipsis = ellipsis; form = form; comma = comma }))) (fields_at_param (bare_param (record { names = names_of; ellipsis = ellipsis; form = form; comma = comma })))
of_param names_of ellipsis form comma more h =
    let hs = and4 (are_names names_of.items) (is_if kinds.Ellipsis ellipsis) (roles_of_type_expr form.value.0) (ends is_comma comma more) h in
    ended is_comma fields.Comma comma more (made (names forms.ParamForm (λ after kind. refl) (λ before after. refl) (λ before after. refl) names_of.items hs.0 ⊗ maybe_is forms.ParamForm fields.Ellipsis kinds.Ellipsis ellipsis (λ after kind. refl) (λ before after. refl) hs.1 ⊗ under {form = forms.ParamForm} (λ after kind. refl) (form.value.1 hs.2))) hs.3

case_param : (y : Param-F DeclP ExprP StmtP ElementLineP FieldLineP ResultFormP TypeExprP FuncDeclP TypeSpecP ValueSpecP ElementP ListedExprP BlockP CaseClauseP CommClauseP ForStmtP IfArmP RangeStmtP StmtLineP SwitchStmtP TypeSwitchStmtP ParamP ParamsP SignatureP) → (more : Bool) → roles_at_param (bare_param y) more ≡ true → Ended is_comma fields.Comma (view_at_param (bare_param y)) (fields_at_param (bare_param y))
case_param y more h = of_param y.names y.ellipsis y.form y.comma more h

pub step_param : (y : Param-F DeclP ExprP StmtP ElementLineP FieldLineP ResultFormP TypeExprP FuncDeclP TypeSpecP ValueSpecP ElementP ListedExprP BlockP CaseClauseP CommClauseP ForStmtP IfArmP RangeStmtP StmtLineP SwitchStmtP TypeSwitchStmtP ParamP ParamsP SignatureP) → FineParam (roll-Param (bare_param y))
step_param y more h = carry_ended (put_view_param (bare_param y)) (put_fields_param (bare_param y)) (case_param y more (sym (ap (λ (f : InList). f more) (put_roles_param (bare_param y))) ∙ h))

of_params : («open» : Token) (params : Vec ParamP) (close : Token) → roles_at_params (bare_params (record { «open» = «open»; params = params; close = close })) ≡ true → IsTree (view_at_params (bare_params (record { «open» = «open»; params = params; close = close }))) (fields_at_params (bare_params (record { «open» = «open»; params = params; close = close })))
of_params «open» params close h =
    let hs = and2 (parens «open» close) (in_turn (map roles_of_param (map (λ e. e.0) params.items))) h in
    let ps = and2 (is_kind kinds.OpenParen «open») (is_kind kinds.CloseParen close) hs.0 in
    made (token_is forms.ParamsForm fields.Open kinds.OpenParen «open» (λ before after. refl) ps.0 ⊗ (each_ended is_comma fields.Comma roles_of_param view.view_param fields.fields_of_param params.items hs.1).part forms.ParamsForm (λ after kind. refl) (λ before after kind h. comma_field kind h) ⊗ token_is forms.ParamsForm fields.Close kinds.CloseParen close (λ before after. refl) ps.1)

case_params : (y : Params-F DeclP ExprP StmtP ElementLineP FieldLineP ResultFormP TypeExprP FuncDeclP TypeSpecP ValueSpecP ElementP ListedExprP BlockP CaseClauseP CommClauseP ForStmtP IfArmP RangeStmtP StmtLineP SwitchStmtP TypeSwitchStmtP ParamP ParamsP SignatureP) → roles_at_params (bare_params y) ≡ true → IsTree (view_at_params (bare_params y)) (fields_at_params (bare_params y))
case_params y h = of_params y.«open» y.params y.close h

pub step_params : (y : Params-F DeclP ExprP StmtP ElementLineP FieldLineP ResultFormP TypeExprP FuncDeclP TypeSpecP ValueSpecP ElementP ListedExprP BlockP CaseClauseP CommClauseP ForStmtP IfArmP RangeStmtP StmtLineP SwitchStmtP TypeSwitchStmtP ParamP ParamsP SignatureP) → FineParams (roll-Params (bare_params y))
step_params y h = carry (put_view_params (bare_params y)) (put_fields_params (bare_params y)) (case_params y (sym (put_roles_params (bare_params y)) ∙ h))

of_signature : (params : ParamsP) (result : ResultFormP) → roles_at_signature (bare_signature (record { params = params; result = result })) ≡ true → IsTree (view_at_signature (bare_signature (record { params = params; result = result }))) (fields_at_signature (bare_signature (record { params = params; result = result })))
of_signature params result h =
    let hs = and2 (roles_of_params params.0) (roles_of_result_form result.0) h in
    made (under {form = forms.SignatureForm} (λ after kind. refl) (params.1 hs.0) ⊗ result.1 hs.1 forms.SignatureForm (λ after kind. refl))

case_signature : (y : Signature-F DeclP ExprP StmtP ElementLineP FieldLineP ResultFormP TypeExprP FuncDeclP TypeSpecP ValueSpecP ElementP ListedExprP BlockP CaseClauseP CommClauseP ForStmtP IfArmP RangeStmtP StmtLineP SwitchStmtP TypeSwitchStmtP ParamP ParamsP SignatureP) → roles_at_signature (bare_signature y) ≡ true → IsTree (view_at_signature (bare_signature y)) (fields_at_signature (bare_signature y))
case_signature y h = of_signature y.params y.result h

pub step_signature : (y : Signature-F DeclP ExprP StmtP ElementLineP FieldLineP ResultFormP TypeExprP FuncDeclP TypeSpecP ValueSpecP ElementP ListedExprP BlockP CaseClauseP CommClauseP ForStmtP IfArmP RangeStmtP StmtLineP SwitchStmtP TypeSwitchStmtP ParamP ParamsP SignatureP) → FineSignature (roll-Signature (bare_signature y))
step_signature y h = carry (put_view_signature (bare_signature y)) (put_fields_signature (bare_signature y)) (case_signature y (sym (put_roles_signature (bare_signature y)) ∙ h))
