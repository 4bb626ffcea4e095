-- The fields of declarations are told, where those of what is below are.
use Rattle.std.proofs.Common.{◌≡◌, refl, sym, ap, ◌∙◌, map, Option, Some, None}
use Rattle.std.specs.Prelude.{Bool, true}
use Rattle.std.specs.Global.{Box, Vec}
use Rattle.go_ast.specs.declared.token.Token.{Token}
use Rattle.go_ast.specs.declared.token.Kind.TheVariants as kinds
use Rattle.go_syntax.specs.declared.type_exprs.ListedName.{ListedName}
use Rattle.go_syntax.specs.declared.decls.Decl.TheOpen as layers
use Rattle.go_syntax.specs.declared.decls.Decl.TheOpen.{Decl-F, Expr-F, Stmt-F, ElementLine-F, FieldLine-F}
use Rattle.go_syntax.specs.declared.decls.Decl.TheOpen.{ResultForm-F, TypeExpr-F, FuncDecl-F, TypeSpec-F, ValueSpec-F}
use Rattle.go_syntax.specs.declared.decls.Decl.TheOpen.{Element-F, ListedExpr-F, Block-F, CaseClause-F, CommClause-F}
use Rattle.go_syntax.specs.declared.decls.Decl.TheOpen.{ForStmt-F, IfArm-F, RangeStmt-F, StmtLine-F, SwitchStmt-F}
use Rattle.go_syntax.specs.declared.decls.Decl.TheOpen.{TypeSwitchStmt-F, Param-F, Params-F, Signature-F}
use Rattle.go_syntax.specs.declared.decls.Decl.TheViews.{roll-Decl}
use Rattle.go_syntax.specs.declared.decls.Decl.TheViews.{roll-FuncDecl, roll-TypeSpec, roll-ValueSpec}
use Rattle.go_grammar.specs.Forests as forms
use Rattle.go_grammar.specs.Forests.{Form, Forest}
use Rattle.go_grammar.specs.Grammar.{is_semicolon}
use Rattle.go_grammar.specs.View as view
use Rattle.tree_roles.specs.Tokens.{is_kind, is_if, in_turn}
use Rattle.tree_roles.specs.Tokens.{ends, are_names}
use Rattle.tree_roles.specs.Tokens.{InList}
use Rattle.tree_roles.specs.Roles.{roles_of_type_expr}
use Rattle.tree_roles.specs.Roles.{roles_of_type_spec, roles_of_value_spec, roles_of_listed_expr}
use Rattle.tree_roles.specs.Roles.{roles_of_block}
use Rattle.tree_roles.specs.Roles.{roles_of_params, roles_of_signature}
use Rattle.tree_laws.specs.Fields as fields
use Rattle.tree_laws.specs.Fields.{Field, Marked}
use Rattle.tree_laws.proofs.Pieces.{IsTree, Ended, and4, and5}
use Rattle.tree_laws.proofs.Pieces.{nothing, under, token_is, maybe_is, ◌⊗◌, made}
use Rattle.tree_laws.proofs.Pieces.{carry, ended, carry_ended, each_ended, each_listed}
use Rattle.tree_laws.proofs.Pieces.{names}
use Rattle.tree_laws.proofs.TokenKinds.{semicolon_field}
use Rattle.tree_laws.proofs.Layers.{DeclP, ExprP, StmtP, ElementLineP, FieldLineP, ResultFormP, TypeExprP, FuncDeclP}
use Rattle.tree_laws.proofs.Layers.{TypeSpecP, ValueSpecP, ElementP, ListedExprP, BlockP, CaseClauseP, CommClauseP}
use Rattle.tree_laws.proofs.Layers.{ForStmtP, IfArmP, RangeStmtP, StmtLineP, SwitchStmtP, TypeSwitchStmtP, ParamP}
use Rattle.tree_laws.proofs.Layers.{ParamsP, SignatureP, FineDecl}
use Rattle.tree_laws.proofs.Layers.{FineFuncDecl, FineTypeSpec, FineValueSpec}
use Rattle.tree_laws.proofs.Layers.{view_at_decl}
use Rattle.tree_laws.proofs.Layers.{view_at_func_decl, view_at_type_spec}
use Rattle.tree_laws.proofs.Layers.{view_at_value_spec}
use Rattle.tree_laws.proofs.Layers.{fields_at_decl}
use Rattle.tree_laws.proofs.Layers.{fields_at_func_decl, fields_at_type_spec, fields_at_value_spec}
use Rattle.tree_laws.proofs.Layers.{roles_at_decl}
use Rattle.tree_laws.proofs.Layers.{roles_at_func_decl, roles_at_type_spec}
use Rattle.tree_laws.proofs.Layers.{roles_at_value_spec}
use Rattle.tree_laws.proofs.Layers.{bare_decl}
use Rattle.tree_laws.proofs.Layers.{bare_func_decl, bare_type_spec, bare_value_spec}
use Rattle.tree_laws.proofs.Layers.{put_view_decl}
use Rattle.tree_laws.proofs.Layers.{put_view_func_decl, put_view_type_spec}
use Rattle.tree_laws.proofs.Layers.{put_view_value_spec}
use Rattle.tree_laws.proofs.Layers.{put_fields_decl}
use Rattle.tree_laws.proofs.Layers.{put_fields_func_decl, put_fields_type_spec, put_fields_value_spec}
use Rattle.tree_laws.proofs.Layers.{put_roles_decl}
use Rattle.tree_laws.proofs.Layers.{put_roles_func_decl}
use Rattle.tree_laws.proofs.Layers.{put_roles_type_spec, put_roles_value_spec}

case_decl : (y : Decl-F DeclP ExprP StmtP ElementLineP FieldLineP ResultFormP TypeExprP FuncDeclP TypeSpecP ValueSpecP ElementP ListedExprP BlockP CaseClauseP CommClauseP ForStmtP IfArmP RangeStmtP StmtLineP SwitchStmtP TypeSwitchStmtP ParamP ParamsP SignatureP) → roles_at_decl (bare_decl y) ≡ true → IsTree (view_at_decl (bare_decl y)) (fields_at_decl (bare_decl y))
case_decl (layers.Decl-F.Const word «open» specs close) h =
    let hs = and4 (is_kind kinds.ConstWord word) (is_if kinds.OpenParen «open») (in_turn (map roles_of_value_spec (map (λ e. e.0) specs.items))) (is_if kinds.CloseParen close) h in
    made (token_is forms.ConstForm fields.Word kinds.ConstWord word (λ before after. refl) hs.0 ⊗ maybe_is forms.ConstForm fields.Open kinds.OpenParen «open» (λ after kind. refl) (λ before after. refl) hs.1 ⊗ (each_ended is_semicolon fields.Semicolon roles_of_value_spec view.view_value_spec fields.fields_of_value_spec specs.items hs.2).part forms.ConstForm (λ after kind. refl) (λ before after kind h. semicolon_field kind h) ⊗ maybe_is forms.ConstForm fields.Close kinds.CloseParen close (λ after kind. refl) (λ before after. refl) hs.3)
case_decl (layers.Decl-F.TypeDecl word «open» specs close) h =
    let hs = and4 (is_kind kinds.TypeWord word) (is_if kinds.OpenParen «open») (in_turn (map roles_of_type_spec (map (λ e. e.0) specs.items))) (is_if kinds.CloseParen close) h in
    made (token_is forms.TypeDeclForm fields.Word kinds.TypeWord word (λ before after. refl) hs.0 ⊗ maybe_is forms.TypeDeclForm fields.Open kinds.OpenParen «open» (λ after kind. refl) (λ before after. refl) hs.1 ⊗ (each_ended is_semicolon fields.Semicolon roles_of_type_spec view.view_type_spec fields.fields_of_type_spec specs.items hs.2).part forms.TypeDeclForm (λ after kind. refl) (λ before after kind h. semicolon_field kind h) ⊗ maybe_is forms.TypeDeclForm fields.Close kinds.CloseParen close (λ after kind. refl) (λ before after. refl) hs.3)
case_decl (layers.Decl-F.Var word «open» specs close) h =
    let hs = and4 (is_kind kinds.VarWord word) (is_if kinds.OpenParen «open») (in_turn (map roles_of_value_spec (map (λ e. e.0) specs.items))) (is_if kinds.CloseParen close) h in
    made (token_is forms.VarForm fields.Word kinds.VarWord word (λ before after. refl) hs.0 ⊗ maybe_is forms.VarForm fields.Open kinds.OpenParen «open» (λ after kind. refl) (λ before after. refl) hs.1 ⊗ (each_ended is_semicolon fields.Semicolon roles_of_value_spec view.view_value_spec fields.fields_of_value_spec specs.items hs.2).part forms.VarForm (λ after kind. refl) (λ before after kind h. semicolon_field kind h) ⊗ maybe_is forms.VarForm fields.Close kinds.CloseParen close (λ after kind. refl) (λ before after. refl) hs.3)
case_decl (layers.Decl-F.Func decl) h =
    decl.value.1 h

pub step_decl : (y : Decl-F DeclP ExprP StmtP ElementLineP FieldLineP ResultFormP TypeExprP FuncDeclP TypeSpecP ValueSpecP ElementP ListedExprP BlockP CaseClauseP CommClauseP ForStmtP IfArmP RangeStmtP StmtLineP SwitchStmtP TypeSwitchStmtP ParamP ParamsP SignatureP) → FineDecl (roll-Decl (bare_decl y))
step_decl y h = carry (put_view_decl (bare_decl y)) (put_fields_decl (bare_decl y)) (case_decl y (sym (put_roles_decl (bare_decl y)) ∙ h))

of_func_decl : (word : Token) (receiver : Option ParamsP) (name : Token) (signature : SignatureP) (body : Option BlockP) → roles_at_func_decl (bare_func_decl (record { word = word; receiver = receiver; name = name; signature = signature; body = body })) ≡ true → IsTree (view_at_func_decl (bare_func_decl (record { word = word; receiver = receiver; name = name; signature = signature; body = body }))) (fields_at_func_decl (bare_func_decl (record { word = word; receiver = receiver; name = name; signature = signature; body = body })))
of_func_decl word None name signature None h =
    let hs = and5 (is_kind kinds.FuncWord word) (true) (is_kind kinds.Name name) (roles_of_signature signature.0) (true) h in
    made (token_is forms.FuncForm fields.Word kinds.FuncWord word (λ before after. refl) hs.0 ⊗ nothing {form = forms.FuncForm} (λ after kind. refl) ⊗ token_is forms.FuncForm fields.Name kinds.Name name (λ before after. refl) hs.2 ⊗ under {form = forms.FuncForm} (λ after kind. refl) (signature.1 hs.3) ⊗ nothing {form = forms.FuncForm} (λ after kind. refl))
of_func_decl word None name signature (Some body) h =
    let hs = and5 (is_kind kinds.FuncWord word) (true) (is_kind kinds.Name name) (roles_of_signature signature.0) (roles_of_block body.0) h in
    made (token_is forms.FuncForm fields.Word kinds.FuncWord word (λ before after. refl) hs.0 ⊗ nothing {form = forms.FuncForm} (λ after kind. refl) ⊗ token_is forms.FuncForm fields.Name kinds.Name name (λ before after. refl) hs.2 ⊗ under {form = forms.FuncForm} (λ after kind. refl) (signature.1 hs.3) ⊗ under {form = forms.FuncForm} (λ after kind. refl) (body.1 hs.4))
of_func_decl word (Some receiver) name signature None h =
    let hs = and5 (is_kind kinds.FuncWord word) (roles_of_params receiver.0) (is_kind kinds.Name name) (roles_of_signature signature.0) (true) h in
    made (token_is forms.FuncForm fields.Word kinds.FuncWord word (λ before after. refl) hs.0 ⊗ under {form = forms.FuncForm} (λ after kind. refl) (receiver.1 hs.1) ⊗ token_is forms.FuncForm fields.Name kinds.Name name (λ before after. refl) hs.2 ⊗ under {form = forms.FuncForm} (λ after kind. refl) (signature.1 hs.3) ⊗ nothing {form = forms.FuncForm} (λ after kind. refl))
of_func_decl word (Some receiver) name signature (Some body) h =
    let hs = and5 (is_kind kinds.FuncWord word) (roles_of_params receiver.0) (is_kind kinds.Name name) (roles_of_signature signature.0) (roles_of_block body.0) h in
    made (token_is forms.FuncForm fields.Word kinds.FuncWord word (λ before after. refl) hs.0 ⊗ under {form = forms.FuncForm} (λ after kind. refl) (receiver.1 hs.1) ⊗ token_is forms.FuncForm fields.Name kinds.Name name (λ before after. refl) hs.2 ⊗ under {form = forms.FuncForm} (λ after kind. refl) (signature.1 hs.3) ⊗ under {form = forms.FuncForm} (λ after kind. refl) (body.1 hs.4))

case_func_decl : (y : FuncDecl-F DeclP ExprP StmtP ElementLineP FieldLineP ResultFormP TypeExprP FuncDeclP TypeSpecP ValueSpecP ElementP ListedExprP BlockP CaseClauseP CommClauseP ForStmtP IfArmP RangeStmtP StmtLineP SwitchStmtP TypeSwitchStmtP ParamP ParamsP SignatureP) → roles_at_func_decl (bare_func_decl y) ≡ true → IsTree (view_at_func_decl (bare_func_decl y)) (fields_at_func_decl (bare_func_decl y))
case_func_decl y h = of_func_decl y.word y.receiver y.name y.signature y.body h

pub step_func_decl : (y : FuncDecl-F DeclP ExprP StmtP ElementLineP FieldLineP ResultFormP TypeExprP FuncDeclP TypeSpecP ValueSpecP ElementP ListedExprP BlockP CaseClauseP CommClauseP ForStmtP IfArmP RangeStmtP StmtLineP SwitchStmtP TypeSwitchStmtP ParamP ParamsP SignatureP) → FineFuncDecl (roll-FuncDecl (bare_func_decl y))
step_func_decl y h = carry (put_view_func_decl (bare_func_decl y)) (put_fields_func_decl (bare_func_decl y)) (case_func_decl y (sym (put_roles_func_decl (bare_func_decl y)) ∙ h))

of_type_spec : (name : Token) (assign : Option Token) (form : Box TypeExprP) (semicolon : Option Token) → (more : Bool) → roles_at_type_spec (bare_type_spec (record { name = name; assign = assign; form = form; semicolon = semicolon })) more ≡ true → Ended is_semicolon fields.Semicolon (view_at_type_spec (bare_type_spec (record { name = name; assign = assign; form = form; semicolon = semicolon }))) (fields_at_type_spec (bare_type_spec (record { name = name; assign = assign; form = form; semicolon = semicolon })))
of_type_spec name assign form semicolon more h =
    let hs = and4 (is_kind kinds.Name name) (is_if kinds.Assign assign) (roles_of_type_expr form.value.0) (ends is_semicolon semicolon more) h in
    ended is_semicolon fields.Semicolon semicolon more (made (token_is forms.TypeSpecForm fields.Name kinds.Name name (λ before after. refl) hs.0 ⊗ maybe_is forms.TypeSpecForm fields.Assign kinds.Assign assign (λ after kind. refl) (λ before after. refl) hs.1 ⊗ under {form = forms.TypeSpecForm} (λ after kind. refl) (form.value.1 hs.2))) hs.3

case_type_spec : (y : TypeSpec-F DeclP ExprP StmtP ElementLineP FieldLineP ResultFormP TypeExprP FuncDeclP TypeSpecP ValueSpecP ElementP ListedExprP BlockP CaseClauseP CommClauseP ForStmtP IfArmP RangeStmtP StmtLineP SwitchStmtP TypeSwitchStmtP ParamP ParamsP SignatureP) → (more : Bool) → roles_at_type_spec (bare_type_spec y) more ≡ true → Ended is_semicolon fields.Semicolon (view_at_type_spec (bare_type_spec y)) (fields_at_type_spec (bare_type_spec y))
case_type_spec y more h = of_type_spec y.name y.assign y.form y.semicolon more h

pub step_type_spec : (y : TypeSpec-F DeclP ExprP StmtP ElementLineP FieldLineP ResultFormP TypeExprP FuncDeclP TypeSpecP ValueSpecP ElementP ListedExprP BlockP CaseClauseP CommClauseP ForStmtP IfArmP RangeStmtP StmtLineP SwitchStmtP TypeSwitchStmtP ParamP ParamsP SignatureP) → FineTypeSpec (roll-TypeSpec (bare_type_spec y))
step_type_spec y more h = carry_ended (put_view_type_spec (bare_type_spec y)) (put_fields_type_spec (bare_type_spec y)) (case_type_spec y more (sym (ap (λ (f : InList). f more) (put_roles_type_spec (bare_type_spec y))) ∙ h))

of_value_spec : (names_of : Vec ListedName) (form : Option (Box TypeExprP)) (assign : Option Token) (values : Vec ListedExprP) (semicolon : Option Token) → (more : Bool) → roles_at_value_spec (bare_value_spec (record { names = names_of; form = form; assign = assign; values = values; semicolon = semicolon })) more ≡ true → Ended is_semicolon fields.Semicolon (view_at_value_spec (bare_value_spec (record { names = names_of; form = form; assign = assign; values = values; semicolon = semicolon }))) (fields_at_value_spec (bare_value_spec (record { names = names_of; form = form; assign = assign; values = values; semicolon = semicolon })))
of_value_spec names_of None assign values semicolon more h =
    let hs = and5 (are_names names_of.items) (true) (is_if kinds.Assign assign) (in_turn (map roles_of_listed_expr (map (λ e. e.0) values.items))) (ends is_semicolon semicolon more) h in
    ended is_semicolon fields.Semicolon semicolon more (made (names forms.ValueSpecForm (λ after kind. refl) (λ before after. refl) (λ before after. refl) names_of.items hs.0 ⊗ nothing {form = forms.ValueSpecForm} (λ after kind. refl) ⊗ maybe_is forms.ValueSpecForm fields.Assign kinds.Assign assign (λ after kind. refl) (λ before after. refl) hs.2 ⊗ each_listed roles_of_listed_expr view.view_listed_expr fields.fields_of_listed_expr values.items hs.3 forms.ValueSpecForm (λ after kind. refl) (λ before. refl))) hs.4
of_value_spec names_of (Some form) assign values semicolon more h =
    let hs = and5 (are_names names_of.items) (roles_of_type_expr form.value.0) (is_if kinds.Assign assign) (in_turn (map roles_of_listed_expr (map (λ e. e.0) values.items))) (ends is_semicolon semicolon more) h in
    ended is_semicolon fields.Semicolon semicolon more (made (names forms.ValueSpecForm (λ after kind. refl) (λ before after. refl) (λ before after. refl) names_of.items hs.0 ⊗ under {form = forms.ValueSpecForm} (λ after kind. refl) (form.value.1 hs.1) ⊗ maybe_is forms.ValueSpecForm fields.Assign kinds.Assign assign (λ after kind. refl) (λ before after. refl) hs.2 ⊗ each_listed roles_of_listed_expr view.view_listed_expr fields.fields_of_listed_expr values.items hs.3 forms.ValueSpecForm (λ after kind. refl) (λ before. refl))) hs.4

case_value_spec : (y : ValueSpec-F DeclP ExprP StmtP ElementLineP FieldLineP ResultFormP TypeExprP FuncDeclP TypeSpecP ValueSpecP ElementP ListedExprP BlockP CaseClauseP CommClauseP ForStmtP IfArmP RangeStmtP StmtLineP SwitchStmtP TypeSwitchStmtP ParamP ParamsP SignatureP) → (more : Bool) → roles_at_value_spec (bare_value_spec y) more ≡ true → Ended is_semicolon fields.Semicolon (view_at_value_spec (bare_value_spec y)) (fields_at_value_spec (bare_value_spec y))
case_value_spec y more h = of_value_spec y.names y.form y.assign y.values y.semicolon more h

pub step_value_spec : (y : ValueSpec-F DeclP ExprP StmtP ElementLineP FieldLineP ResultFormP TypeExprP FuncDeclP TypeSpecP ValueSpecP ElementP ListedExprP BlockP CaseClauseP CommClauseP ForStmtP IfArmP RangeStmtP StmtLineP SwitchStmtP TypeSwitchStmtP ParamP ParamsP SignatureP) → FineValueSpec (roll-ValueSpec (bare_value_spec y))
step_value_spec y more h = carry_ended (put_view_value_spec (bare_value_spec y)) (put_fields_value_spec (bare_value_spec y)) (case_value_spec y more (sym (ap (λ (f : InList). f more) (put_roles_value_spec (bare_value_spec y))) ∙ h))
