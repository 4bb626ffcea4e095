-- The fields of statements are told, where those of what is below are.
use Rattle.std.proofs.Common.{◌≡◌, refl, sym, ap, ◌∙◌, map, Option, Some, None}
use Rattle.std.specs.Prelude.{Bool, true}
use Rattle.std.specs.Global.{Box, Vec}
use Rattle.go_ast.specs.declared.token.Token.{Token}
use Rattle.go_ast.specs.declared.token.Kind.TheVariants as kinds
use Rattle.go_syntax.specs.declared.stmts.Binding.{Binding}
use Rattle.go_syntax.specs.declared.decls.Decl.TheOpen as layers
use Rattle.go_syntax.specs.declared.decls.Decl.TheOpen.{Decl-F, Expr-F, Stmt-F, ElementLine-F, FieldLine-F}
use Rattle.go_syntax.specs.declared.decls.Decl.TheOpen.{ResultForm-F, TypeExpr-F, FuncDecl-F, TypeSpec-F, ValueSpec-F}
use Rattle.go_syntax.specs.declared.decls.Decl.TheOpen.{Element-F, ListedExpr-F, Block-F, CaseClause-F, CommClause-F}
use Rattle.go_syntax.specs.declared.decls.Decl.TheOpen.{ForStmt-F, IfArm-F, RangeStmt-F, StmtLine-F, SwitchStmt-F}
use Rattle.go_syntax.specs.declared.decls.Decl.TheOpen.{TypeSwitchStmt-F, Param-F, Params-F, Signature-F}
use Rattle.go_syntax.specs.declared.decls.Decl.TheViews.{roll-Stmt}
use Rattle.go_syntax.specs.declared.decls.Decl.TheViews.{roll-Block, roll-CaseClause}
use Rattle.go_syntax.specs.declared.decls.Decl.TheViews.{roll-CommClause, roll-ForStmt, roll-IfArm, roll-RangeStmt}
use Rattle.go_syntax.specs.declared.decls.Decl.TheViews.{roll-StmtLine, roll-SwitchStmt, roll-TypeSwitchStmt}
use Rattle.go_grammar.specs.Forests as forms
use Rattle.go_grammar.specs.Forests.{Form, Forest}
use Rattle.go_grammar.specs.Grammar.{is_assign, is_semicolon, is_step}
use Rattle.go_grammar.specs.View as view
use Rattle.tree_roles.specs.Tokens.{is_kind, is_if, passes_if, parens, braces, in_turn}
use Rattle.tree_roles.specs.Tokens.{every, ends, are_labels, is_binding_if, is_guard}
use Rattle.tree_roles.specs.Tokens.{is_range_operator, begins_clause}
use Rattle.tree_roles.specs.Tokens.{InList}
use Rattle.tree_roles.specs.Roles.{roles_of_expr, roles_of_stmt}
use Rattle.tree_roles.specs.Roles.{roles_of_listed_expr}
use Rattle.tree_roles.specs.Roles.{roles_of_block, roles_of_case_clause, roles_of_comm_clause}
use Rattle.tree_roles.specs.Roles.{roles_of_if_arm, roles_of_stmt_line}
use Rattle.tree_laws.specs.Fields as fields
use Rattle.tree_laws.specs.Fields.{Field, Marked}
use Rattle.tree_laws.proofs.Pieces.{IsTree, and2, and3, and4, and6, and7, and8}
use Rattle.tree_laws.proofs.Pieces.{nothing, under, token, token_is, token_of, maybe_is, maybe_of, ◌⊗◌, made}
use Rattle.tree_laws.proofs.Pieces.{carry, each_listed}
use Rattle.tree_laws.proofs.Pieces.{each_tree, each_in_turn, labels}
use Rattle.tree_laws.proofs.Pieces.{binding}
use Rattle.tree_laws.proofs.TokenKinds.{clause_field, range_field, semicolon_field, guard_field, assign_field}
use Rattle.tree_laws.proofs.TokenKinds.{line_end}
use Rattle.tree_laws.proofs.Layers.{DeclP, ExprP, StmtP, ElementLineP, FieldLineP, ResultFormP, TypeExprP, FuncDeclP}
use Rattle.tree_laws.proofs.Layers.{TypeSpecP, ValueSpecP, ElementP, ListedExprP, BlockP, CaseClauseP, CommClauseP}
use Rattle.tree_laws.proofs.Layers.{ForStmtP, IfArmP, RangeStmtP, StmtLineP, SwitchStmtP, TypeSwitchStmtP, ParamP}
use Rattle.tree_laws.proofs.Layers.{ParamsP, SignatureP, FineStmt}
use Rattle.tree_laws.proofs.Layers.{FineBlock, FineCaseClause, FineCommClause}
use Rattle.tree_laws.proofs.Layers.{FineForStmt, FineIfArm, FineRangeStmt, FineStmtLine, FineSwitchStmt}
use Rattle.tree_laws.proofs.Layers.{FineTypeSwitchStmt}
use Rattle.tree_laws.proofs.Layers.{view_at_stmt}
use Rattle.tree_laws.proofs.Layers.{view_at_block}
use Rattle.tree_laws.proofs.Layers.{view_at_case_clause, view_at_comm_clause, view_at_for_stmt, view_at_if_arm}
use Rattle.tree_laws.proofs.Layers.{view_at_range_stmt, view_at_stmt_line, view_at_switch_stmt}
use Rattle.tree_laws.proofs.Layers.{view_at_type_switch_stmt}
use Rattle.tree_laws.proofs.Layers.{fields_at_stmt}
use Rattle.tree_laws.proofs.Layers.{fields_at_block, fields_at_case_clause}
use Rattle.tree_laws.proofs.Layers.{fields_at_comm_clause, fields_at_for_stmt, fields_at_if_arm, fields_at_range_stmt}
use Rattle.tree_laws.proofs.Layers.{fields_at_stmt_line, fields_at_switch_stmt, fields_at_type_switch_stmt}
use Rattle.tree_laws.proofs.Layers.{roles_at_stmt}
use Rattle.tree_laws.proofs.Layers.{roles_at_block}
use Rattle.tree_laws.proofs.Layers.{roles_at_case_clause, roles_at_comm_clause, roles_at_for_stmt, roles_at_if_arm}
use Rattle.tree_laws.proofs.Layers.{roles_at_range_stmt, roles_at_stmt_line, roles_at_switch_stmt}
use Rattle.tree_laws.proofs.Layers.{roles_at_type_switch_stmt}
use Rattle.tree_laws.proofs.Layers.{bare_stmt}
use Rattle.tree_laws.proofs.Layers.{bare_block, bare_case_clause, bare_comm_clause}
use Rattle.tree_laws.proofs.Layers.{bare_for_stmt, bare_if_arm, bare_range_stmt, bare_stmt_line, bare_switch_stmt}
use Rattle.tree_laws.proofs.Layers.{bare_type_switch_stmt}
use Rattle.tree_laws.proofs.Layers.{put_view_stmt}
use Rattle.tree_laws.proofs.Layers.{put_view_block}
use Rattle.tree_laws.proofs.Layers.{put_view_case_clause, put_view_comm_clause, put_view_for_stmt, put_view_if_arm}
use Rattle.tree_laws.proofs.Layers.{put_view_range_stmt, put_view_stmt_line, put_view_switch_stmt}
use Rattle.tree_laws.proofs.Layers.{put_view_type_switch_stmt}
use Rattle.tree_laws.proofs.Layers.{put_fields_stmt}
use Rattle.tree_laws.proofs.Layers.{put_fields_block}
use Rattle.tree_laws.proofs.Layers.{put_fields_case_clause, put_fields_comm_clause, put_fields_for_stmt}
use Rattle.tree_laws.proofs.Layers.{put_fields_if_arm, put_fields_range_stmt, put_fields_stmt_line}
use Rattle.tree_laws.proofs.Layers.{put_fields_switch_stmt, put_fields_type_switch_stmt}
use Rattle.tree_laws.proofs.Layers.{put_roles_stmt}
use Rattle.tree_laws.proofs.Layers.{put_roles_block, put_roles_case_clause}
use Rattle.tree_laws.proofs.Layers.{put_roles_comm_clause, put_roles_for_stmt, put_roles_if_arm, put_roles_range_stmt}
use Rattle.tree_laws.proofs.Layers.{put_roles_stmt_line, put_roles_switch_stmt, put_roles_type_switch_stmt}

case_stmt : (y : Stmt-F DeclP ExprP StmtP ElementLineP FieldLineP ResultFormP TypeExprP FuncDeclP TypeSpecP ValueSpecP ElementP ListedExprP BlockP CaseClauseP CommClauseP ForStmtP IfArmP RangeStmtP StmtLineP SwitchStmtP TypeSwitchStmtP ParamP ParamsP SignatureP) → roles_at_stmt (bare_stmt y) ≡ true → IsTree (view_at_stmt (bare_stmt y)) (fields_at_stmt (bare_stmt y))
case_stmt (layers.Stmt-F.Decl decl) h =
    decl.value.1 h
case_stmt (layers.Stmt-F.Labeled labels_of None) h =
    let hs = and2 (are_labels labels_of.items) (true) h in
    made (labels labels_of.items hs.0 ⊗ nothing {form = forms.LabeledForm} (λ after kind. refl))
case_stmt (layers.Stmt-F.Labeled labels_of (Some stmt)) h =
    let hs = and2 (are_labels labels_of.items) (roles_of_stmt stmt.value.0) h in
    made (labels labels_of.items hs.0 ⊗ under {form = forms.LabeledForm} (λ after kind. refl) (stmt.value.1 hs.1))
case_stmt (layers.Stmt-F.Expr expr) h =
    made (under {form = forms.ExprForm} (λ after kind. refl) (expr.value.1 h))
case_stmt (layers.Stmt-F.Send channel arrow value) h =
    let hs = and3 (roles_of_expr channel.value.0) (is_kind kinds.Arrow arrow) (roles_of_expr value.value.0) h in
    made (under {form = forms.SendForm} (λ after kind. refl) (channel.value.1 hs.0) ⊗ token_is forms.SendForm fields.Arrow kinds.Arrow arrow (λ before after. refl) hs.1 ⊗ under {form = forms.SendForm} (λ after kind. refl) (value.value.1 hs.2))
case_stmt (layers.Stmt-F.Step operand operator) h =
    let hs = and2 (roles_of_expr operand.value.0) (is_step operator.kind) h in
    made (under {form = forms.StepForm} (λ after kind. refl) (operand.value.1 hs.0) ⊗ token forms.StepForm fields.Operator operator (λ before after. refl))
case_stmt (layers.Stmt-F.Assign targets operator values) h =
    let hs = and3 (in_turn (map roles_of_listed_expr (map (λ e. e.0) targets.items))) (is_assign operator.kind) (in_turn (map roles_of_listed_expr (map (λ e. e.0) values.items))) h in
    made (each_listed roles_of_listed_expr view.view_listed_expr fields.fields_of_listed_expr targets.items hs.0 forms.AssignForm (λ after kind. refl) (λ before. refl) ⊗ token_of forms.AssignForm fields.Operator is_assign operator (λ before after kind h. assign_field kind h) hs.1 ⊗ each_listed roles_of_listed_expr view.view_listed_expr fields.fields_of_listed_expr values.items hs.2 forms.AssignForm (λ after kind. refl) (λ before. refl))
case_stmt (layers.Stmt-F.Define targets operator values) h =
    let hs = and3 (in_turn (map roles_of_listed_expr (map (λ e. e.0) targets.items))) (is_kind kinds.Define operator) (in_turn (map roles_of_listed_expr (map (λ e. e.0) values.items))) h in
    made (each_listed roles_of_listed_expr view.view_listed_expr fields.fields_of_listed_expr targets.items hs.0 forms.DefineForm (λ after kind. refl) (λ before. refl) ⊗ token_is forms.DefineForm fields.Operator kinds.Define operator (λ before after. refl) hs.1 ⊗ each_listed roles_of_listed_expr view.view_listed_expr fields.fields_of_listed_expr values.items hs.2 forms.DefineForm (λ after kind. refl) (λ before. refl))
case_stmt (layers.Stmt-F.Go word call) h =
    let hs = and2 (is_kind kinds.GoWord word) (roles_of_expr call.value.0) h in
    made (token_is forms.GoForm fields.Word kinds.GoWord word (λ before after. refl) hs.0 ⊗ under {form = forms.GoForm} (λ after kind. refl) (call.value.1 hs.1))
case_stmt (layers.Stmt-F.Defer word call) h =
    let hs = and2 (is_kind kinds.DeferWord word) (roles_of_expr call.value.0) h in
    made (token_is forms.DeferForm fields.Word kinds.DeferWord word (λ before after. refl) hs.0 ⊗ under {form = forms.DeferForm} (λ after kind. refl) (call.value.1 hs.1))
case_stmt (layers.Stmt-F.Return word results) h =
    let hs = and2 (is_kind kinds.ReturnWord word) (in_turn (map roles_of_listed_expr (map (λ e. e.0) results.items))) h in
    made (token_is forms.ReturnForm fields.Word kinds.ReturnWord word (λ before after. refl) hs.0 ⊗ each_listed roles_of_listed_expr view.view_listed_expr fields.fields_of_listed_expr results.items hs.1 forms.ReturnForm (λ after kind. refl) (λ before. refl))
case_stmt (layers.Stmt-F.Break word label) h =
    let hs = and2 (is_kind kinds.BreakWord word) (is_if kinds.Name label) h in
    made (token_is forms.BreakForm fields.Word kinds.BreakWord word (λ before after. refl) hs.0 ⊗ maybe_is forms.BreakForm fields.Target kinds.Name label (λ after kind. refl) (λ before after. refl) hs.1)
case_stmt (layers.Stmt-F.Continue word label) h =
    let hs = and2 (is_kind kinds.ContinueWord word) (is_if kinds.Name label) h in
    made (token_is forms.ContinueForm fields.Word kinds.ContinueWord word (λ before after. refl) hs.0 ⊗ maybe_is forms.ContinueForm fields.Target kinds.Name label (λ after kind. refl) (λ before after. refl) hs.1)
case_stmt (layers.Stmt-F.Fallthrough token) h =
    made (token_is forms.FallthroughForm fields.Only kinds.FallthroughWord token (λ before after. refl) h)
case_stmt (layers.Stmt-F.Block block) h =
    block.1 h
case_stmt (layers.Stmt-F.If arms else_word None) h =
    let hs = and3 (every (map roles_of_if_arm (map (λ e. e.0) arms.items))) (is_if kinds.ElseWord else_word) (true) h in
    made (each_tree roles_of_if_arm view.view_if_arm fields.fields_of_if_arm arms.items hs.0 forms.IfForm (λ after kind. refl) ⊗ maybe_is forms.IfForm fields.ElseWord kinds.ElseWord else_word (λ after kind. refl) (λ before after. refl) hs.1 ⊗ nothing {form = forms.IfForm} (λ after kind. refl))
case_stmt (layers.Stmt-F.If arms else_word (Some otherwise)) h =
    let hs = and3 (every (map roles_of_if_arm (map (λ e. e.0) arms.items))) (is_if kinds.ElseWord else_word) (roles_of_block otherwise.value.0) h in
    made (each_tree roles_of_if_arm view.view_if_arm fields.fields_of_if_arm arms.items hs.0 forms.IfForm (λ after kind. refl) ⊗ maybe_is forms.IfForm fields.ElseWord kinds.ElseWord else_word (λ after kind. refl) (λ before after. refl) hs.1 ⊗ under {form = forms.IfForm} (λ after kind. refl) (otherwise.value.1 hs.2))
case_stmt (layers.Stmt-F.Switch stmt) h =
    stmt.value.1 h
case_stmt (layers.Stmt-F.TypeSwitch stmt) h =
    stmt.value.1 h
case_stmt (layers.Stmt-F.Select word «open» clauses close) h =
    let hs = and3 (is_kind kinds.SelectWord word) (braces «open» close) (every (map roles_of_comm_clause (map (λ e. e.0) clauses.items))) h in
    let ps = and2 (is_kind kinds.OpenBrace «open») (is_kind kinds.CloseBrace close) hs.1 in
    made (token_is forms.SelectForm fields.Word kinds.SelectWord word (λ before after. refl) hs.0 ⊗ token_is forms.SelectForm fields.Open kinds.OpenBrace «open» (λ before after. refl) ps.0 ⊗ each_tree roles_of_comm_clause view.view_comm_clause fields.fields_of_comm_clause clauses.items hs.2 forms.SelectForm (λ after kind. refl) ⊗ token_is forms.SelectForm fields.Close kinds.CloseBrace close (λ before after. refl) ps.1)
case_stmt (layers.Stmt-F.While word None body) h =
    let hs = and3 (is_kind kinds.ForWord word) (true) (roles_of_block body.value.0) h in
    made (token_is forms.WhileForm fields.Word kinds.ForWord word (λ before after. refl) hs.0 ⊗ nothing {form = forms.WhileForm} (λ after kind. refl) ⊗ under {form = forms.WhileForm} (λ after kind. refl) (body.value.1 hs.2))
case_stmt (layers.Stmt-F.While word (Some condition) body) h =
    let hs = and3 (is_kind kinds.ForWord word) (roles_of_expr condition.value.0) (roles_of_block body.value.0) h in
    made (token_is forms.WhileForm fields.Word kinds.ForWord word (λ before after. refl) hs.0 ⊗ under {form = forms.WhileForm} (λ after kind. refl) (condition.value.1 hs.1) ⊗ under {form = forms.WhileForm} (λ after kind. refl) (body.value.1 hs.2))
case_stmt (layers.Stmt-F.For stmt) h =
    stmt.value.1 h
case_stmt (layers.Stmt-F.Range stmt) h =
    stmt.value.1 h

pub step_stmt : (y : Stmt-F DeclP ExprP StmtP ElementLineP FieldLineP ResultFormP TypeExprP FuncDeclP TypeSpecP ValueSpecP ElementP ListedExprP BlockP CaseClauseP CommClauseP ForStmtP IfArmP RangeStmtP StmtLineP SwitchStmtP TypeSwitchStmtP ParamP ParamsP SignatureP) → FineStmt (roll-Stmt (bare_stmt y))
step_stmt y h = carry (put_view_stmt (bare_stmt y)) (put_fields_stmt (bare_stmt y)) (case_stmt y (sym (put_roles_stmt (bare_stmt y)) ∙ h))

of_block : («open» : Token) (statements : Vec StmtLineP) (close : Token) → roles_at_block (bare_block (record { «open» = «open»; statements = statements; close = close })) ≡ true → IsTree (view_at_block (bare_block (record { «open» = «open»; statements = statements; close = close }))) (fields_at_block (bare_block (record { «open» = «open»; statements = statements; close = close })))
of_block «open» statements close h =
    let hs = and2 (braces «open» close) (in_turn (map roles_of_stmt_line (map (λ e. e.0) statements.items))) h in
    let ps = and2 (is_kind kinds.OpenBrace «open») (is_kind kinds.CloseBrace close) hs.0 in
    made (token_is forms.BlockForm fields.Open kinds.OpenBrace «open» (λ before after. refl) ps.0 ⊗ each_in_turn roles_of_stmt_line view.view_stmt_line fields.fields_of_stmt_line statements.items hs.1 forms.BlockForm (λ after kind. refl) ⊗ token_is forms.BlockForm fields.Close kinds.CloseBrace close (λ before after. refl) ps.1)

case_block : (y : Block-F DeclP ExprP StmtP ElementLineP FieldLineP ResultFormP TypeExprP FuncDeclP TypeSpecP ValueSpecP ElementP ListedExprP BlockP CaseClauseP CommClauseP ForStmtP IfArmP RangeStmtP StmtLineP SwitchStmtP TypeSwitchStmtP ParamP ParamsP SignatureP) → roles_at_block (bare_block y) ≡ true → IsTree (view_at_block (bare_block y)) (fields_at_block (bare_block y))
case_block y h = of_block y.«open» y.statements y.close h

pub step_block : (y : Block-F DeclP ExprP StmtP ElementLineP FieldLineP ResultFormP TypeExprP FuncDeclP TypeSpecP ValueSpecP ElementP ListedExprP BlockP CaseClauseP CommClauseP ForStmtP IfArmP RangeStmtP StmtLineP SwitchStmtP TypeSwitchStmtP ParamP ParamsP SignatureP) → FineBlock (roll-Block (bare_block y))
step_block y h = carry (put_view_block (bare_block y)) (put_fields_block (bare_block y)) (case_block y (sym (put_roles_block (bare_block y)) ∙ h))

of_stmt_line : (stmt : Option (Box StmtP)) (semicolon : Option Token) → (more : Bool) → roles_at_stmt_line (bare_stmt_line (record { stmt = stmt; semicolon = semicolon })) more ≡ true → IsTree (view_at_stmt_line (bare_stmt_line (record { stmt = stmt; semicolon = semicolon }))) (fields_at_stmt_line (bare_stmt_line (record { stmt = stmt; semicolon = semicolon })))
of_stmt_line None semicolon more h =
    let hs = and2 (true) (ends is_semicolon semicolon more) h in
    made (nothing {form = forms.LineForm} (λ after kind. refl) ⊗ line_end forms.LineForm (λ after kind. refl) (λ before after kind h. semicolon_field kind h) semicolon more hs.1)
of_stmt_line (Some stmt) semicolon more h =
    let hs = and2 (roles_of_stmt stmt.value.0) (ends is_semicolon semicolon more) h in
    made (under {form = forms.LineForm} (λ after kind. refl) (stmt.value.1 hs.0) ⊗ line_end forms.LineForm (λ after kind. refl) (λ before after kind h. semicolon_field kind h) semicolon more hs.1)

case_stmt_line : (y : StmtLine-F DeclP ExprP StmtP ElementLineP FieldLineP ResultFormP TypeExprP FuncDeclP TypeSpecP ValueSpecP ElementP ListedExprP BlockP CaseClauseP CommClauseP ForStmtP IfArmP RangeStmtP StmtLineP SwitchStmtP TypeSwitchStmtP ParamP ParamsP SignatureP) → (more : Bool) → roles_at_stmt_line (bare_stmt_line y) more ≡ true → IsTree (view_at_stmt_line (bare_stmt_line y)) (fields_at_stmt_line (bare_stmt_line y))
case_stmt_line y more h = of_stmt_line y.stmt y.semicolon more h

pub step_stmt_line : (y : StmtLine-F DeclP ExprP StmtP ElementLineP FieldLineP ResultFormP TypeExprP FuncDeclP TypeSpecP ValueSpecP ElementP ListedExprP BlockP CaseClauseP CommClauseP ForStmtP IfArmP RangeStmtP StmtLineP SwitchStmtP TypeSwitchStmtP ParamP ParamsP SignatureP) → FineStmtLine (roll-StmtLine (bare_stmt_line y))
step_stmt_line y more h = carry (put_view_stmt_line (bare_stmt_line y)) (put_fields_stmt_line (bare_stmt_line y)) (case_stmt_line y more (sym (ap (λ (f : InList). f more) (put_roles_stmt_line (bare_stmt_line y))) ∙ h))

of_case_clause : (word : Token) (items : Vec ListedExprP) (colon : Token) (statements : Vec StmtLineP) → roles_at_case_clause (bare_case_clause (record { word = word; items = items; colon = colon; statements = statements })) ≡ true → IsTree (view_at_case_clause (bare_case_clause (record { word = word; items = items; colon = colon; statements = statements }))) (fields_at_case_clause (bare_case_clause (record { word = word; items = items; colon = colon; statements = statements })))
of_case_clause word items colon statements h =
    let hs = and4 (begins_clause word.kind) (in_turn (map roles_of_listed_expr (map (λ e. e.0) items.items))) (is_kind kinds.Colon colon) (in_turn (map roles_of_stmt_line (map (λ e. e.0) statements.items))) h in
    made (token_of forms.CaseClauseForm fields.Word begins_clause word (λ before after kind h. clause_field kind h) hs.0 ⊗ each_listed roles_of_listed_expr view.view_listed_expr fields.fields_of_listed_expr items.items hs.1 forms.CaseClauseForm (λ after kind. refl) (λ before. refl) ⊗ token_is forms.CaseClauseForm fields.Colon kinds.Colon colon (λ before after. refl) hs.2 ⊗ each_in_turn roles_of_stmt_line view.view_stmt_line fields.fields_of_stmt_line statements.items hs.3 forms.CaseClauseForm (λ after kind. refl))

case_case_clause : (y : CaseClause-F DeclP ExprP StmtP ElementLineP FieldLineP ResultFormP TypeExprP FuncDeclP TypeSpecP ValueSpecP ElementP ListedExprP BlockP CaseClauseP CommClauseP ForStmtP IfArmP RangeStmtP StmtLineP SwitchStmtP TypeSwitchStmtP ParamP ParamsP SignatureP) → roles_at_case_clause (bare_case_clause y) ≡ true → IsTree (view_at_case_clause (bare_case_clause y)) (fields_at_case_clause (bare_case_clause y))
case_case_clause y h = of_case_clause y.word y.items y.colon y.statements h

pub step_case_clause : (y : CaseClause-F DeclP ExprP StmtP ElementLineP FieldLineP ResultFormP TypeExprP FuncDeclP TypeSpecP ValueSpecP ElementP ListedExprP BlockP CaseClauseP CommClauseP ForStmtP IfArmP RangeStmtP StmtLineP SwitchStmtP TypeSwitchStmtP ParamP ParamsP SignatureP) → FineCaseClause (roll-CaseClause (bare_case_clause y))
step_case_clause y h = carry (put_view_case_clause (bare_case_clause y)) (put_fields_case_clause (bare_case_clause y)) (case_case_clause y (sym (put_roles_case_clause (bare_case_clause y)) ∙ h))

of_comm_clause : (word : Token) (comm : Option (Box StmtP)) (colon : Token) (statements : Vec StmtLineP) → roles_at_comm_clause (bare_comm_clause (record { word = word; comm = comm; colon = colon; statements = statements })) ≡ true → IsTree (view_at_comm_clause (bare_comm_clause (record { word = word; comm = comm; colon = colon; statements = statements }))) (fields_at_comm_clause (bare_comm_clause (record { word = word; comm = comm; colon = colon; statements = statements })))
of_comm_clause word None colon statements h =
    let hs = and4 (begins_clause word.kind) (true) (is_kind kinds.Colon colon) (in_turn (map roles_of_stmt_line (map (λ e. e.0) statements.items))) h in
    made (token_of forms.CommClauseForm fields.Word begins_clause word (λ before after kind h. clause_field kind h) hs.0 ⊗ nothing {form = forms.CommClauseForm} (λ after kind. refl) ⊗ token_is forms.CommClauseForm fields.Colon kinds.Colon colon (λ before after. refl) hs.2 ⊗ each_in_turn roles_of_stmt_line view.view_stmt_line fields.fields_of_stmt_line statements.items hs.3 forms.CommClauseForm (λ after kind. refl))
of_comm_clause word (Some comm) colon statements h =
    let hs = and4 (begins_clause word.kind) (roles_of_stmt comm.value.0) (is_kind kinds.Colon colon) (in_turn (map roles_of_stmt_line (map (λ e. e.0) statements.items))) h in
    made (token_of forms.CommClauseForm fields.Word begins_clause word (λ before after kind h. clause_field kind h) hs.0 ⊗ under {form = forms.CommClauseForm} (λ after kind. refl) (comm.value.1 hs.1) ⊗ token_is forms.CommClauseForm fields.Colon kinds.Colon colon (λ before after. refl) hs.2 ⊗ each_in_turn roles_of_stmt_line view.view_stmt_line fields.fields_of_stmt_line statements.items hs.3 forms.CommClauseForm (λ after kind. refl))

case_comm_clause : (y : CommClause-F DeclP ExprP StmtP ElementLineP FieldLineP ResultFormP TypeExprP FuncDeclP TypeSpecP ValueSpecP ElementP ListedExprP BlockP CaseClauseP CommClauseP ForStmtP IfArmP RangeStmtP StmtLineP SwitchStmtP TypeSwitchStmtP ParamP ParamsP SignatureP) → roles_at_comm_clause (bare_comm_clause y) ≡ true → IsTree (view_at_comm_clause (bare_comm_clause y)) (fields_at_comm_clause (bare_comm_clause y))
case_comm_clause y h = of_comm_clause y.word y.comm y.colon y.statements h

pub step_comm_clause : (y : CommClause-F DeclP ExprP StmtP ElementLineP FieldLineP ResultFormP TypeExprP FuncDeclP TypeSpecP ValueSpecP ElementP ListedExprP BlockP CaseClauseP CommClauseP ForStmtP IfArmP RangeStmtP StmtLineP SwitchStmtP TypeSwitchStmtP ParamP ParamsP SignatureP) → FineCommClause (roll-CommClause (bare_comm_clause y))
step_comm_clause y h = carry (put_view_comm_clause (bare_comm_clause y)) (put_fields_comm_clause (bare_comm_clause y)) (case_comm_clause y (sym (put_roles_comm_clause (bare_comm_clause y)) ∙ h))

of_for_stmt : (word : Token) (init : Option (Box StmtP)) (first : Token) (condition : Option (Box ExprP)) (second : Token) (post : Option (Box StmtP)) (body : BlockP) → roles_at_for_stmt (bare_for_stmt (record { word = word; init = init; first = first; condition = condition; second = second; post = post; body = body })) ≡ true → IsTree (view_at_for_stmt (bare_for_stmt (record { word = word; init = init; first = first; condition = condition; second = second; post = post; body = body }))) (fields_at_for_stmt (bare_for_stmt (record { word = word; init = init; first = first; condition = condition; second = second; post = post; body = body })))
of_for_stmt word None first None second None body h =
    let hs = and7 (is_kind kinds.ForWord word) (true) (is_semicolon first.kind) (is_semicolon second.kind) (true) (true) (roles_of_block body.0) h in
    made (token_is forms.ForForm fields.Word kinds.ForWord word (λ before after. refl) hs.0 ⊗ nothing {form = forms.ForForm} (λ after kind. refl) ⊗ token_of forms.ForForm fields.Semicolon is_semicolon first (λ before after kind h. semicolon_field kind h) hs.2 ⊗ nothing {form = forms.ForForm} (λ after kind. refl) ⊗ token_of forms.ForForm fields.Semicolon is_semicolon second (λ before after kind h. semicolon_field kind h) hs.3 ⊗ nothing {form = forms.ForForm} (λ after kind. refl) ⊗ under {form = forms.ForForm} (λ after kind. refl) (body.1 hs.6))
of_for_stmt word None first None second (Some post) body h =
    let hs = and7 (is_kind kinds.ForWord word) (true) (is_semicolon first.kind) (is_semicolon second.kind) (true) (roles_of_stmt post.value.0) (roles_of_block body.0) h in
    made (token_is forms.ForForm fields.Word kinds.ForWord word (λ before after. refl) hs.0 ⊗ nothing {form = forms.ForForm} (λ after kind. refl) ⊗ token_of forms.ForForm fields.Semicolon is_semicolon first (λ before after kind h. semicolon_field kind h) hs.2 ⊗ nothing {form = forms.ForForm} (λ after kind. refl) ⊗ token_of forms.ForForm fields.Semicolon is_semicolon second (λ before after kind h. semicolon_field kind h) hs.3 ⊗ under {form = forms.ForForm} (λ after kind. refl) (post.value.1 hs.5) ⊗ under {form = forms.ForForm} (λ after kind. refl) (body.1 hs.6))
of_for_stmt word None first (Some condition) second None body h =
    let hs = and7 (is_kind kinds.ForWord word) (true) (is_semicolon first.kind) (is_semicolon second.kind) (roles_of_expr condition.value.0) (true) (roles_of_block body.0) h in
    made (token_is forms.ForForm fields.Word kinds.ForWord word (λ before after. refl) hs.0 ⊗ nothing {form = forms.ForForm} (λ after kind. refl) ⊗ token_of forms.ForForm fields.Semicolon is_semicolon first (λ before after kind h. semicolon_field kind h) hs.2 ⊗ under {form = forms.ForForm} (λ after kind. refl) (condition.value.1 hs.4) ⊗ token_of forms.ForForm fields.Semicolon is_semicolon second (λ before after kind h. semicolon_field kind h) hs.3 ⊗ nothing {form = forms.ForForm} (λ after kind. refl) ⊗ under {form = forms.ForForm} (λ after kind. refl) (body.1 hs.6))
of_for_stmt word None first (Some condition) second (Some post) body h =
    let hs = and7 (is_kind kinds.ForWord word) (true) (is_semicolon first.kind) (is_semicolon second.kind) (roles_of_expr condition.value.0) (roles_of_stmt post.value.0) (roles_of_block body.0) h in
    made (token_is forms.ForForm fields.Word kinds.ForWord word (λ before after. refl) hs.0 ⊗ nothing {form = forms.ForForm} (λ after kind. refl) ⊗ token_of forms.ForForm fields.Semicolon is_semicolon first (λ before after kind h. semicolon_field kind h) hs.2 ⊗ under {form = forms.ForForm} (λ after kind. refl) (condition.value.1 hs.4) ⊗ token_of forms.ForForm fields.Semicolon is_semicolon second (λ before after kind h. semicolon_field kind h) hs.3 ⊗ under {form = forms.ForForm} (λ after kind. refl) (post.value.1 hs.5) ⊗ under {form = forms.ForForm} (λ after kind. refl) (body.1 hs.6))
of_for_stmt word (Some init) first None second None body h =
    let hs = and7 (is_kind kinds.ForWord word) (roles_of_stmt init.value.0) (is_semicolon first.kind) (is_semicolon second.kind) (true) (true) (roles_of_block body.0) h in
    made (token_is forms.ForForm fields.Word kinds.ForWord word (λ before after. refl) hs.0 ⊗ under {form = forms.ForForm} (λ after kind. refl) (init.value.1 hs.1) ⊗ token_of forms.ForForm fields.Semicolon is_semicolon first (λ before after kind h. semicolon_field kind h) hs.2 ⊗ nothing {form = forms.ForForm} (λ after kind. refl) ⊗ token_of forms.ForForm fields.Semicolon is_semicolon second (λ before after kind h. semicolon_field kind h) hs.3 ⊗ nothing {form = forms.ForForm} (λ after kind. refl) ⊗ under {form = forms.ForForm} (λ after kind. refl) (body.1 hs.6))
of_for_stmt word (Some init) first None second (Some post) body h =
    let hs = and7 (is_kind kinds.ForWord word) (roles_of_stmt init.value.0) (is_semicolon first.kind) (is_semicolon second.kind) (true) (roles_of_stmt post.value.0) (roles_of_block body.0) h in
    made (token_is forms.ForForm fields.Word kinds.ForWord word (λ before after. refl) hs.0 ⊗ under {form = forms.ForForm} (λ after kind. refl) (init.value.1 hs.1) ⊗ token_of forms.ForForm fields.Semicolon is_semicolon first (λ before after kind h. semicolon_field kind h) hs.2 ⊗ nothing {form = forms.ForForm} (λ after kind. refl) ⊗ token_of forms.ForForm fields.Semicolon is_semicolon second (λ before after kind h. semicolon_field kind h) hs.3 ⊗ under {form = forms.ForForm} (λ after kind. refl) (post.value.1 hs.5) ⊗ under {form = forms.ForForm} (λ after kind. refl) (body.1 hs.6))
of_for_stmt word (Some init) first (Some condition) second None body h =
    let hs = and7 (is_kind kinds.ForWord word) (roles_of_stmt init.value.0) (is_semicolon first.kind) (is_semicolon second.kind) (roles_of_expr condition.value.0) (true) (roles_of_block body.0) h in
    made (token_is forms.ForForm fields.Word kinds.ForWord word (λ before after. refl) hs.0 ⊗ under {form = forms.ForForm} (λ after kind. refl) (init.value.1 hs.1) ⊗ token_of forms.ForForm fields.Semicolon is_semicolon first (λ before after kind h. semicolon_field kind h) hs.2 ⊗ under {form = forms.ForForm} (λ after kind. refl) (condition.value.1 hs.4) ⊗ token_of forms.ForForm fields.Semicolon is_semicolon second (λ before after kind h. semicolon_field kind h) hs.3 ⊗ nothing {form = forms.ForForm} (λ after kind. refl) ⊗ under {form = forms.ForForm} (λ after kind. refl) (body.1 hs.6))
of_for_stmt word (Some init) first (Some condition) second (Some post) body h =
    let hs = and7 (is_kind kinds.ForWord word) (roles_of_stmt init.value.0) (is_semicolon first.kind) (is_semicolon second.kind) (roles_of_expr condition.value.0) (roles_of_stmt post.value.0) (roles_of_block body.0) h in
    made (token_is forms.ForForm fields.Word kinds.ForWord word (λ before after. refl) hs.0 ⊗ under {form = forms.ForForm} (λ after kind. refl) (init.value.1 hs.1) ⊗ token_of forms.ForForm fields.Semicolon is_semicolon first (λ before after kind h. semicolon_field kind h) hs.2 ⊗ under {form = forms.ForForm} (λ after kind. refl) (condition.value.1 hs.4) ⊗ token_of forms.ForForm fields.Semicolon is_semicolon second (λ before after kind h. semicolon_field kind h) hs.3 ⊗ under {form = forms.ForForm} (λ after kind. refl) (post.value.1 hs.5) ⊗ under {form = forms.ForForm} (λ after kind. refl) (body.1 hs.6))

case_for_stmt : (y : ForStmt-F DeclP ExprP StmtP ElementLineP FieldLineP ResultFormP TypeExprP FuncDeclP TypeSpecP ValueSpecP ElementP ListedExprP BlockP CaseClauseP CommClauseP ForStmtP IfArmP RangeStmtP StmtLineP SwitchStmtP TypeSwitchStmtP ParamP ParamsP SignatureP) → roles_at_for_stmt (bare_for_stmt y) ≡ true → IsTree (view_at_for_stmt (bare_for_stmt y)) (fields_at_for_stmt (bare_for_stmt y))
case_for_stmt y h = of_for_stmt y.word y.init y.first y.condition y.second y.post y.body h

pub step_for_stmt : (y : ForStmt-F DeclP ExprP StmtP ElementLineP FieldLineP ResultFormP TypeExprP FuncDeclP TypeSpecP ValueSpecP ElementP ListedExprP BlockP CaseClauseP CommClauseP ForStmtP IfArmP RangeStmtP StmtLineP SwitchStmtP TypeSwitchStmtP ParamP ParamsP SignatureP) → FineForStmt (roll-ForStmt (bare_for_stmt y))
step_for_stmt y h = carry (put_view_for_stmt (bare_for_stmt y)) (put_fields_for_stmt (bare_for_stmt y)) (case_for_stmt y (sym (put_roles_for_stmt (bare_for_stmt y)) ∙ h))

of_if_arm : (else_word : Option Token) (word : Token) (init : Option (Box StmtP)) (semicolon : Option Token) (condition : Box ExprP) (body : BlockP) → roles_at_if_arm (bare_if_arm (record { else_word = else_word; word = word; init = init; semicolon = semicolon; condition = condition; body = body })) ≡ true → IsTree (view_at_if_arm (bare_if_arm (record { else_word = else_word; word = word; init = init; semicolon = semicolon; condition = condition; body = body }))) (fields_at_if_arm (bare_if_arm (record { else_word = else_word; word = word; init = init; semicolon = semicolon; condition = condition; body = body })))
of_if_arm else_word word None semicolon condition body h =
    let hs = and6 (is_if kinds.ElseWord else_word) (is_kind kinds.IfWord word) (true) (passes_if is_semicolon semicolon) (roles_of_expr condition.value.0) (roles_of_block body.0) h in
    made (maybe_is forms.ArmForm fields.ElseWord kinds.ElseWord else_word (λ after kind. refl) (λ before after. refl) hs.0 ⊗ token_is forms.ArmForm fields.Word kinds.IfWord word (λ before after. refl) hs.1 ⊗ nothing {form = forms.ArmForm} (λ after kind. refl) ⊗ maybe_of forms.ArmForm fields.Semicolon is_semicolon semicolon (λ after kind. refl) (λ before after kind h. semicolon_field kind h) hs.3 ⊗ under {form = forms.ArmForm} (λ after kind. refl) (condition.value.1 hs.4) ⊗ under {form = forms.ArmForm} (λ after kind. refl) (body.1 hs.5))
of_if_arm else_word word (Some init) semicolon condition body h =
    let hs = and6 (is_if kinds.ElseWord else_word) (is_kind kinds.IfWord word) (roles_of_stmt init.value.0) (passes_if is_semicolon semicolon) (roles_of_expr condition.value.0) (roles_of_block body.0) h in
    made (maybe_is forms.ArmForm fields.ElseWord kinds.ElseWord else_word (λ after kind. refl) (λ before after. refl) hs.0 ⊗ token_is forms.ArmForm fields.Word kinds.IfWord word (λ before after. refl) hs.1 ⊗ under {form = forms.ArmForm} (λ after kind. refl) (init.value.1 hs.2) ⊗ maybe_of forms.ArmForm fields.Semicolon is_semicolon semicolon (λ after kind. refl) (λ before after kind h. semicolon_field kind h) hs.3 ⊗ under {form = forms.ArmForm} (λ after kind. refl) (condition.value.1 hs.4) ⊗ under {form = forms.ArmForm} (λ after kind. refl) (body.1 hs.5))

case_if_arm : (y : IfArm-F DeclP ExprP StmtP ElementLineP FieldLineP ResultFormP TypeExprP FuncDeclP TypeSpecP ValueSpecP ElementP ListedExprP BlockP CaseClauseP CommClauseP ForStmtP IfArmP RangeStmtP StmtLineP SwitchStmtP TypeSwitchStmtP ParamP ParamsP SignatureP) → roles_at_if_arm (bare_if_arm y) ≡ true → IsTree (view_at_if_arm (bare_if_arm y)) (fields_at_if_arm (bare_if_arm y))
case_if_arm y h = of_if_arm y.else_word y.word y.init y.semicolon y.condition y.body h

pub step_if_arm : (y : IfArm-F DeclP ExprP StmtP ElementLineP FieldLineP ResultFormP TypeExprP FuncDeclP TypeSpecP ValueSpecP ElementP ListedExprP BlockP CaseClauseP CommClauseP ForStmtP IfArmP RangeStmtP StmtLineP SwitchStmtP TypeSwitchStmtP ParamP ParamsP SignatureP) → FineIfArm (roll-IfArm (bare_if_arm y))
step_if_arm y h = carry (put_view_if_arm (bare_if_arm y)) (put_fields_if_arm (bare_if_arm y)) (case_if_arm y (sym (put_roles_if_arm (bare_if_arm y)) ∙ h))

of_range_stmt : (word : Token) (targets : Vec ListedExprP) (operator : Option Token) (range : Token) (operand : Box ExprP) (body : BlockP) → roles_at_range_stmt (bare_range_stmt (record { word = word; targets = targets; operator = operator; range = range; operand = operand; body = body })) ≡ true → IsTree (view_at_range_stmt (bare_range_stmt (record { word = word; targets = targets; operator = operator; range = range; operand = operand; body = body }))) (fields_at_range_stmt (bare_range_stmt (record { word = word; targets = targets; operator = operator; range = range; operand = operand; body = body })))
of_range_stmt word targets operator range operand body h =
    let hs = and6 (is_kind kinds.ForWord word) (in_turn (map roles_of_listed_expr (map (λ e. e.0) targets.items))) (passes_if is_range_operator operator) (is_kind kinds.RangeWord range) (roles_of_expr operand.value.0) (roles_of_block body.0) h in
    made (token_is forms.RangeForm fields.Word kinds.ForWord word (λ before after. refl) hs.0 ⊗ each_listed roles_of_listed_expr view.view_listed_expr fields.fields_of_listed_expr targets.items hs.1 forms.RangeForm (λ after kind. refl) (λ before. refl) ⊗ maybe_of forms.RangeForm fields.Operator is_range_operator operator (λ after kind. refl) (λ before after kind h. range_field kind h) hs.2 ⊗ token_is forms.RangeForm fields.Range kinds.RangeWord range (λ before after. refl) hs.3 ⊗ under {form = forms.RangeForm} (λ after kind. refl) (operand.value.1 hs.4) ⊗ under {form = forms.RangeForm} (λ after kind. refl) (body.1 hs.5))

case_range_stmt : (y : RangeStmt-F DeclP ExprP StmtP ElementLineP FieldLineP ResultFormP TypeExprP FuncDeclP TypeSpecP ValueSpecP ElementP ListedExprP BlockP CaseClauseP CommClauseP ForStmtP IfArmP RangeStmtP StmtLineP SwitchStmtP TypeSwitchStmtP ParamP ParamsP SignatureP) → roles_at_range_stmt (bare_range_stmt y) ≡ true → IsTree (view_at_range_stmt (bare_range_stmt y)) (fields_at_range_stmt (bare_range_stmt y))
case_range_stmt y h = of_range_stmt y.word y.targets y.operator y.range y.operand y.body h

pub step_range_stmt : (y : RangeStmt-F DeclP ExprP StmtP ElementLineP FieldLineP ResultFormP TypeExprP FuncDeclP TypeSpecP ValueSpecP ElementP ListedExprP BlockP CaseClauseP CommClauseP ForStmtP IfArmP RangeStmtP StmtLineP SwitchStmtP TypeSwitchStmtP ParamP ParamsP SignatureP) → FineRangeStmt (roll-RangeStmt (bare_range_stmt y))
step_range_stmt y h = carry (put_view_range_stmt (bare_range_stmt y)) (put_fields_range_stmt (bare_range_stmt y)) (case_range_stmt y (sym (put_roles_range_stmt (bare_range_stmt y)) ∙ h))

of_switch_stmt : (word : Token) (init : Option (Box StmtP)) (semicolon : Option Token) (tag : Option (Box ExprP)) («open» : Token) (clauses : Vec CaseClauseP) (close : Token) → roles_at_switch_stmt (bare_switch_stmt (record { word = word; init = init; semicolon = semicolon; tag = tag; «open» = «open»; clauses = clauses; close = close })) ≡ true → IsTree (view_at_switch_stmt (bare_switch_stmt (record { word = word; init = init; semicolon = semicolon; tag = tag; «open» = «open»; clauses = clauses; close = close }))) (fields_at_switch_stmt (bare_switch_stmt (record { word = word; init = init; semicolon = semicolon; tag = tag; «open» = «open»; clauses = clauses; close = close })))
of_switch_stmt word None semicolon None «open» clauses close h =
    let hs = and6 (is_kind kinds.SwitchWord word) (true) (passes_if is_semicolon semicolon) (true) (braces «open» close) (every (map roles_of_case_clause (map (λ e. e.0) clauses.items))) h in
    let ps = and2 (is_kind kinds.OpenBrace «open») (is_kind kinds.CloseBrace close) hs.4 in
    made (token_is forms.SwitchForm fields.Word kinds.SwitchWord word (λ before after. refl) hs.0 ⊗ nothing {form = forms.SwitchForm} (λ after kind. refl) ⊗ maybe_of forms.SwitchForm fields.Semicolon is_semicolon semicolon (λ after kind. refl) (λ before after kind h. semicolon_field kind h) hs.2 ⊗ nothing {form = forms.SwitchForm} (λ after kind. refl) ⊗ token_is forms.SwitchForm fields.Open kinds.OpenBrace «open» (λ before after. refl) ps.0 ⊗ each_tree roles_of_case_clause view.view_case_clause fields.fields_of_case_clause clauses.items hs.5 forms.SwitchForm (λ after kind. refl) ⊗ token_is forms.SwitchForm fields.Close kinds.CloseBrace close (λ before after. refl) ps.1)
of_switch_stmt word None semicolon (Some tag) «open» clauses close h =
    let hs = and6 (is_kind kinds.SwitchWord word) (true) (passes_if is_semicolon semicolon) (roles_of_expr tag.value.0) (braces «open» close) (every (map roles_of_case_clause (map (λ e. e.0) clauses.items))) h in
    let ps = and2 (is_kind kinds.OpenBrace «open») (is_kind kinds.CloseBrace close) hs.4 in
    made (token_is forms.SwitchForm fields.Word kinds.SwitchWord word (λ before after. refl) hs.0 ⊗ nothing {form = forms.SwitchForm} (λ after kind. refl) ⊗ maybe_of forms.SwitchForm fields.Semicolon is_semicolon semicolon (λ after kind. refl) (λ before after kind h. semicolon_field kind h) hs.2 ⊗ under {form = forms.SwitchForm} (λ after kind. refl) (tag.value.1 hs.3) ⊗ token_is forms.SwitchForm fields.Open kinds.OpenBrace «open» (λ before after. refl) ps.0 ⊗ each_tree roles_of_case_clause view.view_case_clause fields.fields_of_case_clause clauses.items hs.5 forms.SwitchForm (λ after kind. refl) ⊗ token_is forms.SwitchForm fields.Close kinds.CloseBrace close (λ before after. refl) ps.1)
of_switch_stmt word (Some init) semicolon None «open» clauses close h =
    let hs = and6 (is_kind kinds.SwitchWord word) (roles_of_stmt init.value.0) (passes_if is_semicolon semicolon) (true) (braces «open» close) (every (map roles_of_case_clause (map (λ e. e.0) clauses.items))) h in
    let ps = and2 (is_kind kinds.OpenBrace «open») (is_kind kinds.CloseBrace close) hs.4 in
    made (token_is forms.SwitchForm fields.Word kinds.SwitchWord word (λ before after. refl) hs.0 ⊗ under {form = forms.SwitchForm} (λ after kind. refl) (init.value.1 hs.1) ⊗ maybe_of forms.SwitchForm fields.Semicolon is_semicolon semicolon (λ after kind. refl) (λ before after kind h. semicolon_field kind h) hs.2 ⊗ nothing {form = forms.SwitchForm} (λ after kind. refl) ⊗ token_is forms.SwitchForm fields.Open kinds.OpenBrace «open» (λ before after. refl) ps.0 ⊗ each_tree roles_of_case_clause view.view_case_clause fields.fields_of_case_clause clauses.items hs.5 forms.SwitchForm (λ after kind. refl) ⊗ token_is forms.SwitchForm fields.Close kinds.CloseBrace close (λ before after. refl) ps.1)
of_switch_stmt word (Some init) semicolon (Some tag) «open» clauses close h =
    let hs = and6 (is_kind kinds.SwitchWord word) (roles_of_stmt init.value.0) (passes_if is_semicolon semicolon) (roles_of_expr tag.value.0) (braces «open» close) (every (map roles_of_case_clause (map (λ e. e.0) clauses.items))) h in
    let ps = and2 (is_kind kinds.OpenBrace «open») (is_kind kinds.CloseBrace close) hs.4 in
    made (token_is forms.SwitchForm fields.Word kinds.SwitchWord word (λ before after. refl) hs.0 ⊗ under {form = forms.SwitchForm} (λ after kind. refl) (init.value.1 hs.1) ⊗ maybe_of forms.SwitchForm fields.Semicolon is_semicolon semicolon (λ after kind. refl) (λ before after kind h. semicolon_field kind h) hs.2 ⊗ under {form = forms.SwitchForm} (λ after kind. refl) (tag.value.1 hs.3) ⊗ token_is forms.SwitchForm fields.Open kinds.OpenBrace «open» (λ before after. refl) ps.0 ⊗ each_tree roles_of_case_clause view.view_case_clause fields.fields_of_case_clause clauses.items hs.5 forms.SwitchForm (λ after kind. refl) ⊗ token_is forms.SwitchForm fields.Close kinds.CloseBrace close (λ before after. refl) ps.1)

case_switch_stmt : (y : SwitchStmt-F DeclP ExprP StmtP ElementLineP FieldLineP ResultFormP TypeExprP FuncDeclP TypeSpecP ValueSpecP ElementP ListedExprP BlockP CaseClauseP CommClauseP ForStmtP IfArmP RangeStmtP StmtLineP SwitchStmtP TypeSwitchStmtP ParamP ParamsP SignatureP) → roles_at_switch_stmt (bare_switch_stmt y) ≡ true → IsTree (view_at_switch_stmt (bare_switch_stmt y)) (fields_at_switch_stmt (bare_switch_stmt y))
case_switch_stmt y h = of_switch_stmt y.word y.init y.semicolon y.tag y.«open» y.clauses y.close h

pub step_switch_stmt : (y : SwitchStmt-F DeclP ExprP StmtP ElementLineP FieldLineP ResultFormP TypeExprP FuncDeclP TypeSpecP ValueSpecP ElementP ListedExprP BlockP CaseClauseP CommClauseP ForStmtP IfArmP RangeStmtP StmtLineP SwitchStmtP TypeSwitchStmtP ParamP ParamsP SignatureP) → FineSwitchStmt (roll-SwitchStmt (bare_switch_stmt y))
step_switch_stmt y h = carry (put_view_switch_stmt (bare_switch_stmt y)) (put_fields_switch_stmt (bare_switch_stmt y)) (case_switch_stmt y (sym (put_roles_switch_stmt (bare_switch_stmt y)) ∙ h))

of_type_switch_stmt : (word : Token) (init : Option (Box StmtP)) (semicolon : Option Token) (binding_of : Option Binding) (operand : Box ExprP) (dot : Token) (open_paren : Token) (type_word : Token) (close_paren : Token) («open» : Token) (clauses : Vec CaseClauseP) (close : Token) → roles_at_type_switch_stmt (bare_type_switch_stmt (record { word = word; init = init; semicolon = semicolon; binding = binding_of; operand = operand; dot = dot; open_paren = open_paren; type_word = type_word; close_paren = close_paren; «open» = «open»; clauses = clauses; close = close })) ≡ true → IsTree (view_at_type_switch_stmt (bare_type_switch_stmt (record { word = word; init = init; semicolon = semicolon; binding = binding_of; operand = operand; dot = dot; open_paren = open_paren; type_word = type_word; close_paren = close_paren; «open» = «open»; clauses = clauses; close = close }))) (fields_at_type_switch_stmt (bare_type_switch_stmt (record { word = word; init = init; semicolon = semicolon; binding = binding_of; operand = operand; dot = dot; open_paren = open_paren; type_word = type_word; close_paren = close_paren; «open» = «open»; clauses = clauses; close = close })))
of_type_switch_stmt word None semicolon binding_of operand dot open_paren type_word close_paren «open» clauses close h =
    let hs = and8 (is_kind kinds.SwitchWord word) (true) (passes_if is_semicolon semicolon) (is_binding_if binding_of) (roles_of_expr operand.value.0) (is_guard dot open_paren type_word close_paren) (braces «open» close) (every (map roles_of_case_clause (map (λ e. e.0) clauses.items))) h in
    let ps = and2 (is_kind kinds.OpenBrace «open») (is_kind kinds.CloseBrace close) hs.6 in
    let gs = and3 (is_kind kinds.Dot dot) (parens open_paren close_paren) (is_kind kinds.TypeWord type_word) hs.5 in
    let qs = and2 (is_kind kinds.OpenParen open_paren) (is_kind kinds.CloseParen close_paren) gs.1 in
    made (token_is forms.TypeSwitchForm fields.Word kinds.SwitchWord word (λ before after. refl) hs.0 ⊗ nothing {form = forms.TypeSwitchForm} (λ after kind. refl) ⊗ maybe_of forms.TypeSwitchForm fields.Semicolon is_semicolon semicolon (λ after kind. refl) (λ before after kind h. guard_field kind h) hs.2 ⊗ binding binding_of hs.3 ⊗ under {form = forms.TypeSwitchForm} (λ after kind. refl) (operand.value.1 hs.4) ⊗ token_is forms.TypeSwitchForm fields.Dot kinds.Dot dot (λ before after. refl) gs.0 ⊗ token_is forms.TypeSwitchForm fields.OpenParen kinds.OpenParen open_paren (λ before after. refl) qs.0 ⊗ token_is forms.TypeSwitchForm fields.TypeWord kinds.TypeWord type_word (λ before after. refl) gs.2 ⊗ token_is forms.TypeSwitchForm fields.CloseParen kinds.CloseParen close_paren (λ before after. refl) qs.1 ⊗ token_is forms.TypeSwitchForm fields.Open kinds.OpenBrace «open» (λ before after. refl) ps.0 ⊗ each_tree roles_of_case_clause view.view_case_clause fields.fields_of_case_clause clauses.items hs.7 forms.TypeSwitchForm (λ after kind. refl) ⊗ token_is forms.TypeSwitchForm fields.Close kinds.CloseBrace close (λ before after. refl) ps.1)
of_type_switch_stmt word (Some init) semicolon binding_of operand dot open_paren type_word close_paren «open» clauses close h =
    let hs = and8 (is_kind kinds.SwitchWord word) (roles_of_stmt init.value.0) (passes_if is_semicolon semicolon) (is_binding_if binding_of) (roles_of_expr operand.value.0) (is_guard dot open_paren type_word close_paren) (braces «open» close) (every (map roles_of_case_clause (map (λ e. e.0) clauses.items))) h in
    let ps = and2 (is_kind kinds.OpenBrace «open») (is_kind kinds.CloseBrace close) hs.6 in
    let gs = and3 (is_kind kinds.Dot dot) (parens open_paren close_paren) (is_kind kinds.TypeWord type_word) hs.5 in
    let qs = and2 (is_kind kinds.OpenParen open_paren) (is_kind kinds.CloseParen close_paren) gs.1 in
    made (token_is forms.TypeSwitchForm fields.Word kinds.SwitchWord word (λ before after. refl) hs.0 ⊗ under {form = forms.TypeSwitchForm} (λ after kind. refl) (init.value.1 hs.1) ⊗ maybe_of forms.TypeSwitchForm fields.Semicolon is_semicolon semicolon (λ after kind. refl) (λ before after kind h. guard_field kind h) hs.2 ⊗ binding binding_of hs.3 ⊗ under {form = forms.TypeSwitchForm} (λ after kind. refl) (operand.value.1 hs.4) ⊗ token_is forms.TypeSwitchForm fields.Dot kinds.Dot dot (λ before after. refl) gs.0 ⊗ token_is forms.TypeSwitchForm fields.OpenParen kinds.OpenParen open_paren (λ before after. refl) qs.0 ⊗ token_is forms.TypeSwitchForm fields.TypeWord kinds.TypeWord type_word (λ before after. refl) gs.2 ⊗ token_is forms.TypeSwitchForm fields.CloseParen kinds.CloseParen close_paren (λ before after. refl) qs.1 ⊗ token_is forms.TypeSwitchForm fields.Open kinds.OpenBrace «open» (λ before after. refl) ps.0 ⊗ each_tree roles_of_case_clause view.view_case_clause fields.fields_of_case_clause clauses.items hs.7 forms.TypeSwitchForm (λ after kind. refl) ⊗ token_is forms.TypeSwitchForm fields.Close kinds.CloseBrace close (λ before after. refl) ps.1)

case_type_switch_stmt : (y : TypeSwitchStmt-F DeclP ExprP StmtP ElementLineP FieldLineP ResultFormP TypeExprP FuncDeclP TypeSpecP ValueSpecP ElementP ListedExprP BlockP CaseClauseP CommClauseP ForStmtP IfArmP RangeStmtP StmtLineP SwitchStmtP TypeSwitchStmtP ParamP ParamsP SignatureP) → roles_at_type_switch_stmt (bare_type_switch_stmt y) ≡ true → IsTree (view_at_type_switch_stmt (bare_type_switch_stmt y)) (fields_at_type_switch_stmt (bare_type_switch_stmt y))
case_type_switch_stmt y h = of_type_switch_stmt y.word y.init y.semicolon y.binding y.operand y.dot y.open_paren y.type_word y.close_paren y.«open» y.clauses y.close h

pub step_type_switch_stmt : (y : TypeSwitchStmt-F DeclP ExprP StmtP ElementLineP FieldLineP ResultFormP TypeExprP FuncDeclP TypeSpecP ValueSpecP ElementP ListedExprP BlockP CaseClauseP CommClauseP ForStmtP IfArmP RangeStmtP StmtLineP SwitchStmtP TypeSwitchStmtP ParamP ParamsP SignatureP) → FineTypeSwitchStmt (roll-TypeSwitchStmt (bare_type_switch_stmt y))
step_type_switch_stmt y h = carry (put_view_type_switch_stmt (bare_type_switch_stmt y)) (put_fields_type_switch_stmt (bare_type_switch_stmt y)) (case_type_switch_stmt y (sym (put_roles_type_switch_stmt (bare_type_switch_stmt y)) ∙ h))
