-- Of which kinds the tokens of a tree are, by their fields, where what is below it is known already: one layer of each.
use Rattle.std.specs.Prelude.{Bool, true, ◌&&◌}
use Rattle.go_ast.specs.declared.token.Kind.TheVariants as kinds
use Rattle.go_syntax.specs.declared.decls.Decl.TheOpen as layers
use Rattle.go_grammar.specs.Grammar.{is_assign, is_semicolon, is_sign, is_step}
use Rattle.tree_roles.specs.Tokens.{is_kind, is_if, passes_if, parens, brackets, braces, group, held, given, in_turn}
use Rattle.tree_roles.specs.Tokens.{every, ends, between, are_labels, are_names, is_named, is_binding_if, is_guard}
use Rattle.tree_roles.specs.Tokens.{is_binary, is_comma, is_range_operator, begins_clause, InList}
use Rattle.tree_roles.specs.Tokens.{slice_marks, full_slice_marks, call_marks}

-- Go specification, "Constant declarations", "Type declarations", "Variable declarations"
abbrev pub decl_layer :
    layers.Decl-F Bool Bool Bool InList InList Bool Bool Bool InList InList InList InList Bool Bool Bool Bool Bool
    Bool InList Bool Bool InList Bool Bool → Bool
decl_layer (layers.Decl-F.Const word «open» specs close) =
    group kinds.ConstWord word «open» (in_turn specs.items) close
decl_layer (layers.Decl-F.TypeDecl word «open» specs close) =
    group kinds.TypeWord word «open» (in_turn specs.items) close
decl_layer (layers.Decl-F.Var word «open» specs close) = group kinds.VarWord word «open» (in_turn specs.items) close
decl_layer (layers.Decl-F.Func decl) = decl.value

-- Go specification, "Expressions"
abbrev pub expr_layer :
    layers.Expr-F Bool Bool Bool InList InList Bool Bool Bool InList InList InList InList Bool Bool Bool Bool Bool
    Bool InList Bool Bool InList Bool Bool → Bool
expr_layer (layers.Expr-F.Int token) = is_kind kinds.Int token
expr_layer (layers.Expr-F.Rune token) = is_kind kinds.Rune token
expr_layer (layers.Expr-F.Text token) = is_kind kinds.Text token
expr_layer (layers.Expr-F.Expr::Name token) = is_kind kinds.Name token
expr_layer (layers.Expr-F.Expr::Paren «open» inner close) = parens «open» close && inner.value
expr_layer (layers.Expr-F.Expr::Function word signature body) =
    is_kind kinds.FuncWord word && signature.value && body.value
expr_layer (layers.Expr-F.Expr::TypeForm form) = form.value
expr_layer (layers.Expr-F.Composite form «open» elements close) =
    held form && braces «open» close && in_turn elements.items
expr_layer (layers.Expr-F.Selector operand dot name) =
    operand.value && is_kind kinds.Dot dot && is_kind kinds.Name name
expr_layer (layers.Expr-F.Assertion operand dot «open» form close) =
    operand.value && is_kind kinds.Dot dot && parens «open» close && form.value
expr_layer (layers.Expr-F.Index operand «open» index close) = operand.value && brackets «open» close && index.value
expr_layer (layers.Expr-F.Expr::Slice operand «open» low colon high close) =
    operand.value && slice_marks «open» colon close && held low && held high
expr_layer (layers.Expr-F.FullSlice operand «open» low colon high second_colon max close) =
    operand.value && full_slice_marks «open» colon second_colon close && (held low && high.value && max.value)
expr_layer (layers.Expr-F.Call callee «open» arguments ellipsis comma close) =
    callee.value && call_marks «open» ellipsis comma close && in_turn arguments.items
expr_layer (layers.Expr-F.Unary operator operand) = is_sign operator.kind && operand.value
expr_layer (layers.Expr-F.Binary left operator right) = left.value && is_binary operator.kind && right.value

-- Go specification, "Statements"
abbrev pub stmt_layer :
    layers.Stmt-F Bool Bool Bool InList InList Bool Bool Bool InList InList InList InList Bool Bool Bool Bool Bool
    Bool InList Bool Bool InList Bool Bool → Bool
stmt_layer (layers.Stmt-F.Decl decl) = decl.value
stmt_layer (layers.Stmt-F.Labeled labels stmt) = are_labels labels.items && held stmt
stmt_layer (layers.Stmt-F.Expr expr) = expr.value
stmt_layer (layers.Stmt-F.Send channel arrow value) = channel.value && is_kind kinds.Arrow arrow && value.value
stmt_layer (layers.Stmt-F.Step operand operator) = operand.value && is_step operator.kind
stmt_layer (layers.Stmt-F.Assign targets operator values) =
    in_turn targets.items && is_assign operator.kind && in_turn values.items
stmt_layer (layers.Stmt-F.Define targets operator values) =
    in_turn targets.items && is_kind kinds.Define operator && in_turn values.items
stmt_layer (layers.Stmt-F.Go word call) = is_kind kinds.GoWord word && call.value
stmt_layer (layers.Stmt-F.Defer word call) = is_kind kinds.DeferWord word && call.value
stmt_layer (layers.Stmt-F.Return word results) = is_kind kinds.ReturnWord word && in_turn results.items
stmt_layer (layers.Stmt-F.Break word label) = is_kind kinds.BreakWord word && is_if kinds.Name label
stmt_layer (layers.Stmt-F.Continue word label) = is_kind kinds.ContinueWord word && is_if kinds.Name label
stmt_layer (layers.Stmt-F.Fallthrough token) = is_kind kinds.FallthroughWord token
stmt_layer (layers.Stmt-F.Block block) = block
stmt_layer (layers.Stmt-F.If arms else_word otherwise) =
    every arms.items && is_if kinds.ElseWord else_word && held otherwise
stmt_layer (layers.Stmt-F.Switch stmt) = stmt.value
stmt_layer (layers.Stmt-F.TypeSwitch stmt) = stmt.value
stmt_layer (layers.Stmt-F.Select word «open» clauses close) =
    is_kind kinds.SelectWord word && braces «open» close && every clauses.items
stmt_layer (layers.Stmt-F.While word condition body) = is_kind kinds.ForWord word && held condition && body.value
stmt_layer (layers.Stmt-F.For stmt) = stmt.value
stmt_layer (layers.Stmt-F.Range stmt) = stmt.value

-- Go specification, "Interface types"
abbrev pub element_line_layer :
    layers.ElementLine-F Bool Bool Bool InList InList Bool Bool Bool InList InList InList InList Bool Bool Bool Bool
    Bool Bool InList Bool Bool InList Bool Bool → InList
element_line_layer (layers.ElementLine-F.ElementLine::Empty token) more = is_semicolon token.kind
element_line_layer (layers.ElementLine-F.Method name signature semicolon) more =
    is_kind kinds.Name name && signature.value && ends is_semicolon semicolon more
element_line_layer (layers.ElementLine-F.ElementLine::Embedded name semicolon) more =
    is_named name && ends is_semicolon semicolon more

-- Go specification, "Struct types"
abbrev pub field_line_layer :
    layers.FieldLine-F Bool Bool Bool InList InList Bool Bool Bool InList InList InList InList Bool Bool Bool Bool
    Bool Bool InList Bool Bool InList Bool Bool → InList
field_line_layer (layers.FieldLine-F.FieldLine::Empty token) more = is_semicolon token.kind
field_line_layer (layers.FieldLine-F.Named names form tag semicolon) more =
    are_names names.items && form.value && is_if kinds.Text tag && ends is_semicolon semicolon more
field_line_layer (layers.FieldLine-F.FieldLine::Embedded star name tag semicolon) more =
    is_if kinds.Star star && is_named name && is_if kinds.Text tag && ends is_semicolon semicolon more

-- Go specification, "Function types"
abbrev pub result_form_layer :
    layers.ResultForm-F Bool Bool Bool InList InList Bool Bool Bool InList InList InList InList Bool Bool Bool Bool
    Bool Bool InList Bool Bool InList Bool Bool → Bool
result_form_layer (layers.ResultForm-F.None) = true
result_form_layer (layers.ResultForm-F.Params params) = params
result_form_layer (layers.ResultForm-F.ResultForm::TypeForm form) = form.value

-- Go specification, "Types"
abbrev pub type_expr_layer :
    layers.TypeExpr-F Bool Bool Bool InList InList Bool Bool Bool InList InList InList InList Bool Bool Bool Bool Bool
    Bool InList Bool Bool InList Bool Bool → Bool
type_expr_layer (layers.TypeExpr-F.TypeExpr::Name name) = is_named name
type_expr_layer (layers.TypeExpr-F.TypeExpr::Paren «open» inner close) = parens «open» close && inner.value
type_expr_layer (layers.TypeExpr-F.Pointer star base) = is_kind kinds.Star star && base.value
type_expr_layer (layers.TypeExpr-F.TypeExpr::Slice «open» close element) = brackets «open» close && element.value
type_expr_layer (layers.TypeExpr-F.Array «open» length close element) =
    brackets «open» close && length.value && element.value
type_expr_layer (layers.TypeExpr-F.OpenArray «open» ellipsis close element) =
    brackets «open» close && is_kind kinds.Ellipsis ellipsis && element.value
type_expr_layer (layers.TypeExpr-F.Map word «open» key close element) =
    is_kind kinds.MapWord word && brackets «open» close && key.value && element.value
type_expr_layer (layers.TypeExpr-F.Chan word arrow element) =
    is_kind kinds.ChanWord word && is_if kinds.Arrow arrow && element.value
type_expr_layer (layers.TypeExpr-F.ReceiveChan arrow word element) =
    is_kind kinds.Arrow arrow && is_kind kinds.ChanWord word && element.value
type_expr_layer (layers.TypeExpr-F.TypeExpr::Function word signature) = is_kind kinds.FuncWord word && signature.value
type_expr_layer (layers.TypeExpr-F.Struct word «open» fields close) =
    is_kind kinds.StructWord word && braces «open» close && in_turn fields.items
type_expr_layer (layers.TypeExpr-F.Interface word «open» elements close) =
    is_kind kinds.InterfaceWord word && braces «open» close && in_turn elements.items

-- Go specification, "Function declarations", "Method declarations"
abbrev pub func_decl_layer :
    layers.FuncDecl-F Bool Bool Bool InList InList Bool Bool Bool InList InList InList InList Bool Bool Bool Bool Bool
    Bool InList Bool Bool InList Bool Bool → Bool
func_decl_layer x =
    is_kind kinds.FuncWord x.word && given x.receiver && is_kind kinds.Name x.name && x.signature && given x.body

abbrev pub type_spec_layer :
    layers.TypeSpec-F Bool Bool Bool InList InList Bool Bool Bool InList InList InList InList Bool Bool Bool Bool Bool
    Bool InList Bool Bool InList Bool Bool → InList
type_spec_layer x more =
    is_kind kinds.Name x.name && is_if kinds.Assign x.assign && x.form.value && ends is_semicolon x.semicolon more

abbrev pub value_spec_layer :
    layers.ValueSpec-F Bool Bool Bool InList InList Bool Bool Bool InList InList InList InList Bool Bool Bool Bool
    Bool Bool InList Bool Bool InList Bool Bool → InList
value_spec_layer x more =
    are_names x.names.items && held x.form && is_if kinds.Assign x.assign && in_turn x.values.items
    && ends is_semicolon x.semicolon more

-- Go specification, "Composite literals"
abbrev pub element_layer :
    layers.Element-F Bool Bool Bool InList InList Bool Bool Bool InList InList InList InList Bool Bool Bool Bool Bool
    Bool InList Bool Bool InList Bool Bool → InList
element_layer x more = held x.key && is_if kinds.Colon x.colon && x.value.value && ends is_comma x.comma more

abbrev pub listed_expr_layer :
    layers.ListedExpr-F Bool Bool Bool InList InList Bool Bool Bool InList InList InList InList Bool Bool Bool Bool
    Bool Bool InList Bool Bool InList Bool Bool → InList
listed_expr_layer x more = x.expr.value && between x.comma more

-- Go specification, "Blocks"
abbrev pub block_layer :
    layers.Block-F Bool Bool Bool InList InList Bool Bool Bool InList InList InList InList Bool Bool Bool Bool Bool
    Bool InList Bool Bool InList Bool Bool → Bool
block_layer x = braces x.«open» x.close && in_turn x.statements.items

abbrev pub case_clause_layer :
    layers.CaseClause-F Bool Bool Bool InList InList Bool Bool Bool InList InList InList InList Bool Bool Bool Bool
    Bool Bool InList Bool Bool InList Bool Bool → Bool
case_clause_layer x =
    begins_clause x.word.kind && in_turn x.items.items && is_kind kinds.Colon x.colon && in_turn x.statements.items

-- Go specification, "Select statements"
abbrev pub comm_clause_layer :
    layers.CommClause-F Bool Bool Bool InList InList Bool Bool Bool InList InList InList InList Bool Bool Bool Bool
    Bool Bool InList Bool Bool InList Bool Bool → Bool
comm_clause_layer x =
    begins_clause x.word.kind && held x.comm && is_kind kinds.Colon x.colon && in_turn x.statements.items

-- Go specification, "For statements with for clause"
abbrev pub for_stmt_layer :
    layers.ForStmt-F Bool Bool Bool InList InList Bool Bool Bool InList InList InList InList Bool Bool Bool Bool Bool
    Bool InList Bool Bool InList Bool Bool → Bool
for_stmt_layer x =
    is_kind kinds.ForWord x.word && held x.init && is_semicolon x.first.kind && is_semicolon x.second.kind
    && held x.condition && held x.post && x.body

-- Go specification, "If statements"
abbrev pub if_arm_layer :
    layers.IfArm-F Bool Bool Bool InList InList Bool Bool Bool InList InList InList InList Bool Bool Bool Bool Bool
    Bool InList Bool Bool InList Bool Bool → Bool
if_arm_layer x =
    is_if kinds.ElseWord x.else_word && is_kind kinds.IfWord x.word && held x.init
    && passes_if is_semicolon x.semicolon && x.condition.value && x.body

-- Go specification, "For statements with range clause"
abbrev pub range_stmt_layer :
    layers.RangeStmt-F Bool Bool Bool InList InList Bool Bool Bool InList InList InList InList Bool Bool Bool Bool
    Bool Bool InList Bool Bool InList Bool Bool → Bool
range_stmt_layer x =
    is_kind kinds.ForWord x.word && in_turn x.targets.items && passes_if is_range_operator x.operator
    && is_kind kinds.RangeWord x.range && x.operand.value && x.body

abbrev pub stmt_line_layer :
    layers.StmtLine-F Bool Bool Bool InList InList Bool Bool Bool InList InList InList InList Bool Bool Bool Bool Bool
    Bool InList Bool Bool InList Bool Bool → InList
stmt_line_layer x more = held x.stmt && ends is_semicolon x.semicolon more

-- Go specification, "Expression switches"
abbrev pub switch_stmt_layer :
    layers.SwitchStmt-F Bool Bool Bool InList InList Bool Bool Bool InList InList InList InList Bool Bool Bool Bool
    Bool Bool InList Bool Bool InList Bool Bool → Bool
switch_stmt_layer x =
    is_kind kinds.SwitchWord x.word && held x.init && passes_if is_semicolon x.semicolon && held x.tag
    && braces x.«open» x.close && every x.clauses.items

-- Go specification, "Type switches"
abbrev pub type_switch_stmt_layer :
    layers.TypeSwitchStmt-F Bool Bool Bool InList InList Bool Bool Bool InList InList InList InList Bool Bool Bool
    Bool Bool Bool InList Bool Bool InList Bool Bool → Bool
type_switch_stmt_layer x =
    is_kind kinds.SwitchWord x.word && held x.init && passes_if is_semicolon x.semicolon && is_binding_if x.binding
    && x.operand.value && is_guard x.dot x.open_paren x.type_word x.close_paren && braces x.«open» x.close
    && every x.clauses.items

abbrev pub param_layer :
    layers.Param-F Bool Bool Bool InList InList Bool Bool Bool InList InList InList InList Bool Bool Bool Bool Bool
    Bool InList Bool Bool InList Bool Bool → InList
param_layer x more =
    are_names x.names.items && is_if kinds.Ellipsis x.ellipsis && x.form.value && ends is_comma x.comma more

abbrev pub params_layer :
    layers.Params-F Bool Bool Bool InList InList Bool Bool Bool InList InList InList InList Bool Bool Bool Bool Bool
    Bool InList Bool Bool InList Bool Bool → Bool
params_layer x = parens x.«open» x.close && in_turn x.params.items

abbrev pub signature_layer :
    layers.Signature-F Bool Bool Bool InList InList Bool Bool Bool InList InList InList InList Bool Bool Bool Bool
    Bool Bool InList Bool Bool InList Bool Bool → Bool
signature_layer x = x.params && x.result
