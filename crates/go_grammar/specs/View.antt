-- The trees of the parser, seen as forests: what they are made of, without where it lies in memory.
use Rattle.std.specs.Prelude.{List, [], ◌∷◌, Option, Some, None}
use Rattle.go_ast.specs.declared.token.Token.{Token}
use Rattle.go_syntax.specs.declared.decls.Decl.{Decl}
use Rattle.go_syntax.specs.declared.decls.DeclLine.{DeclLine}
use Rattle.go_syntax.specs.declared.decls.FileTree.{FileTree}
use Rattle.go_syntax.specs.declared.decls.ImportDecl.{ImportDecl}
use Rattle.go_syntax.specs.declared.decls.ImportSpec.{ImportSpec}
use Rattle.go_syntax.specs.declared.stmts.Binding.{Binding}
use Rattle.go_syntax.specs.declared.stmts.Label.{Label}
use Rattle.go_syntax.specs.declared.type_exprs.ListedName.{ListedName}
use Rattle.go_syntax.specs.declared.type_exprs.NamedType.{NamedType}
use Rattle.go_syntax.specs.declared.type_exprs.NamedType.TheVariants as named
use Rattle.go_syntax.specs.declared.decls.Decl.TheOpen as layers
use Rattle.go_syntax.specs.declared.exprs.Expr.{Expr}
use Rattle.go_syntax.specs.declared.stmts.Stmt.{Stmt}
use Rattle.go_syntax.specs.declared.type_exprs.ElementLine.{ElementLine}
use Rattle.go_syntax.specs.declared.type_exprs.FieldLine.{FieldLine}
use Rattle.go_syntax.specs.declared.type_exprs.ResultForm.{ResultForm}
use Rattle.go_syntax.specs.declared.type_exprs.TypeExpr.{TypeExpr}
use Rattle.go_syntax.specs.declared.decls.FuncDecl.{FuncDecl}
use Rattle.go_syntax.specs.declared.decls.TypeSpec.{TypeSpec}
use Rattle.go_syntax.specs.declared.decls.ValueSpec.{ValueSpec}
use Rattle.go_syntax.specs.declared.exprs.Element.{Element}
use Rattle.go_syntax.specs.declared.exprs.ListedExpr.{ListedExpr}
use Rattle.go_syntax.specs.declared.stmts.Block.{Block}
use Rattle.go_syntax.specs.declared.stmts.CaseClause.{CaseClause}
use Rattle.go_syntax.specs.declared.stmts.CommClause.{CommClause}
use Rattle.go_syntax.specs.declared.stmts.ForStmt.{ForStmt}
use Rattle.go_syntax.specs.declared.stmts.IfArm.{IfArm}
use Rattle.go_syntax.specs.declared.stmts.RangeStmt.{RangeStmt}
use Rattle.go_syntax.specs.declared.stmts.StmtLine.{StmtLine}
use Rattle.go_syntax.specs.declared.stmts.SwitchStmt.{SwitchStmt}
use Rattle.go_syntax.specs.declared.stmts.TypeSwitchStmt.{TypeSwitchStmt}
use Rattle.go_syntax.specs.declared.type_exprs.Param.{Param}
use Rattle.go_syntax.specs.declared.type_exprs.Params.{Params}
use Rattle.go_syntax.specs.declared.type_exprs.Signature.{Signature}
use Rattle.go_syntax.specs.declared.decls.Decl.TheFolds.{fold-Decl, fold-Expr, fold-Stmt, fold-ElementLine}
use Rattle.go_syntax.specs.declared.decls.Decl.TheFolds.{fold-FieldLine, fold-ResultForm, fold-TypeExpr, fold-FuncDecl}
use Rattle.go_syntax.specs.declared.decls.Decl.TheFolds.{fold-TypeSpec, fold-ValueSpec, fold-Element, fold-ListedExpr}
use Rattle.go_syntax.specs.declared.decls.Decl.TheFolds.{fold-Block, fold-CaseClause, fold-CommClause, fold-ForStmt}
use Rattle.go_syntax.specs.declared.decls.Decl.TheFolds.{fold-IfArm, fold-RangeStmt, fold-StmtLine, fold-SwitchStmt}
use Rattle.go_syntax.specs.declared.decls.Decl.TheFolds.{fold-TypeSwitchStmt, fold-Param, fold-Params, fold-Signature}
use Rattle.go_grammar.specs.Forests as forms
use Rattle.go_grammar.specs.Forests.{Form, Forest, empty, leaf, node, append}

infixr 30 ◌⊕◌
abbrev pub ◌⊕◌ : Forest → Forest → Forest
left ⊕ right = append left right

abbrev pub one : Token → Forest
one token = leaf token empty

abbrev pub tree : Form → Forest → Forest
tree form below = node form below empty

abbrev pub if_some : {A : Type 0} → (A → Forest) → Option A → Forest
if_some view None = empty
if_some view (Some x) = view x

abbrev pub each : {A : Type 0} → (A → Forest) → List A → Forest
each view [] = empty
each view (x ∷ xs) = view x ⊕ each view xs

abbrev pub all : List Forest → Forest
all trees = each (λ tree. tree) trees

abbrev pub token_if : Option Token → Forest
token_if token = if_some one token

-- ---- what holds no tree

abbrev pub view_named : NamedType → Forest
view_named (named.Local name) = tree forms.TypeNameForm (one name)
view_named (named.Imported package_name dot name) = tree forms.TypeNameForm (one package_name ⊕ one dot ⊕ one name)

abbrev pub view_listed_name : ListedName → Forest
view_listed_name x = one x.name ⊕ token_if x.comma

abbrev pub view_label : Label → Forest
view_label x = one x.name ⊕ one x.colon

abbrev pub view_binding : Binding → Forest
view_binding x = one x.name ⊕ one x.define

abbrev pub view_import_spec : ImportSpec → Forest
view_import_spec x = tree forms.ImportSpecForm (token_if x.name ⊕ one x.path) ⊕ token_if x.semicolon

abbrev pub view_import : ImportDecl → Forest
view_import x =
    tree forms.ImportForm (one x.word ⊕ token_if x.«open» ⊕ each view_import_spec x.specs.items ⊕ token_if x.close)
    ⊕ one x.semicolon

-- ---- one layer of each tree, where what is below it is seen already

abbrev pub decl_layer :
    layers.Decl-F Forest Forest Forest Forest Forest Forest Forest Forest Forest Forest Forest Forest Forest Forest
    Forest Forest Forest Forest Forest Forest Forest Forest Forest Forest → Forest
decl_layer (layers.Decl-F.Const word «open» specs close) =
    tree forms.ConstForm (one word ⊕ token_if «open» ⊕ all specs.items ⊕ token_if close)
decl_layer (layers.Decl-F.TypeDecl word «open» specs close) =
    tree forms.TypeDeclForm (one word ⊕ token_if «open» ⊕ all specs.items ⊕ token_if close)
decl_layer (layers.Decl-F.Var word «open» specs close) =
    tree forms.VarForm (one word ⊕ token_if «open» ⊕ all specs.items ⊕ token_if close)
decl_layer (layers.Decl-F.Func decl) = decl.value

abbrev pub expr_layer :
    layers.Expr-F Forest Forest Forest Forest Forest Forest Forest Forest Forest Forest Forest Forest Forest Forest
    Forest Forest Forest Forest Forest Forest Forest Forest Forest Forest → Forest
expr_layer (layers.Expr-F.Int token) = tree forms.IntForm (one token)
expr_layer (layers.Expr-F.Rune token) = tree forms.RuneForm (one token)
expr_layer (layers.Expr-F.Text token) = tree forms.TextForm (one token)
expr_layer (layers.Expr-F.Expr::Name token) = tree forms.NameForm (one token)
expr_layer (layers.Expr-F.Expr::Paren «open» inner close) = tree forms.ParenForm (one «open» ⊕ inner.value ⊕ one close)
expr_layer (layers.Expr-F.Expr::Function word signature body) =
    tree forms.LiteralFunctionForm (one word ⊕ signature.value ⊕ body.value)
expr_layer (layers.Expr-F.Expr::TypeForm form) = tree forms.TypeOperandForm (form.value)
expr_layer (layers.Expr-F.Composite form «open» elements close) =
    tree forms.CompositeForm (if_some (λ x. x.value) form ⊕ one «open» ⊕ all elements.items ⊕ one close)
expr_layer (layers.Expr-F.Selector operand dot name) = tree forms.SelectorForm (operand.value ⊕ one dot ⊕ one name)
expr_layer (layers.Expr-F.Assertion operand dot «open» form close) =
    tree forms.AssertionForm (operand.value ⊕ one dot ⊕ one «open» ⊕ form.value ⊕ one close)
expr_layer (layers.Expr-F.Index operand «open» index close) =
    tree forms.IndexForm (operand.value ⊕ one «open» ⊕ index.value ⊕ one close)
expr_layer (layers.Expr-F.Expr::Slice operand «open» low colon high close) =
    tree forms.SliceExprForm (operand.value ⊕ one «open» ⊕ if_some (λ x. x.value) low ⊕ one colon
    ⊕ if_some (λ x. x.value) high ⊕ one close)
expr_layer (layers.Expr-F.FullSlice operand «open» low colon high second_colon max close) =
    tree forms.FullSliceForm (operand.value ⊕ one «open» ⊕ if_some (λ x. x.value) low ⊕ one colon ⊕ high.value
    ⊕ one second_colon ⊕ max.value ⊕ one close)
expr_layer (layers.Expr-F.Call callee «open» arguments ellipsis comma close) =
    tree forms.CallForm (callee.value ⊕ one «open» ⊕ all arguments.items ⊕ token_if ellipsis ⊕ token_if comma
    ⊕ one close)
expr_layer (layers.Expr-F.Unary operator operand) = tree forms.UnaryForm (one operator ⊕ operand.value)
expr_layer (layers.Expr-F.Binary left operator right) = tree forms.BinaryForm (left.value ⊕ one operator ⊕ right.value)

abbrev pub stmt_layer :
    layers.Stmt-F Forest Forest Forest Forest Forest Forest Forest Forest Forest Forest Forest Forest Forest Forest
    Forest Forest Forest Forest Forest Forest Forest Forest Forest Forest → Forest
stmt_layer (layers.Stmt-F.Decl decl) = decl.value
stmt_layer (layers.Stmt-F.Labeled labels stmt) =
    tree forms.LabeledForm (each view_label labels.items ⊕ if_some (λ x. x.value) stmt)
stmt_layer (layers.Stmt-F.Expr expr) = tree forms.ExprForm (expr.value)
stmt_layer (layers.Stmt-F.Send channel arrow value) = tree forms.SendForm (channel.value ⊕ one arrow ⊕ value.value)
stmt_layer (layers.Stmt-F.Step operand operator) = tree forms.StepForm (operand.value ⊕ one operator)
stmt_layer (layers.Stmt-F.Assign targets operator values) =
    tree forms.AssignForm (all targets.items ⊕ one operator ⊕ all values.items)
stmt_layer (layers.Stmt-F.Define targets operator values) =
    tree forms.DefineForm (all targets.items ⊕ one operator ⊕ all values.items)
stmt_layer (layers.Stmt-F.Go word call) = tree forms.GoForm (one word ⊕ call.value)
stmt_layer (layers.Stmt-F.Defer word call) = tree forms.DeferForm (one word ⊕ call.value)
stmt_layer (layers.Stmt-F.Return word results) = tree forms.ReturnForm (one word ⊕ all results.items)
stmt_layer (layers.Stmt-F.Break word label) = tree forms.BreakForm (one word ⊕ token_if label)
stmt_layer (layers.Stmt-F.Continue word label) = tree forms.ContinueForm (one word ⊕ token_if label)
stmt_layer (layers.Stmt-F.Fallthrough token) = tree forms.FallthroughForm (one token)
stmt_layer (layers.Stmt-F.Block block) = block
stmt_layer (layers.Stmt-F.If arms else_word otherwise) =
    tree forms.IfForm (all arms.items ⊕ token_if else_word ⊕ if_some (λ x. x.value) otherwise)
stmt_layer (layers.Stmt-F.Switch stmt) = stmt.value
stmt_layer (layers.Stmt-F.TypeSwitch stmt) = stmt.value
stmt_layer (layers.Stmt-F.Select word «open» clauses close) =
    tree forms.SelectForm (one word ⊕ one «open» ⊕ all clauses.items ⊕ one close)
stmt_layer (layers.Stmt-F.While word condition body) =
    tree forms.WhileForm (one word ⊕ if_some (λ x. x.value) condition ⊕ body.value)
stmt_layer (layers.Stmt-F.For stmt) = stmt.value
stmt_layer (layers.Stmt-F.Range stmt) = stmt.value

abbrev pub element_line_layer :
    layers.ElementLine-F Forest Forest Forest Forest Forest Forest Forest Forest Forest Forest Forest Forest Forest
    Forest Forest Forest Forest Forest Forest Forest Forest Forest Forest Forest → Forest
element_line_layer (layers.ElementLine-F.ElementLine::Empty token) = one token
element_line_layer (layers.ElementLine-F.Method name signature semicolon) =
    tree forms.MethodForm (one name ⊕ signature.value) ⊕ token_if semicolon
element_line_layer (layers.ElementLine-F.ElementLine::Embedded name semicolon) =
    tree forms.EmbeddedElementForm (view_named name) ⊕ token_if semicolon

abbrev pub field_line_layer :
    layers.FieldLine-F Forest Forest Forest Forest Forest Forest Forest Forest Forest Forest Forest Forest Forest Forest
    Forest Forest Forest Forest Forest Forest Forest Forest Forest Forest → Forest
field_line_layer (layers.FieldLine-F.FieldLine::Empty token) = one token
field_line_layer (layers.FieldLine-F.Named names form tag semicolon) =
    tree forms.NamedFieldForm (each view_listed_name names.items ⊕ form.value ⊕ token_if tag) ⊕ token_if semicolon
field_line_layer (layers.FieldLine-F.FieldLine::Embedded star name tag semicolon) =
    tree forms.EmbeddedFieldForm (token_if star ⊕ view_named name ⊕ token_if tag) ⊕ token_if semicolon

abbrev pub result_form_layer :
    layers.ResultForm-F Forest Forest Forest Forest Forest Forest Forest Forest Forest Forest Forest Forest Forest
    Forest Forest Forest Forest Forest Forest Forest Forest Forest Forest Forest → Forest
result_form_layer (layers.ResultForm-F.None) = empty
result_form_layer (layers.ResultForm-F.Params params) = params
result_form_layer (layers.ResultForm-F.ResultForm::TypeForm form) = form.value

abbrev pub type_expr_layer :
    layers.TypeExpr-F Forest Forest Forest Forest Forest Forest Forest Forest Forest Forest Forest Forest Forest Forest
    Forest Forest Forest Forest Forest Forest Forest Forest Forest Forest → Forest
type_expr_layer (layers.TypeExpr-F.TypeExpr::Name name) = view_named name
type_expr_layer (layers.TypeExpr-F.TypeExpr::Paren «open» inner close) =
    tree forms.ParenTypeForm (one «open» ⊕ inner.value ⊕ one close)
type_expr_layer (layers.TypeExpr-F.Pointer star base) = tree forms.PointerForm (one star ⊕ base.value)
type_expr_layer (layers.TypeExpr-F.TypeExpr::Slice «open» close element) =
    tree forms.SliceForm (one «open» ⊕ one close ⊕ element.value)
type_expr_layer (layers.TypeExpr-F.Array «open» length close element) =
    tree forms.ArrayForm (one «open» ⊕ length.value ⊕ one close ⊕ element.value)
type_expr_layer (layers.TypeExpr-F.OpenArray «open» ellipsis close element) =
    tree forms.OpenArrayForm (one «open» ⊕ one ellipsis ⊕ one close ⊕ element.value)
type_expr_layer (layers.TypeExpr-F.Map word «open» key close element) =
    tree forms.MapForm (one word ⊕ one «open» ⊕ key.value ⊕ one close ⊕ element.value)
type_expr_layer (layers.TypeExpr-F.Chan word arrow element) =
    tree forms.ChanForm (one word ⊕ token_if arrow ⊕ element.value)
type_expr_layer (layers.TypeExpr-F.ReceiveChan arrow word element) =
    tree forms.ReceiveChanForm (one arrow ⊕ one word ⊕ element.value)
type_expr_layer (layers.TypeExpr-F.TypeExpr::Function word signature) =
    tree forms.FunctionForm (one word ⊕ signature.value)
type_expr_layer (layers.TypeExpr-F.Struct word «open» fields close) =
    tree forms.StructForm (one word ⊕ one «open» ⊕ all fields.items ⊕ one close)
type_expr_layer (layers.TypeExpr-F.Interface word «open» elements close) =
    tree forms.InterfaceForm (one word ⊕ one «open» ⊕ all elements.items ⊕ one close)

abbrev pub func_decl_layer :
    layers.FuncDecl-F Forest Forest Forest Forest Forest Forest Forest Forest Forest Forest Forest Forest Forest Forest
    Forest Forest Forest Forest Forest Forest Forest Forest Forest Forest → Forest
func_decl_layer x =
    tree forms.FuncForm (one x.word ⊕ if_some (λ x. x) x.receiver ⊕ one x.name ⊕ x.signature ⊕ if_some (λ x. x) x.body)

abbrev pub type_spec_layer :
    layers.TypeSpec-F Forest Forest Forest Forest Forest Forest Forest Forest Forest Forest Forest Forest Forest Forest
    Forest Forest Forest Forest Forest Forest Forest Forest Forest Forest → Forest
type_spec_layer x = tree forms.TypeSpecForm (one x.name ⊕ token_if x.assign ⊕ x.form.value) ⊕ token_if x.semicolon

abbrev pub value_spec_layer :
    layers.ValueSpec-F Forest Forest Forest Forest Forest Forest Forest Forest Forest Forest Forest Forest Forest Forest
    Forest Forest Forest Forest Forest Forest Forest Forest Forest Forest → Forest
value_spec_layer x =
    tree forms.ValueSpecForm (each view_listed_name x.names.items ⊕ if_some (λ x. x.value) x.form ⊕ token_if x.assign
    ⊕ all x.values.items) ⊕ token_if x.semicolon

abbrev pub element_layer :
    layers.Element-F Forest Forest Forest Forest Forest Forest Forest Forest Forest Forest Forest Forest Forest Forest
    Forest Forest Forest Forest Forest Forest Forest Forest Forest Forest → Forest
element_layer x =
    tree forms.ElementForm (if_some (λ x. x.value) x.key ⊕ token_if x.colon ⊕ x.value.value) ⊕ token_if x.comma

abbrev pub listed_expr_layer :
    layers.ListedExpr-F Forest Forest Forest Forest Forest Forest Forest Forest Forest Forest Forest Forest Forest
    Forest Forest Forest Forest Forest Forest Forest Forest Forest Forest Forest → Forest
listed_expr_layer x = x.expr.value ⊕ token_if x.comma

abbrev pub block_layer :
    layers.Block-F Forest Forest Forest Forest Forest Forest Forest Forest Forest Forest Forest Forest Forest Forest
    Forest Forest Forest Forest Forest Forest Forest Forest Forest Forest → Forest
block_layer x = tree forms.BlockForm (one x.«open» ⊕ all x.statements.items ⊕ one x.close)

abbrev pub case_clause_layer :
    layers.CaseClause-F Forest Forest Forest Forest Forest Forest Forest Forest Forest Forest Forest Forest Forest
    Forest Forest Forest Forest Forest Forest Forest Forest Forest Forest Forest → Forest
case_clause_layer x = tree forms.CaseClauseForm (one x.word ⊕ all x.items.items ⊕ one x.colon ⊕ all x.statements.items)

abbrev pub comm_clause_layer :
    layers.CommClause-F Forest Forest Forest Forest Forest Forest Forest Forest Forest Forest Forest Forest Forest
    Forest Forest Forest Forest Forest Forest Forest Forest Forest Forest Forest → Forest
comm_clause_layer x =
    tree forms.CommClauseForm (one x.word ⊕ if_some (λ x. x.value) x.comm ⊕ one x.colon ⊕ all x.statements.items)

abbrev pub for_stmt_layer :
    layers.ForStmt-F Forest Forest Forest Forest Forest Forest Forest Forest Forest Forest Forest Forest Forest Forest
    Forest Forest Forest Forest Forest Forest Forest Forest Forest Forest → Forest
for_stmt_layer x =
    tree forms.ForForm (one x.word ⊕ if_some (λ x. x.value) x.init ⊕ one x.first ⊕ if_some (λ x. x.value) x.condition
    ⊕ one x.second ⊕ if_some (λ x. x.value) x.post ⊕ x.body)

abbrev pub if_arm_layer :
    layers.IfArm-F Forest Forest Forest Forest Forest Forest Forest Forest Forest Forest Forest Forest Forest Forest
    Forest Forest Forest Forest Forest Forest Forest Forest Forest Forest → Forest
if_arm_layer x =
    tree forms.ArmForm (token_if x.else_word ⊕ one x.word ⊕ if_some (λ x. x.value) x.init ⊕ token_if x.semicolon
    ⊕ x.condition.value ⊕ x.body)

abbrev pub range_stmt_layer :
    layers.RangeStmt-F Forest Forest Forest Forest Forest Forest Forest Forest Forest Forest Forest Forest Forest Forest
    Forest Forest Forest Forest Forest Forest Forest Forest Forest Forest → Forest
range_stmt_layer x =
    tree forms.RangeForm (one x.word ⊕ all x.targets.items ⊕ token_if x.operator ⊕ one x.range ⊕ x.operand.value
    ⊕ x.body)

abbrev pub stmt_line_layer :
    layers.StmtLine-F Forest Forest Forest Forest Forest Forest Forest Forest Forest Forest Forest Forest Forest Forest
    Forest Forest Forest Forest Forest Forest Forest Forest Forest Forest → Forest
stmt_line_layer x = tree forms.LineForm (if_some (λ x. x.value) x.stmt ⊕ token_if x.semicolon)

abbrev pub switch_stmt_layer :
    layers.SwitchStmt-F Forest Forest Forest Forest Forest Forest Forest Forest Forest Forest Forest Forest Forest
    Forest Forest Forest Forest Forest Forest Forest Forest Forest Forest Forest → Forest
switch_stmt_layer x =
    tree forms.SwitchForm (one x.word ⊕ if_some (λ x. x.value) x.init ⊕ token_if x.semicolon
    ⊕ if_some (λ x. x.value) x.tag ⊕ one x.«open» ⊕ all x.clauses.items ⊕ one x.close)

abbrev pub type_switch_stmt_layer :
    layers.TypeSwitchStmt-F Forest Forest Forest Forest Forest Forest Forest Forest Forest Forest Forest Forest Forest
    Forest Forest Forest Forest Forest Forest Forest Forest Forest Forest Forest → Forest
type_switch_stmt_layer x =
    tree forms.TypeSwitchForm (one x.word ⊕ if_some (λ x. x.value) x.init ⊕ token_if x.semicolon
    ⊕ if_some view_binding x.binding ⊕ x.operand.value ⊕ one x.dot ⊕ one x.open_paren ⊕ one x.type_word
    ⊕ one x.close_paren ⊕ one x.«open» ⊕ all x.clauses.items ⊕ one x.close)

abbrev pub param_layer :
    layers.Param-F Forest Forest Forest Forest Forest Forest Forest Forest Forest Forest Forest Forest Forest Forest
    Forest Forest Forest Forest Forest Forest Forest Forest Forest Forest → Forest
param_layer x =
    tree forms.ParamForm (each view_listed_name x.names.items ⊕ token_if x.ellipsis ⊕ x.form.value) ⊕ token_if x.comma

abbrev pub params_layer :
    layers.Params-F Forest Forest Forest Forest Forest Forest Forest Forest Forest Forest Forest Forest Forest Forest
    Forest Forest Forest Forest Forest Forest Forest Forest Forest Forest → Forest
params_layer x = tree forms.ParamsForm (one x.«open» ⊕ all x.params.items ⊕ one x.close)

abbrev pub signature_layer :
    layers.Signature-F Forest Forest Forest Forest Forest Forest Forest Forest Forest Forest Forest Forest Forest Forest
    Forest Forest Forest Forest Forest Forest Forest Forest Forest Forest → Forest
signature_layer x = tree forms.SignatureForm (x.params ⊕ x.result)

-- ---- whole trees

unfoldable pub view_decl : Decl → Forest
view_decl =
    fold-Decl Forest Forest Forest Forest Forest Forest Forest Forest Forest Forest Forest Forest Forest Forest Forest
    Forest Forest Forest Forest Forest Forest Forest Forest Forest
    decl_layer expr_layer stmt_layer element_line_layer field_line_layer result_form_layer type_expr_layer
    func_decl_layer type_spec_layer value_spec_layer element_layer listed_expr_layer block_layer case_clause_layer
    comm_clause_layer for_stmt_layer if_arm_layer range_stmt_layer stmt_line_layer switch_stmt_layer
    type_switch_stmt_layer param_layer params_layer signature_layer

unfoldable pub view_expr : Expr → Forest
view_expr =
    fold-Expr Forest Forest Forest Forest Forest Forest Forest Forest Forest Forest Forest Forest Forest Forest Forest
    Forest Forest Forest Forest Forest Forest Forest Forest Forest
    decl_layer expr_layer stmt_layer element_line_layer field_line_layer result_form_layer type_expr_layer
    func_decl_layer type_spec_layer value_spec_layer element_layer listed_expr_layer block_layer case_clause_layer
    comm_clause_layer for_stmt_layer if_arm_layer range_stmt_layer stmt_line_layer switch_stmt_layer
    type_switch_stmt_layer param_layer params_layer signature_layer

unfoldable pub view_stmt : Stmt → Forest
view_stmt =
    fold-Stmt Forest Forest Forest Forest Forest Forest Forest Forest Forest Forest Forest Forest Forest Forest Forest
    Forest Forest Forest Forest Forest Forest Forest Forest Forest
    decl_layer expr_layer stmt_layer element_line_layer field_line_layer result_form_layer type_expr_layer
    func_decl_layer type_spec_layer value_spec_layer element_layer listed_expr_layer block_layer case_clause_layer
    comm_clause_layer for_stmt_layer if_arm_layer range_stmt_layer stmt_line_layer switch_stmt_layer
    type_switch_stmt_layer param_layer params_layer signature_layer

unfoldable pub view_element_line : ElementLine → Forest
view_element_line =
    fold-ElementLine Forest Forest Forest Forest Forest Forest Forest Forest Forest Forest Forest Forest Forest Forest
    Forest Forest Forest Forest Forest Forest Forest Forest Forest Forest
    decl_layer expr_layer stmt_layer element_line_layer field_line_layer result_form_layer type_expr_layer
    func_decl_layer type_spec_layer value_spec_layer element_layer listed_expr_layer block_layer case_clause_layer
    comm_clause_layer for_stmt_layer if_arm_layer range_stmt_layer stmt_line_layer switch_stmt_layer
    type_switch_stmt_layer param_layer params_layer signature_layer

unfoldable pub view_field_line : FieldLine → Forest
view_field_line =
    fold-FieldLine Forest Forest Forest Forest Forest Forest Forest Forest Forest Forest Forest Forest Forest Forest
    Forest Forest Forest Forest Forest Forest Forest Forest Forest Forest
    decl_layer expr_layer stmt_layer element_line_layer field_line_layer result_form_layer type_expr_layer
    func_decl_layer type_spec_layer value_spec_layer element_layer listed_expr_layer block_layer case_clause_layer
    comm_clause_layer for_stmt_layer if_arm_layer range_stmt_layer stmt_line_layer switch_stmt_layer
    type_switch_stmt_layer param_layer params_layer signature_layer

unfoldable pub view_result_form : ResultForm → Forest
view_result_form =
    fold-ResultForm Forest Forest Forest Forest Forest Forest Forest Forest Forest Forest Forest Forest Forest Forest
    Forest Forest Forest Forest Forest Forest Forest Forest Forest Forest
    decl_layer expr_layer stmt_layer element_line_layer field_line_layer result_form_layer type_expr_layer
    func_decl_layer type_spec_layer value_spec_layer element_layer listed_expr_layer block_layer case_clause_layer
    comm_clause_layer for_stmt_layer if_arm_layer range_stmt_layer stmt_line_layer switch_stmt_layer
    type_switch_stmt_layer param_layer params_layer signature_layer

unfoldable pub view_type_expr : TypeExpr → Forest
view_type_expr =
    fold-TypeExpr Forest Forest Forest Forest Forest Forest Forest Forest Forest Forest Forest Forest Forest Forest
    Forest Forest Forest Forest Forest Forest Forest Forest Forest Forest
    decl_layer expr_layer stmt_layer element_line_layer field_line_layer result_form_layer type_expr_layer
    func_decl_layer type_spec_layer value_spec_layer element_layer listed_expr_layer block_layer case_clause_layer
    comm_clause_layer for_stmt_layer if_arm_layer range_stmt_layer stmt_line_layer switch_stmt_layer
    type_switch_stmt_layer param_layer params_layer signature_layer

unfoldable pub view_func_decl : FuncDecl → Forest
view_func_decl =
    fold-FuncDecl Forest Forest Forest Forest Forest Forest Forest Forest Forest Forest Forest Forest Forest Forest
    Forest Forest Forest Forest Forest Forest Forest Forest Forest Forest
    decl_layer expr_layer stmt_layer element_line_layer field_line_layer result_form_layer type_expr_layer
    func_decl_layer type_spec_layer value_spec_layer element_layer listed_expr_layer block_layer case_clause_layer
    comm_clause_layer for_stmt_layer if_arm_layer range_stmt_layer stmt_line_layer switch_stmt_layer
    type_switch_stmt_layer param_layer params_layer signature_layer

unfoldable pub view_type_spec : TypeSpec → Forest
view_type_spec =
    fold-TypeSpec Forest Forest Forest Forest Forest Forest Forest Forest Forest Forest Forest Forest Forest Forest
    Forest Forest Forest Forest Forest Forest Forest Forest Forest Forest
    decl_layer expr_layer stmt_layer element_line_layer field_line_layer result_form_layer type_expr_layer
    func_decl_layer type_spec_layer value_spec_layer element_layer listed_expr_layer block_layer case_clause_layer
    comm_clause_layer for_stmt_layer if_arm_layer range_stmt_layer stmt_line_layer switch_stmt_layer
    type_switch_stmt_layer param_layer params_layer signature_layer

unfoldable pub view_value_spec : ValueSpec → Forest
view_value_spec =
    fold-ValueSpec Forest Forest Forest Forest Forest Forest Forest Forest Forest Forest Forest Forest Forest Forest
    Forest Forest Forest Forest Forest Forest Forest Forest Forest Forest
    decl_layer expr_layer stmt_layer element_line_layer field_line_layer result_form_layer type_expr_layer
    func_decl_layer type_spec_layer value_spec_layer element_layer listed_expr_layer block_layer case_clause_layer
    comm_clause_layer for_stmt_layer if_arm_layer range_stmt_layer stmt_line_layer switch_stmt_layer
    type_switch_stmt_layer param_layer params_layer signature_layer

unfoldable pub view_element : Element → Forest
view_element =
    fold-Element Forest Forest Forest Forest Forest Forest Forest Forest Forest Forest Forest Forest Forest Forest
    Forest Forest Forest Forest Forest Forest Forest Forest Forest Forest
    decl_layer expr_layer stmt_layer element_line_layer field_line_layer result_form_layer type_expr_layer
    func_decl_layer type_spec_layer value_spec_layer element_layer listed_expr_layer block_layer case_clause_layer
    comm_clause_layer for_stmt_layer if_arm_layer range_stmt_layer stmt_line_layer switch_stmt_layer
    type_switch_stmt_layer param_layer params_layer signature_layer

unfoldable pub view_listed_expr : ListedExpr → Forest
view_listed_expr =
    fold-ListedExpr Forest Forest Forest Forest Forest Forest Forest Forest Forest Forest Forest Forest Forest Forest
    Forest Forest Forest Forest Forest Forest Forest Forest Forest Forest
    decl_layer expr_layer stmt_layer element_line_layer field_line_layer result_form_layer type_expr_layer
    func_decl_layer type_spec_layer value_spec_layer element_layer listed_expr_layer block_layer case_clause_layer
    comm_clause_layer for_stmt_layer if_arm_layer range_stmt_layer stmt_line_layer switch_stmt_layer
    type_switch_stmt_layer param_layer params_layer signature_layer

unfoldable pub view_block : Block → Forest
view_block =
    fold-Block Forest Forest Forest Forest Forest Forest Forest Forest Forest Forest Forest Forest Forest Forest Forest
    Forest Forest Forest Forest Forest Forest Forest Forest Forest
    decl_layer expr_layer stmt_layer element_line_layer field_line_layer result_form_layer type_expr_layer
    func_decl_layer type_spec_layer value_spec_layer element_layer listed_expr_layer block_layer case_clause_layer
    comm_clause_layer for_stmt_layer if_arm_layer range_stmt_layer stmt_line_layer switch_stmt_layer
    type_switch_stmt_layer param_layer params_layer signature_layer

unfoldable pub view_case_clause : CaseClause → Forest
view_case_clause =
    fold-CaseClause Forest Forest Forest Forest Forest Forest Forest Forest Forest Forest Forest Forest Forest Forest
    Forest Forest Forest Forest Forest Forest Forest Forest Forest Forest
    decl_layer expr_layer stmt_layer element_line_layer field_line_layer result_form_layer type_expr_layer
    func_decl_layer type_spec_layer value_spec_layer element_layer listed_expr_layer block_layer case_clause_layer
    comm_clause_layer for_stmt_layer if_arm_layer range_stmt_layer stmt_line_layer switch_stmt_layer
    type_switch_stmt_layer param_layer params_layer signature_layer

unfoldable pub view_comm_clause : CommClause → Forest
view_comm_clause =
    fold-CommClause Forest Forest Forest Forest Forest Forest Forest Forest Forest Forest Forest Forest Forest Forest
    Forest Forest Forest Forest Forest Forest Forest Forest Forest Forest
    decl_layer expr_layer stmt_layer element_line_layer field_line_layer result_form_layer type_expr_layer
    func_decl_layer type_spec_layer value_spec_layer element_layer listed_expr_layer block_layer case_clause_layer
    comm_clause_layer for_stmt_layer if_arm_layer range_stmt_layer stmt_line_layer switch_stmt_layer
    type_switch_stmt_layer param_layer params_layer signature_layer

unfoldable pub view_for_stmt : ForStmt → Forest
view_for_stmt =
    fold-ForStmt Forest Forest Forest Forest Forest Forest Forest Forest Forest Forest Forest Forest Forest Forest
    Forest Forest Forest Forest Forest Forest Forest Forest Forest Forest
    decl_layer expr_layer stmt_layer element_line_layer field_line_layer result_form_layer type_expr_layer
    func_decl_layer type_spec_layer value_spec_layer element_layer listed_expr_layer block_layer case_clause_layer
    comm_clause_layer for_stmt_layer if_arm_layer range_stmt_layer stmt_line_layer switch_stmt_layer
    type_switch_stmt_layer param_layer params_layer signature_layer

unfoldable pub view_if_arm : IfArm → Forest
view_if_arm =
    fold-IfArm Forest Forest Forest Forest Forest Forest Forest Forest Forest Forest Forest Forest Forest Forest Forest
    Forest Forest Forest Forest Forest Forest Forest Forest Forest
    decl_layer expr_layer stmt_layer element_line_layer field_line_layer result_form_layer type_expr_layer
    func_decl_layer type_spec_layer value_spec_layer element_layer listed_expr_layer block_layer case_clause_layer
    comm_clause_layer for_stmt_layer if_arm_layer range_stmt_layer stmt_line_layer switch_stmt_layer
    type_switch_stmt_layer param_layer params_layer signature_layer

unfoldable pub view_range_stmt : RangeStmt → Forest
view_range_stmt =
    fold-RangeStmt Forest Forest Forest Forest Forest Forest Forest Forest Forest Forest Forest Forest Forest Forest
    Forest Forest Forest Forest Forest Forest Forest Forest Forest Forest
    decl_layer expr_layer stmt_layer element_line_layer field_line_layer result_form_layer type_expr_layer
    func_decl_layer type_spec_layer value_spec_layer element_layer listed_expr_layer block_layer case_clause_layer
    comm_clause_layer for_stmt_layer if_arm_layer range_stmt_layer stmt_line_layer switch_stmt_layer
    type_switch_stmt_layer param_layer params_layer signature_layer

unfoldable pub view_stmt_line : StmtLine → Forest
view_stmt_line =
    fold-StmtLine Forest Forest Forest Forest Forest Forest Forest Forest Forest Forest Forest Forest Forest Forest
    Forest Forest Forest Forest Forest Forest Forest Forest Forest Forest
    decl_layer expr_layer stmt_layer element_line_layer field_line_layer result_form_layer type_expr_layer
    func_decl_layer type_spec_layer value_spec_layer element_layer listed_expr_layer block_layer case_clause_layer
    comm_clause_layer for_stmt_layer if_arm_layer range_stmt_layer stmt_line_layer switch_stmt_layer
    type_switch_stmt_layer param_layer params_layer signature_layer

unfoldable pub view_switch_stmt : SwitchStmt → Forest
view_switch_stmt =
    fold-SwitchStmt Forest Forest Forest Forest Forest Forest Forest Forest Forest Forest Forest Forest Forest Forest
    Forest Forest Forest Forest Forest Forest Forest Forest Forest Forest
    decl_layer expr_layer stmt_layer element_line_layer field_line_layer result_form_layer type_expr_layer
    func_decl_layer type_spec_layer value_spec_layer element_layer listed_expr_layer block_layer case_clause_layer
    comm_clause_layer for_stmt_layer if_arm_layer range_stmt_layer stmt_line_layer switch_stmt_layer
    type_switch_stmt_layer param_layer params_layer signature_layer

unfoldable pub view_type_switch_stmt : TypeSwitchStmt → Forest
view_type_switch_stmt =
    fold-TypeSwitchStmt Forest Forest Forest Forest Forest Forest Forest Forest Forest Forest Forest Forest Forest
    Forest Forest Forest Forest Forest Forest Forest Forest Forest Forest Forest
    decl_layer expr_layer stmt_layer element_line_layer field_line_layer result_form_layer type_expr_layer
    func_decl_layer type_spec_layer value_spec_layer element_layer listed_expr_layer block_layer case_clause_layer
    comm_clause_layer for_stmt_layer if_arm_layer range_stmt_layer stmt_line_layer switch_stmt_layer
    type_switch_stmt_layer param_layer params_layer signature_layer

unfoldable pub view_param : Param → Forest
view_param =
    fold-Param Forest Forest Forest Forest Forest Forest Forest Forest Forest Forest Forest Forest Forest Forest Forest
    Forest Forest Forest Forest Forest Forest Forest Forest Forest
    decl_layer expr_layer stmt_layer element_line_layer field_line_layer result_form_layer type_expr_layer
    func_decl_layer type_spec_layer value_spec_layer element_layer listed_expr_layer block_layer case_clause_layer
    comm_clause_layer for_stmt_layer if_arm_layer range_stmt_layer stmt_line_layer switch_stmt_layer
    type_switch_stmt_layer param_layer params_layer signature_layer

unfoldable pub view_params : Params → Forest
view_params =
    fold-Params Forest Forest Forest Forest Forest Forest Forest Forest Forest Forest Forest Forest Forest Forest Forest
    Forest Forest Forest Forest Forest Forest Forest Forest Forest
    decl_layer expr_layer stmt_layer element_line_layer field_line_layer result_form_layer type_expr_layer
    func_decl_layer type_spec_layer value_spec_layer element_layer listed_expr_layer block_layer case_clause_layer
    comm_clause_layer for_stmt_layer if_arm_layer range_stmt_layer stmt_line_layer switch_stmt_layer
    type_switch_stmt_layer param_layer params_layer signature_layer

unfoldable pub view_signature : Signature → Forest
view_signature =
    fold-Signature Forest Forest Forest Forest Forest Forest Forest Forest Forest Forest Forest Forest Forest Forest
    Forest Forest Forest Forest Forest Forest Forest Forest Forest Forest
    decl_layer expr_layer stmt_layer element_line_layer field_line_layer result_form_layer type_expr_layer
    func_decl_layer type_spec_layer value_spec_layer element_layer listed_expr_layer block_layer case_clause_layer
    comm_clause_layer for_stmt_layer if_arm_layer range_stmt_layer stmt_line_layer switch_stmt_layer
    type_switch_stmt_layer param_layer params_layer signature_layer

abbrev pub view_line : DeclLine → Forest
view_line x = view_decl x.decl ⊕ one x.semicolon

abbrev pub view_file : FileTree → Forest
view_file x =
    tree forms.FileForm (one x.word ⊕ one x.name ⊕ one x.semicolon ⊕ each view_import x.imports.items
    ⊕ each view_line x.decls.items)
