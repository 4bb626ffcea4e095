-- The trees of the parser without where they lie in memory: forests in which each token has the field that it stands
-- in. A token is left out where its field is none; what stands in a list stands side by side.
use Rattle.std.specs.Prelude.{List, [], ◌∷◌, Option, Some, None}
use Rattle.go_ast.specs.declared.token.Token.{Token}
use Rattle.go_syntax.specs.declared.decls.Decl.{Decl}
use Rattle.go_syntax.specs.declared.decls.DeclLine.{DeclLine}
use Rattle.go_syntax.specs.declared.decls.FileTree.{FileTree}
use Rattle.go_syntax.specs.declared.decls.ImportDecl.{ImportDecl}
use Rattle.go_syntax.specs.declared.decls.ImportSpec.{ImportSpec}
use Rattle.go_syntax.specs.declared.stmts.Binding.{Binding}
use Rattle.go_syntax.specs.declared.stmts.Label.{Label}
use Rattle.go_syntax.specs.declared.type_exprs.ListedName.{ListedName}
use Rattle.go_syntax.specs.declared.type_exprs.NamedType.{NamedType}
use Rattle.go_syntax.specs.declared.type_exprs.NamedType.TheVariants as named
use Rattle.go_syntax.specs.declared.decls.Decl.TheOpen as layers
use Rattle.go_syntax.specs.declared.exprs.Expr.{Expr}
use Rattle.go_syntax.specs.declared.stmts.Stmt.{Stmt}
use Rattle.go_syntax.specs.declared.type_exprs.ElementLine.{ElementLine}
use Rattle.go_syntax.specs.declared.type_exprs.FieldLine.{FieldLine}
use Rattle.go_syntax.specs.declared.type_exprs.ResultForm.{ResultForm}
use Rattle.go_syntax.specs.declared.type_exprs.TypeExpr.{TypeExpr}
use Rattle.go_syntax.specs.declared.decls.FuncDecl.{FuncDecl}
use Rattle.go_syntax.specs.declared.decls.TypeSpec.{TypeSpec}
use Rattle.go_syntax.specs.declared.decls.ValueSpec.{ValueSpec}
use Rattle.go_syntax.specs.declared.exprs.Element.{Element}
use Rattle.go_syntax.specs.declared.exprs.ListedExpr.{ListedExpr}
use Rattle.go_syntax.specs.declared.stmts.Block.{Block}
use Rattle.go_syntax.specs.declared.stmts.CaseClause.{CaseClause}
use Rattle.go_syntax.specs.declared.stmts.CommClause.{CommClause}
use Rattle.go_syntax.specs.declared.stmts.ForStmt.{ForStmt}
use Rattle.go_syntax.specs.declared.stmts.IfArm.{IfArm}
use Rattle.go_syntax.specs.declared.stmts.RangeStmt.{RangeStmt}
use Rattle.go_syntax.specs.declared.stmts.StmtLine.{StmtLine}
use Rattle.go_syntax.specs.declared.stmts.SwitchStmt.{SwitchStmt}
use Rattle.go_syntax.specs.declared.stmts.TypeSwitchStmt.{TypeSwitchStmt}
use Rattle.go_syntax.specs.declared.type_exprs.Param.{Param}
use Rattle.go_syntax.specs.declared.type_exprs.Params.{Params}
use Rattle.go_syntax.specs.declared.type_exprs.Signature.{Signature}
use Rattle.go_syntax.specs.declared.decls.Decl.TheFolds.{fold-Decl, fold-Expr, fold-Stmt, fold-ElementLine}
use Rattle.go_syntax.specs.declared.decls.Decl.TheFolds.{fold-FieldLine, fold-ResultForm, fold-TypeExpr, fold-FuncDecl}
use Rattle.go_syntax.specs.declared.decls.Decl.TheFolds.{fold-TypeSpec, fold-ValueSpec, fold-Element, fold-ListedExpr}
use Rattle.go_syntax.specs.declared.decls.Decl.TheFolds.{fold-Block, fold-CaseClause, fold-CommClause, fold-ForStmt}
use Rattle.go_syntax.specs.declared.decls.Decl.TheFolds.{fold-IfArm, fold-RangeStmt, fold-StmtLine, fold-SwitchStmt}
use Rattle.go_syntax.specs.declared.decls.Decl.TheFolds.{fold-TypeSwitchStmt, fold-Param, fold-Params, fold-Signature}
use Rattle.go_grammar.specs.Forests as forms
use Rattle.go_grammar.specs.Forests.{Form, Forest}

-- The fields of tokens. Where a node has two fields of one name, both are there in each tree, and come in order: the
-- names around a dot, the colons of a full slice, the semicolons of a `for` with clauses.
pub data Field : Type 0 where
  Arrow Assign Close CloseParen Colon Comma Define Dot Ellipsis ElseWord LastComma Name Open OpenParen
      Only Operator Path Range Semicolon Star Tag Target TypeWord Word : Field

-- trees side by side: a token with its field, or a node with what is below it, and what stands behind
pub data Marked : Type 0 where
  empty : Marked
  leaf : (field : Field) (token : Token) (behind : Marked) → Marked
  node : (form : Form) (below behind : Marked) → Marked

abbrev pub append : Marked → Marked → Marked
append empty right = right
append (leaf field token behind) right = leaf field token (append behind right)
append (node form below behind) right = node form below (append behind right)

-- the same without the fields
abbrev pub forget : Marked → Forest
forget empty = forms.empty
forget (leaf field token behind) = forms.leaf token (forget behind)
forget (node form below behind) = forms.node form (forget below) (forget behind)

infixr 30 ◌⊕◌
abbrev pub ◌⊕◌ : Marked → Marked → Marked
left ⊕ right = append left right

abbrev pub one : Field → Token → Marked
one field token = leaf field token empty

abbrev pub tree : Form → Marked → Marked
tree form below = node form below empty

abbrev pub if_some : {A : Type 0} → (A → Marked) → Option A → Marked
if_some view None = empty
if_some view (Some x) = view x

abbrev pub each : {A : Type 0} → (A → Marked) → List A → Marked
each view [] = empty
each view (x ∷ xs) = view x ⊕ each view xs

abbrev pub all : List Marked → Marked
all trees = each (λ tree. tree) trees

abbrev pub token_if : Field → Option Token → Marked
token_if field token = if_some (one field) token

-- ---- what holds no tree

abbrev pub fields_of_named : NamedType → Marked
fields_of_named (named.Local name) = tree forms.TypeNameForm (one Name name)
fields_of_named (named.Imported package_name dot name) =
    tree forms.TypeNameForm (one Name package_name ⊕ one Dot dot ⊕ one Name name)

abbrev pub fields_of_listed_name : ListedName → Marked
fields_of_listed_name x = one Name x.name ⊕ token_if Comma x.comma

abbrev pub fields_of_label : Label → Marked
fields_of_label x = one Name x.name ⊕ one Colon x.colon

abbrev pub fields_of_binding : Binding → Marked
fields_of_binding x = one Name x.name ⊕ one Define x.define

abbrev pub fields_of_import_spec : ImportSpec → Marked
fields_of_import_spec x =
    tree forms.ImportSpecForm (token_if Name x.name ⊕ one Path x.path) ⊕ token_if Semicolon x.semicolon

abbrev pub fields_of_import : ImportDecl → Marked
fields_of_import x =
    tree forms.ImportForm (one Word x.word ⊕ token_if Open x.«open» ⊕ each fields_of_import_spec x.specs.items
    ⊕ token_if Close x.close)
    ⊕ one Semicolon x.semicolon

-- ---- one layer of each tree, where what is below it is seen already

abbrev pub decl_layer :
    layers.Decl-F Marked Marked Marked Marked Marked Marked Marked Marked Marked Marked Marked Marked Marked Marked
    Marked Marked Marked Marked Marked Marked Marked Marked Marked Marked → Marked
decl_layer (layers.Decl-F.Const word «open» specs close) =
    tree forms.ConstForm (one Word word ⊕ token_if Open «open» ⊕ all specs.items ⊕ token_if Close close)
decl_layer (layers.Decl-F.TypeDecl word «open» specs close) =
    tree forms.TypeDeclForm (one Word word ⊕ token_if Open «open» ⊕ all specs.items ⊕ token_if Close close)
decl_layer (layers.Decl-F.Var word «open» specs close) =
    tree forms.VarForm (one Word word ⊕ token_if Open «open» ⊕ all specs.items ⊕ token_if Close close)
decl_layer (layers.Decl-F.Func decl) = decl.value

abbrev pub expr_layer :
    layers.Expr-F Marked Marked Marked Marked Marked Marked Marked Marked Marked Marked Marked Marked Marked Marked
    Marked Marked Marked Marked Marked Marked Marked Marked Marked Marked → Marked
expr_layer (layers.Expr-F.Int token) = tree forms.IntForm (one Only token)
expr_layer (layers.Expr-F.Rune token) = tree forms.RuneForm (one Only token)
expr_layer (layers.Expr-F.Text token) = tree forms.TextForm (one Only token)
expr_layer (layers.Expr-F.Expr::Name token) = tree forms.NameForm (one Only token)
expr_layer (layers.Expr-F.Expr::Paren «open» inner close) =
    tree forms.ParenForm (one Open «open» ⊕ inner.value ⊕ one Close close)
expr_layer (layers.Expr-F.Expr::Function word signature body) =
    tree forms.LiteralFunctionForm (one Word word ⊕ signature.value ⊕ body.value)
expr_layer (layers.Expr-F.Expr::TypeForm form) = tree forms.TypeOperandForm (form.value)
expr_layer (layers.Expr-F.Composite form «open» elements close) =
    tree forms.CompositeForm (if_some (λ x. x.value) form ⊕ one Open «open» ⊕ all elements.items ⊕ one Close close)
expr_layer (layers.Expr-F.Selector operand dot name) =
    tree forms.SelectorForm (operand.value ⊕ one Dot dot ⊕ one Name name)
expr_layer (layers.Expr-F.Assertion operand dot «open» form close) =
    tree forms.AssertionForm (operand.value ⊕ one Dot dot ⊕ one Open «open» ⊕ form.value ⊕ one Close close)
expr_layer (layers.Expr-F.Index operand «open» index close) =
    tree forms.IndexForm (operand.value ⊕ one Open «open» ⊕ index.value ⊕ one Close close)
expr_layer (layers.Expr-F.Expr::Slice operand «open» low colon high close) =
    tree forms.SliceExprForm (operand.value ⊕ one Open «open» ⊕ if_some (λ x. x.value) low ⊕ one Colon colon
    ⊕ if_some (λ x. x.value) high ⊕ one Close close)
expr_layer (layers.Expr-F.FullSlice operand «open» low colon high second_colon max close) =
    tree forms.FullSliceForm (operand.value ⊕ one Open «open» ⊕ if_some (λ x. x.value) low ⊕ one Colon colon
    ⊕ high.value
    ⊕ one Colon second_colon ⊕ max.value ⊕ one Close close)
expr_layer (layers.Expr-F.Call callee «open» arguments ellipsis comma close) =
    tree forms.CallForm (callee.value ⊕ one Open «open» ⊕ all arguments.items ⊕ token_if Ellipsis ellipsis
    ⊕ token_if LastComma comma
    ⊕ one Close close)
expr_layer (layers.Expr-F.Unary operator operand) = tree forms.UnaryForm (one Operator operator ⊕ operand.value)
expr_layer (layers.Expr-F.Binary left operator right) =
    tree forms.BinaryForm (left.value ⊕ one Operator operator ⊕ right.value)

abbrev pub stmt_layer :
    layers.Stmt-F Marked Marked Marked Marked Marked Marked Marked Marked Marked Marked Marked Marked Marked Marked
    Marked Marked Marked Marked Marked Marked Marked Marked Marked Marked → Marked
stmt_layer (layers.Stmt-F.Decl decl) = decl.value
stmt_layer (layers.Stmt-F.Labeled labels stmt) =
    tree forms.LabeledForm (each fields_of_label labels.items ⊕ if_some (λ x. x.value) stmt)
stmt_layer (layers.Stmt-F.Expr expr) = tree forms.ExprForm (expr.value)
stmt_layer (layers.Stmt-F.Send channel arrow value) =
    tree forms.SendForm (channel.value ⊕ one Arrow arrow ⊕ value.value)
stmt_layer (layers.Stmt-F.Step operand operator) = tree forms.StepForm (operand.value ⊕ one Operator operator)
stmt_layer (layers.Stmt-F.Assign targets operator values) =
    tree forms.AssignForm (all targets.items ⊕ one Operator operator ⊕ all values.items)
stmt_layer (layers.Stmt-F.Define targets operator values) =
    tree forms.DefineForm (all targets.items ⊕ one Operator operator ⊕ all values.items)
stmt_layer (layers.Stmt-F.Go word call) = tree forms.GoForm (one Word word ⊕ call.value)
stmt_layer (layers.Stmt-F.Defer word call) = tree forms.DeferForm (one Word word ⊕ call.value)
stmt_layer (layers.Stmt-F.Return word results) = tree forms.ReturnForm (one Word word ⊕ all results.items)
stmt_layer (layers.Stmt-F.Break word label) = tree forms.BreakForm (one Word word ⊕ token_if Target label)
stmt_layer (layers.Stmt-F.Continue word label) = tree forms.ContinueForm (one Word word ⊕ token_if Target label)
stmt_layer (layers.Stmt-F.Fallthrough token) = tree forms.FallthroughForm (one Only token)
stmt_layer (layers.Stmt-F.Block block) = block
stmt_layer (layers.Stmt-F.If arms else_word otherwise) =
    tree forms.IfForm (all arms.items ⊕ token_if ElseWord else_word ⊕ if_some (λ x. x.value) otherwise)
stmt_layer (layers.Stmt-F.Switch stmt) = stmt.value
stmt_layer (layers.Stmt-F.TypeSwitch stmt) = stmt.value
stmt_layer (layers.Stmt-F.Select word «open» clauses close) =
    tree forms.SelectForm (one Word word ⊕ one Open «open» ⊕ all clauses.items ⊕ one Close close)
stmt_layer (layers.Stmt-F.While word condition body) =
    tree forms.WhileForm (one Word word ⊕ if_some (λ x. x.value) condition ⊕ body.value)
stmt_layer (layers.Stmt-F.For stmt) = stmt.value
stmt_layer (layers.Stmt-F.Range stmt) = stmt.value

abbrev pub element_line_layer :
    layers.ElementLine-F Marked Marked Marked Marked Marked Marked Marked Marked Marked Marked Marked Marked Marked
    Marked Marked Marked Marked Marked Marked Marked Marked Marked Marked Marked → Marked
element_line_layer (layers.ElementLine-F.ElementLine::Empty token) = one Only token
element_line_layer (layers.ElementLine-F.Method name signature semicolon) =
    tree forms.MethodForm (one Name name ⊕ signature.value) ⊕ token_if Semicolon semicolon
element_line_layer (layers.ElementLine-F.ElementLine::Embedded name semicolon) =
    tree forms.EmbeddedElementForm (fields_of_named name) ⊕ token_if Semicolon semicolon

abbrev pub field_line_layer :
    layers.FieldLine-F Marked Marked Marked Marked Marked Marked Marked Marked Marked Marked Marked Marked Marked Marked
    Marked Marked Marked Marked Marked Marked Marked Marked Marked Marked → Marked
field_line_layer (layers.FieldLine-F.FieldLine::Empty token) = one Only token
field_line_layer (layers.FieldLine-F.Named names form tag semicolon) =
    tree forms.NamedFieldForm (each fields_of_listed_name names.items ⊕ form.value ⊕ token_if Tag tag)
    ⊕ token_if Semicolon semicolon
field_line_layer (layers.FieldLine-F.FieldLine::Embedded star name tag semicolon) =
    tree forms.EmbeddedFieldForm (token_if Star star ⊕ fields_of_named name ⊕ token_if Tag tag)
    ⊕ token_if Semicolon semicolon

abbrev pub result_form_layer :
    layers.ResultForm-F Marked Marked Marked Marked Marked Marked Marked Marked Marked Marked Marked Marked Marked
    Marked Marked Marked Marked Marked Marked Marked Marked Marked Marked Marked → Marked
result_form_layer (layers.ResultForm-F.None) = empty
result_form_layer (layers.ResultForm-F.Params params) = params
result_form_layer (layers.ResultForm-F.ResultForm::TypeForm form) = form.value

abbrev pub type_expr_layer :
    layers.TypeExpr-F Marked Marked Marked Marked Marked Marked Marked Marked Marked Marked Marked Marked Marked Marked
    Marked Marked Marked Marked Marked Marked Marked Marked Marked Marked → Marked
type_expr_layer (layers.TypeExpr-F.TypeExpr::Name name) = fields_of_named name
type_expr_layer (layers.TypeExpr-F.TypeExpr::Paren «open» inner close) =
    tree forms.ParenTypeForm (one Open «open» ⊕ inner.value ⊕ one Close close)
type_expr_layer (layers.TypeExpr-F.Pointer star base) = tree forms.PointerForm (one Star star ⊕ base.value)
type_expr_layer (layers.TypeExpr-F.TypeExpr::Slice «open» close element) =
    tree forms.SliceForm (one Open «open» ⊕ one Close close ⊕ element.value)
type_expr_layer (layers.TypeExpr-F.Array «open» length close element) =
    tree forms.ArrayForm (one Open «open» ⊕ length.value ⊕ one Close close ⊕ element.value)
type_expr_layer (layers.TypeExpr-F.OpenArray «open» ellipsis close element) =
    tree forms.OpenArrayForm (one Open «open» ⊕ one Ellipsis ellipsis ⊕ one Close close ⊕ element.value)
type_expr_layer (layers.TypeExpr-F.Map word «open» key close element) =
    tree forms.MapForm (one Word word ⊕ one Open «open» ⊕ key.value ⊕ one Close close ⊕ element.value)
type_expr_layer (layers.TypeExpr-F.Chan word arrow element) =
    tree forms.ChanForm (one Word word ⊕ token_if Arrow arrow ⊕ element.value)
type_expr_layer (layers.TypeExpr-F.ReceiveChan arrow word element) =
    tree forms.ReceiveChanForm (one Arrow arrow ⊕ one Word word ⊕ element.value)
type_expr_layer (layers.TypeExpr-F.TypeExpr::Function word signature) =
    tree forms.FunctionForm (one Word word ⊕ signature.value)
type_expr_layer (layers.TypeExpr-F.Struct word «open» fields close) =
    tree forms.StructForm (one Word word ⊕ one Open «open» ⊕ all fields.items ⊕ one Close close)
type_expr_layer (layers.TypeExpr-F.Interface word «open» elements close) =
    tree forms.InterfaceForm (one Word word ⊕ one Open «open» ⊕ all elements.items ⊕ one Close close)

abbrev pub func_decl_layer :
    layers.FuncDecl-F Marked Marked Marked Marked Marked Marked Marked Marked Marked Marked Marked Marked Marked Marked
    Marked Marked Marked Marked Marked Marked Marked Marked Marked Marked → Marked
func_decl_layer x =
    tree forms.FuncForm (one Word x.word ⊕ if_some (λ x. x) x.receiver ⊕ one Name x.name ⊕ x.signature
    ⊕ if_some (λ x. x) x.body)

abbrev pub type_spec_layer :
    layers.TypeSpec-F Marked Marked Marked Marked Marked Marked Marked Marked Marked Marked Marked Marked Marked Marked
    Marked Marked Marked Marked Marked Marked Marked Marked Marked Marked → Marked
type_spec_layer x =
    tree forms.TypeSpecForm (one Name x.name ⊕ token_if Assign x.assign ⊕ x.form.value) ⊕ token_if Semicolon x.semicolon

abbrev pub value_spec_layer :
    layers.ValueSpec-F Marked Marked Marked Marked Marked Marked Marked Marked Marked Marked Marked Marked Marked Marked
    Marked Marked Marked Marked Marked Marked Marked Marked Marked Marked → Marked
value_spec_layer x =
    tree forms.ValueSpecForm (each fields_of_listed_name x.names.items ⊕ if_some (λ x. x.value) x.form
    ⊕ token_if Assign x.assign
    ⊕ all x.values.items) ⊕ token_if Semicolon x.semicolon

abbrev pub element_layer :
    layers.Element-F Marked Marked Marked Marked Marked Marked Marked Marked Marked Marked Marked Marked Marked Marked
    Marked Marked Marked Marked Marked Marked Marked Marked Marked Marked → Marked
element_layer x =
    tree forms.ElementForm (if_some (λ x. x.value) x.key ⊕ token_if Colon x.colon ⊕ x.value.value)
    ⊕ token_if Comma x.comma

abbrev pub listed_expr_layer :
    layers.ListedExpr-F Marked Marked Marked Marked Marked Marked Marked Marked Marked Marked Marked Marked Marked
    Marked Marked Marked Marked Marked Marked Marked Marked Marked Marked Marked → Marked
listed_expr_layer x = x.expr.value ⊕ token_if Comma x.comma

abbrev pub block_layer :
    layers.Block-F Marked Marked Marked Marked Marked Marked Marked Marked Marked Marked Marked Marked Marked Marked
    Marked Marked Marked Marked Marked Marked Marked Marked Marked Marked → Marked
block_layer x = tree forms.BlockForm (one Open x.«open» ⊕ all x.statements.items ⊕ one Close x.close)

abbrev pub case_clause_layer :
    layers.CaseClause-F Marked Marked Marked Marked Marked Marked Marked Marked Marked Marked Marked Marked Marked
    Marked Marked Marked Marked Marked Marked Marked Marked Marked Marked Marked → Marked
case_clause_layer x =
    tree forms.CaseClauseForm (one Word x.word ⊕ all x.items.items ⊕ one Colon x.colon ⊕ all x.statements.items)

abbrev pub comm_clause_layer :
    layers.CommClause-F Marked Marked Marked Marked Marked Marked Marked Marked Marked Marked Marked Marked Marked
    Marked Marked Marked Marked Marked Marked Marked Marked Marked Marked Marked → Marked
comm_clause_layer x =
    tree forms.CommClauseForm (one Word x.word ⊕ if_some (λ x. x.value) x.comm ⊕ one Colon x.colon
    ⊕ all x.statements.items)

abbrev pub for_stmt_layer :
    layers.ForStmt-F Marked Marked Marked Marked Marked Marked Marked Marked Marked Marked Marked Marked Marked Marked
    Marked Marked Marked Marked Marked Marked Marked Marked Marked Marked → Marked
for_stmt_layer x =
    tree forms.ForForm (one Word x.word ⊕ if_some (λ x. x.value) x.init ⊕ one Semicolon x.first
    ⊕ if_some (λ x. x.value) x.condition
    ⊕ one Semicolon x.second ⊕ if_some (λ x. x.value) x.post ⊕ x.body)

abbrev pub if_arm_layer :
    layers.IfArm-F Marked Marked Marked Marked Marked Marked Marked Marked Marked Marked Marked Marked Marked Marked
    Marked Marked Marked Marked Marked Marked Marked Marked Marked Marked → Marked
if_arm_layer x =
    tree forms.ArmForm (token_if ElseWord x.else_word ⊕ one Word x.word ⊕ if_some (λ x. x.value) x.init
    ⊕ token_if Semicolon x.semicolon
    ⊕ x.condition.value ⊕ x.body)

abbrev pub range_stmt_layer :
    layers.RangeStmt-F Marked Marked Marked Marked Marked Marked Marked Marked Marked Marked Marked Marked Marked Marked
    Marked Marked Marked Marked Marked Marked Marked Marked Marked Marked → Marked
range_stmt_layer x =
    tree forms.RangeForm (one Word x.word ⊕ all x.targets.items ⊕ token_if Operator x.operator ⊕ one Range x.range
    ⊕ x.operand.value
    ⊕ x.body)

abbrev pub stmt_line_layer :
    layers.StmtLine-F Marked Marked Marked Marked Marked Marked Marked Marked Marked Marked Marked Marked Marked Marked
    Marked Marked Marked Marked Marked Marked Marked Marked Marked Marked → Marked
stmt_line_layer x = tree forms.LineForm (if_some (λ x. x.value) x.stmt ⊕ token_if Semicolon x.semicolon)

abbrev pub switch_stmt_layer :
    layers.SwitchStmt-F Marked Marked Marked Marked Marked Marked Marked Marked Marked Marked Marked Marked Marked
    Marked Marked Marked Marked Marked Marked Marked Marked Marked Marked Marked → Marked
switch_stmt_layer x =
    tree forms.SwitchForm (one Word x.word ⊕ if_some (λ x. x.value) x.init ⊕ token_if Semicolon x.semicolon
    ⊕ if_some (λ x. x.value) x.tag ⊕ one Open x.«open» ⊕ all x.clauses.items ⊕ one Close x.close)

abbrev pub type_switch_stmt_layer :
    layers.TypeSwitchStmt-F Marked Marked Marked Marked Marked Marked Marked Marked Marked Marked Marked Marked Marked
    Marked Marked Marked Marked Marked Marked Marked Marked Marked Marked Marked → Marked
type_switch_stmt_layer x =
    tree forms.TypeSwitchForm (one Word x.word ⊕ if_some (λ x. x.value) x.init ⊕ token_if Semicolon x.semicolon
    ⊕ if_some fields_of_binding x.binding ⊕ x.operand.value ⊕ one Dot x.dot ⊕ one OpenParen x.open_paren
    ⊕ one TypeWord x.type_word
    ⊕ one CloseParen x.close_paren ⊕ one Open x.«open» ⊕ all x.clauses.items ⊕ one Close x.close)

abbrev pub param_layer :
    layers.Param-F Marked Marked Marked Marked Marked Marked Marked Marked Marked Marked Marked Marked Marked Marked
    Marked Marked Marked Marked Marked Marked Marked Marked Marked Marked → Marked
param_layer x =
    tree forms.ParamForm (each fields_of_listed_name x.names.items ⊕ token_if Ellipsis x.ellipsis ⊕ x.form.value)
    ⊕ token_if Comma x.comma

abbrev pub params_layer :
    layers.Params-F Marked Marked Marked Marked Marked Marked Marked Marked Marked Marked Marked Marked Marked Marked
    Marked Marked Marked Marked Marked Marked Marked Marked Marked Marked → Marked
params_layer x = tree forms.ParamsForm (one Open x.«open» ⊕ all x.params.items ⊕ one Close x.close)

abbrev pub signature_layer :
    layers.Signature-F Marked Marked Marked Marked Marked Marked Marked Marked Marked Marked Marked Marked Marked Marked
    Marked Marked Marked Marked Marked Marked Marked Marked Marked Marked → Marked
signature_layer x = tree forms.SignatureForm (x.params ⊕ x.result)

-- ---- whole trees

unfoldable pub fields_of_decl : Decl → Marked
fields_of_decl =
    fold-Decl Marked Marked Marked Marked Marked Marked Marked Marked Marked Marked Marked Marked Marked Marked Marked
    Marked Marked Marked Marked Marked Marked Marked Marked Marked
    decl_layer expr_layer stmt_layer element_line_layer field_line_layer result_form_layer type_expr_layer
    func_decl_layer type_spec_layer value_spec_layer element_layer listed_expr_layer block_layer case_clause_layer
    comm_clause_layer for_stmt_layer if_arm_layer range_stmt_layer stmt_line_layer switch_stmt_layer
    type_switch_stmt_layer param_layer params_layer signature_layer

unfoldable pub fields_of_expr : Expr → Marked
fields_of_expr =
    fold-Expr Marked Marked Marked Marked Marked Marked Marked Marked Marked Marked Marked Marked Marked Marked Marked
    Marked Marked Marked Marked Marked Marked Marked Marked Marked
    decl_layer expr_layer stmt_layer element_line_layer field_line_layer result_form_layer type_expr_layer
    func_decl_layer type_spec_layer value_spec_layer element_layer listed_expr_layer block_layer case_clause_layer
    comm_clause_layer for_stmt_layer if_arm_layer range_stmt_layer stmt_line_layer switch_stmt_layer
    type_switch_stmt_layer param_layer params_layer signature_layer

unfoldable pub fields_of_stmt : Stmt → Marked
fields_of_stmt =
    fold-Stmt Marked Marked Marked Marked Marked Marked Marked Marked Marked Marked Marked Marked Marked Marked Marked
    Marked Marked Marked Marked Marked Marked Marked Marked Marked
    decl_layer expr_layer stmt_layer element_line_layer field_line_layer result_form_layer type_expr_layer
    func_decl_layer type_spec_layer value_spec_layer element_layer listed_expr_layer block_layer case_clause_layer
    comm_clause_layer for_stmt_layer if_arm_layer range_stmt_layer stmt_line_layer switch_stmt_layer
    type_switch_stmt_layer param_layer params_layer signature_layer

unfoldable pub fields_of_element_line : ElementLine → Marked
fields_of_element_line =
    fold-ElementLine Marked Marked Marked Marked Marked Marked Marked Marked Marked Marked Marked Marked Marked Marked
    Marked Marked Marked Marked Marked Marked Marked Marked Marked Marked
    decl_layer expr_layer stmt_layer element_line_layer field_line_layer result_form_layer type_expr_layer
    func_decl_layer type_spec_layer value_spec_layer element_layer listed_expr_layer block_layer case_clause_layer
    comm_clause_layer for_stmt_layer if_arm_layer range_stmt_layer stmt_line_layer switch_stmt_layer
    type_switch_stmt_layer param_layer params_layer signature_layer

unfoldable pub fields_of_field_line : FieldLine → Marked
fields_of_field_line =
    fold-FieldLine Marked Marked Marked Marked Marked Marked Marked Marked Marked Marked Marked Marked Marked Marked
    Marked Marked Marked Marked Marked Marked Marked Marked Marked Marked
    decl_layer expr_layer stmt_layer element_line_layer field_line_layer result_form_layer type_expr_layer
    func_decl_layer type_spec_layer value_spec_layer element_layer listed_expr_layer block_layer case_clause_layer
    comm_clause_layer for_stmt_layer if_arm_layer range_stmt_layer stmt_line_layer switch_stmt_layer
    type_switch_stmt_layer param_layer params_layer signature_layer

unfoldable pub fields_of_result_form : ResultForm → Marked
fields_of_result_form =
    fold-ResultForm Marked Marked Marked Marked Marked Marked Marked Marked Marked Marked Marked Marked Marked Marked
    Marked Marked Marked Marked Marked Marked Marked Marked Marked Marked
    decl_layer expr_layer stmt_layer element_line_layer field_line_layer result_form_layer type_expr_layer
    func_decl_layer type_spec_layer value_spec_layer element_layer listed_expr_layer block_layer case_clause_layer
    comm_clause_layer for_stmt_layer if_arm_layer range_stmt_layer stmt_line_layer switch_stmt_layer
    type_switch_stmt_layer param_layer params_layer signature_layer

unfoldable pub fields_of_type_expr : TypeExpr → Marked
fields_of_type_expr =
    fold-TypeExpr Marked Marked Marked Marked Marked Marked Marked Marked Marked Marked Marked Marked Marked Marked
    Marked Marked Marked Marked Marked Marked Marked Marked Marked Marked
    decl_layer expr_layer stmt_layer element_line_layer field_line_layer result_form_layer type_expr_layer
    func_decl_layer type_spec_layer value_spec_layer element_layer listed_expr_layer block_layer case_clause_layer
    comm_clause_layer for_stmt_layer if_arm_layer range_stmt_layer stmt_line_layer switch_stmt_layer
    type_switch_stmt_layer param_layer params_layer signature_layer

unfoldable pub fields_of_func_decl : FuncDecl → Marked
fields_of_func_decl =
    fold-FuncDecl Marked Marked Marked Marked Marked Marked Marked Marked Marked Marked Marked Marked Marked Marked
    Marked Marked Marked Marked Marked Marked Marked Marked Marked Marked
    decl_layer expr_layer stmt_layer element_line_layer field_line_layer result_form_layer type_expr_layer
    func_decl_layer type_spec_layer value_spec_layer element_layer listed_expr_layer block_layer case_clause_layer
    comm_clause_layer for_stmt_layer if_arm_layer range_stmt_layer stmt_line_layer switch_stmt_layer
    type_switch_stmt_layer param_layer params_layer signature_layer

unfoldable pub fields_of_type_spec : TypeSpec → Marked
fields_of_type_spec =
    fold-TypeSpec Marked Marked Marked Marked Marked Marked Marked Marked Marked Marked Marked Marked Marked Marked
    Marked Marked Marked Marked Marked Marked Marked Marked Marked Marked
    decl_layer expr_layer stmt_layer element_line_layer field_line_layer result_form_layer type_expr_layer
    func_decl_layer type_spec_layer value_spec_layer element_layer listed_expr_layer block_layer case_clause_layer
    comm_clause_layer for_stmt_layer if_arm_layer range_stmt_layer stmt_line_layer switch_stmt_layer
    type_switch_stmt_layer param_layer params_layer signature_layer

unfoldable pub fields_of_value_spec : ValueSpec → Marked
fields_of_value_spec =
    fold-ValueSpec Marked Marked Marked Marked Marked Marked Marked Marked Marked Marked Marked Marked Marked Marked
    Marked Marked Marked Marked Marked Marked Marked Marked Marked Marked
    decl_layer expr_layer stmt_layer element_line_layer field_line_layer result_form_layer type_expr_layer
    func_decl_layer type_spec_layer value_spec_layer element_layer listed_expr_layer block_layer case_clause_layer
    comm_clause_layer for_stmt_layer if_arm_layer range_stmt_layer stmt_line_layer switch_stmt_layer
    type_switch_stmt_layer param_layer params_layer signature_layer

unfoldable pub fields_of_element : Element → Marked
fields_of_element =
    fold-Element Marked Marked Marked Marked Marked Marked Marked Marked Marked Marked Marked Marked Marked Marked
    Marked Marked Marked Marked Marked Marked Marked Marked Marked Marked
    decl_layer expr_layer stmt_layer element_line_layer field_line_layer result_form_layer type_expr_layer
    func_decl_layer type_spec_layer value_spec_layer element_layer listed_expr_layer block_layer case_clause_layer
    comm_clause_layer for_stmt_layer if_arm_layer range_stmt_layer stmt_line_layer switch_stmt_layer
    type_switch_stmt_layer param_layer params_layer signature_layer

unfoldable pub fields_of_listed_expr : ListedExpr → Marked
fields_of_listed_expr =
    fold-ListedExpr Marked Marked Marked Marked Marked Marked Marked Marked Marked Marked Marked Marked Marked Marked
    Marked Marked Marked Marked Marked Marked Marked Marked Marked Marked
    decl_layer expr_layer stmt_layer element_line_layer field_line_layer result_form_layer type_expr_layer
    func_decl_layer type_spec_layer value_spec_layer element_layer listed_expr_layer block_layer case_clause_layer
    comm_clause_layer for_stmt_layer if_arm_layer range_stmt_layer stmt_line_layer switch_stmt_layer
    type_switch_stmt_layer param_layer params_layer signature_layer

unfoldable pub fields_of_block : Block → Marked
fields_of_block =
    fold-Block Marked Marked Marked Marked Marked Marked Marked Marked Marked Marked Marked Marked Marked Marked Marked
    Marked Marked Marked Marked Marked Marked Marked Marked Marked
    decl_layer expr_layer stmt_layer element_line_layer field_line_layer result_form_layer type_expr_layer
    func_decl_layer type_spec_layer value_spec_layer element_layer listed_expr_layer block_layer case_clause_layer
    comm_clause_layer for_stmt_layer if_arm_layer range_stmt_layer stmt_line_layer switch_stmt_layer
    type_switch_stmt_layer param_layer params_layer signature_layer

unfoldable pub fields_of_case_clause : CaseClause → Marked
fields_of_case_clause =
    fold-CaseClause Marked Marked Marked Marked Marked Marked Marked Marked Marked Marked Marked Marked Marked Marked
    Marked Marked Marked Marked Marked Marked Marked Marked Marked Marked
    decl_layer expr_layer stmt_layer element_line_layer field_line_layer result_form_layer type_expr_layer
    func_decl_layer type_spec_layer value_spec_layer element_layer listed_expr_layer block_layer case_clause_layer
    comm_clause_layer for_stmt_layer if_arm_layer range_stmt_layer stmt_line_layer switch_stmt_layer
    type_switch_stmt_layer param_layer params_layer signature_layer

unfoldable pub fields_of_comm_clause : CommClause → Marked
fields_of_comm_clause =
    fold-CommClause Marked Marked Marked Marked Marked Marked Marked Marked Marked Marked Marked Marked Marked Marked
    Marked Marked Marked Marked Marked Marked Marked Marked Marked Marked
    decl_layer expr_layer stmt_layer element_line_layer field_line_layer result_form_layer type_expr_layer
    func_decl_layer type_spec_layer value_spec_layer element_layer listed_expr_layer block_layer case_clause_layer
    comm_clause_layer for_stmt_layer if_arm_layer range_stmt_layer stmt_line_layer switch_stmt_layer
    type_switch_stmt_layer param_layer params_layer signature_layer

unfoldable pub fields_of_for_stmt : ForStmt → Marked
fields_of_for_stmt =
    fold-ForStmt Marked Marked Marked Marked Marked Marked Marked Marked Marked Marked Marked Marked Marked Marked
    Marked Marked Marked Marked Marked Marked Marked Marked Marked Marked
    decl_layer expr_layer stmt_layer element_line_layer field_line_layer result_form_layer type_expr_layer
    func_decl_layer type_spec_layer value_spec_layer element_layer listed_expr_layer block_layer case_clause_layer
    comm_clause_layer for_stmt_layer if_arm_layer range_stmt_layer stmt_line_layer switch_stmt_layer
    type_switch_stmt_layer param_layer params_layer signature_layer

unfoldable pub fields_of_if_arm : IfArm → Marked
fields_of_if_arm =
    fold-IfArm Marked Marked Marked Marked Marked Marked Marked Marked Marked Marked Marked Marked Marked Marked Marked
    Marked Marked Marked Marked Marked Marked Marked Marked Marked
    decl_layer expr_layer stmt_layer element_line_layer field_line_layer result_form_layer type_expr_layer
    func_decl_layer type_spec_layer value_spec_layer element_layer listed_expr_layer block_layer case_clause_layer
    comm_clause_layer for_stmt_layer if_arm_layer range_stmt_layer stmt_line_layer switch_stmt_layer
    type_switch_stmt_layer param_layer params_layer signature_layer

unfoldable pub fields_of_range_stmt : RangeStmt → Marked
fields_of_range_stmt =
    fold-RangeStmt Marked Marked Marked Marked Marked Marked Marked Marked Marked Marked Marked Marked Marked Marked
    Marked Marked Marked Marked Marked Marked Marked Marked Marked Marked
    decl_layer expr_layer stmt_layer element_line_layer field_line_layer result_form_layer type_expr_layer
    func_decl_layer type_spec_layer value_spec_layer element_layer listed_expr_layer block_layer case_clause_layer
    comm_clause_layer for_stmt_layer if_arm_layer range_stmt_layer stmt_line_layer switch_stmt_layer
    type_switch_stmt_layer param_layer params_layer signature_layer

unfoldable pub fields_of_stmt_line : StmtLine → Marked
fields_of_stmt_line =
    fold-StmtLine Marked Marked Marked Marked Marked Marked Marked Marked Marked Marked Marked Marked Marked Marked
    Marked Marked Marked Marked Marked Marked Marked Marked Marked Marked
    decl_layer expr_layer stmt_layer element_line_layer field_line_layer result_form_layer type_expr_layer
    func_decl_layer type_spec_layer value_spec_layer element_layer listed_expr_layer block_layer case_clause_layer
    comm_clause_layer for_stmt_layer if_arm_layer range_stmt_layer stmt_line_layer switch_stmt_layer
    type_switch_stmt_layer param_layer params_layer signature_layer

unfoldable pub fields_of_switch_stmt : SwitchStmt → Marked
fields_of_switch_stmt =
    fold-SwitchStmt Marked Marked Marked Marked Marked Marked Marked Marked Marked Marked Marked Marked Marked Marked
    Marked Marked Marked Marked Marked Marked Marked Marked Marked Marked
    decl_layer expr_layer stmt_layer element_line_layer field_line_layer result_form_layer type_expr_layer
    func_decl_layer type_spec_layer value_spec_layer element_layer listed_expr_layer block_layer case_clause_layer
    comm_clause_layer for_stmt_layer if_arm_layer range_stmt_layer stmt_line_layer switch_stmt_layer
    type_switch_stmt_layer param_layer params_layer signature_layer

unfoldable pub fields_of_type_switch_stmt : TypeSwitchStmt → Marked
fields_of_type_switch_stmt =
    fold-TypeSwitchStmt Marked Marked Marked Marked Marked Marked Marked Marked Marked Marked Marked Marked Marked
    Marked Marked Marked Marked Marked Marked Marked Marked Marked Marked Marked
    decl_layer expr_layer stmt_layer element_line_layer field_line_layer result_form_layer type_expr_layer
    func_decl_layer type_spec_layer value_spec_layer element_layer listed_expr_layer block_layer case_clause_layer
    comm_clause_layer for_stmt_layer if_arm_layer range_stmt_layer stmt_line_layer switch_stmt_layer
    type_switch_stmt_layer param_layer params_layer signature_layer

unfoldable pub fields_of_param : Param → Marked
fields_of_param =
    fold-Param Marked Marked Marked Marked Marked Marked Marked Marked Marked Marked Marked Marked Marked Marked Marked
    Marked Marked Marked Marked Marked Marked Marked Marked Marked
    decl_layer expr_layer stmt_layer element_line_layer field_line_layer result_form_layer type_expr_layer
    func_decl_layer type_spec_layer value_spec_layer element_layer listed_expr_layer block_layer case_clause_layer
    comm_clause_layer for_stmt_layer if_arm_layer range_stmt_layer stmt_line_layer switch_stmt_layer
    type_switch_stmt_layer param_layer params_layer signature_layer

unfoldable pub fields_of_params : Params → Marked
fields_of_params =
    fold-Params Marked Marked Marked Marked Marked Marked Marked Marked Marked Marked Marked Marked Marked Marked Marked
    Marked Marked Marked Marked Marked Marked Marked Marked Marked
    decl_layer expr_layer stmt_layer element_line_layer field_line_layer result_form_layer type_expr_layer
    func_decl_layer type_spec_layer value_spec_layer element_layer listed_expr_layer block_layer case_clause_layer
    comm_clause_layer for_stmt_layer if_arm_layer range_stmt_layer stmt_line_layer switch_stmt_layer
    type_switch_stmt_layer param_layer params_layer signature_layer

unfoldable pub fields_of_signature : Signature → Marked
fields_of_signature =
    fold-Signature Marked Marked Marked Marked Marked Marked Marked Marked Marked Marked Marked Marked Marked Marked
    Marked Marked Marked Marked Marked Marked Marked Marked Marked Marked
    decl_layer expr_layer stmt_layer element_line_layer field_line_layer result_form_layer type_expr_layer
    func_decl_layer type_spec_layer value_spec_layer element_layer listed_expr_layer block_layer case_clause_layer
    comm_clause_layer for_stmt_layer if_arm_layer range_stmt_layer stmt_line_layer switch_stmt_layer
    type_switch_stmt_layer param_layer params_layer signature_layer

abbrev pub fields_of_line : DeclLine → Marked
fields_of_line x = fields_of_decl x.decl ⊕ one Semicolon x.semicolon

abbrev pub fields_of_file : FileTree → Marked
fields_of_file x =
    tree forms.FileForm (one Word x.word ⊕ one Name x.name ⊕ one Semicolon x.semicolon
    ⊕ each fields_of_import x.imports.items
    ⊕ each fields_of_line x.decls.items)
