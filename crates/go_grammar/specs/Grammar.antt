-- Go's grammar. Go specification, "Source file organization" to "Statements".
use Rattle.std.specs.Prelude.{ℕ, Bool, true, false, ◌==◌}
use Rattle.go_ast.specs.declared.token.Kind.{Kind}
use Rattle.go_ast.specs.declared.token.Kind.TheVariants as kinds
use Rattle.go_grammar.specs.Forests as forms
use Rattle.go_grammar.specs.Shapes.{Shape, Sign, Before, Part, Node, Many, ◌⨟◌, ◌∣◌, maybe, word, not_before}

-- In a header, outside all brackets, the braces behind the name of a type are no literal.
pub data Context : Type 0 where
  Plain Header : Context

-- Binary operators, from those that bind least.
pub data Level : Type 0 where
  Disjunction Conjunction Comparison Addition Multiplication : Level

-- The names of productions.
pub data Sort : Type 0 where
  File Import ImportSpec PackageDecl LocalDecl ConstSpec TypeSpec VarSpec : Sort
  TypeName AnyType BareType LongType TypeOnly LiteralType Signature Params Results Receiver Block Lines : Sort
  Binary : (level : Level) (context : Context) → Sort
  Unary Primary Operand : (context : Context) → Sort
  Item Braces Value : Sort
  Statement Unlabeled IfRest Switch CaseClause Comm CommClause Loop : Sort
  Simple : (context : Context) → Sort

-- ---- kinds

-- how tightly a binary operator binds, and 0 for any other token
abbrev pub precedence : Kind → ℕ
precedence kinds.OrOr = 1
precedence kinds.AndAnd = 2
precedence kinds.Equal = 3
precedence kinds.NotEqual = 3
precedence kinds.Less = 3
precedence kinds.LessEqual = 3
precedence kinds.Greater = 3
precedence kinds.GreaterEqual = 3
precedence kinds.Plus = 4
precedence kinds.Minus = 4
precedence kinds.Pipe = 4
precedence kinds.Caret = 4
precedence kinds.Star = 5
precedence kinds.Slash = 5
precedence kinds.Percent = 5
precedence kinds.ShiftLeft = 5
precedence kinds.ShiftRight = 5
precedence kinds.Ampersand = 5
precedence kinds.AndNot = 5
precedence _ = 0

abbrev pub number : Level → ℕ
number Disjunction = 1
number Conjunction = 2
number Comparison = 3
number Addition = 4
number Multiplication = 5

-- what binds tighter than the operators of a level
abbrev pub tighter : Level → Context → Sort
tighter Disjunction context = Binary Conjunction context
tighter Conjunction context = Binary Comparison context
tighter Comparison context = Binary Addition context
tighter Addition context = Binary Multiplication context
tighter Multiplication context = Unary context

-- the operators before an operand
abbrev pub is_sign : Kind → Bool
is_sign kinds.Plus = true
is_sign kinds.Minus = true
is_sign kinds.Not = true
is_sign kinds.Caret = true
is_sign kinds.Star = true
is_sign kinds.Ampersand = true
is_sign kinds.Arrow = true
is_sign _ = false

abbrev pub is_assign : Kind → Bool
is_assign kinds.Assign = true
is_assign kinds.PlusAssign = true
is_assign kinds.MinusAssign = true
is_assign kinds.StarAssign = true
is_assign kinds.SlashAssign = true
is_assign kinds.PercentAssign = true
is_assign kinds.AmpersandAssign = true
is_assign kinds.PipeAssign = true
is_assign kinds.CaretAssign = true
is_assign kinds.ShiftLeftAssign = true
is_assign kinds.ShiftRightAssign = true
is_assign kinds.AndNotAssign = true
is_assign _ = false

abbrev pub is_step : Kind → Bool
is_step kinds.Increment = true
is_step kinds.Decrement = true
is_step _ = false

-- written, or put in at the end of a line
abbrev pub is_semicolon : Kind → Bool
is_semicolon kinds.Semicolon = true
is_semicolon kinds.Inserted = true
is_semicolon _ = false

abbrev pub is_dot : Kind → Bool
is_dot kinds.Dot = true
is_dot _ = false

abbrev pub is_arrow : Kind → Bool
is_arrow kinds.Arrow = true
is_arrow _ = false

abbrev pub opens_braces : Kind → Bool
opens_braces kinds.OpenBrace = true
opens_braces _ = false

abbrev pub closes_braces : Kind → Bool
closes_braces kinds.CloseBrace = true
closes_braces _ = false

abbrev pub closes_parens : Kind → Bool
closes_parens kinds.CloseParen = true
closes_parens _ = false

-- with which a type begins
abbrev pub begins_type : Kind → Bool
begins_type kinds.Name = true
begins_type kinds.OpenParen = true
begins_type kinds.Star = true
begins_type kinds.OpenBracket = true
begins_type kinds.MapWord = true
begins_type kinds.ChanWord = true
begins_type kinds.Arrow = true
begins_type kinds.FuncWord = true
begins_type kinds.StructWord = true
begins_type kinds.InterfaceWord = true
begins_type _ = false

-- ---- pieces

abbrev pub semicolon : Shape Sort
semicolon = Sign is_semicolon

-- a semicolon, which may be left out before the end
abbrev pub end_of_line : (Kind → Bool) → Shape Sort
end_of_line closes = semicolon ∣ Before closes

-- at least one, with commas between them
abbrev pub list_of : Shape Sort → Shape Sort
list_of item = item ⨟ Many (word kinds.Comma ⨟ item)

-- one, or any number in parentheses
abbrev pub group_of : Shape Sort → Shape Sort
group_of spec = spec ∣ word kinds.OpenParen ⨟ Many (spec ⨟ end_of_line closes_parens) ⨟ word kinds.CloseParen

-- lines in braces, and empty ones
abbrev pub lines_of : Shape Sort → Shape Sort
lines_of item = word kinds.OpenBrace ⨟ Many (item ⨟ end_of_line closes_braces ∣ semicolon) ⨟ word kinds.CloseBrace

abbrev pub Expr : Context → Shape Sort
Expr context = Part (Binary Disjunction context)

abbrev pub exprs : Context → Shape Sort
exprs context = list_of (Expr context)

abbrev pub names : Shape Sort
names = list_of (word kinds.Name)

abbrev pub items : Shape Sort
items = list_of (Part Item)

-- ---- declarations

abbrev pub const_decl : Shape Sort
const_decl = Node forms.ConstForm (word kinds.ConstWord ⨟ group_of (Part ConstSpec))

abbrev pub type_decl : Shape Sort
type_decl = Node forms.TypeDeclForm (word kinds.TypeWord ⨟ group_of (Part TypeSpec))

abbrev pub var_decl : Shape Sort
var_decl = Node forms.VarForm (word kinds.VarWord ⨟ group_of (Part VarSpec))

abbrev pub func_decl : Shape Sort
func_decl =
    Node forms.FuncForm
    (word kinds.FuncWord ⨟ maybe (Part Receiver) ⨟ word kinds.Name ⨟ Part Signature ⨟ maybe (Part Block))

-- ---- types

abbrev pub pointer_to : Sort → Shape Sort
pointer_to base = Node forms.PointerForm (word kinds.Star ⨟ Part base)

-- the arrow behind `chan` belongs to it
abbrev pub chan_type : Shape Sort
chan_type =
    Node forms.ChanForm (word kinds.ChanWord ⨟ (word kinds.Arrow ∣ not_before is_arrow) ⨟ Part AnyType)
    ∣ Node forms.ReceiveChanForm (word kinds.Arrow ⨟ word kinds.ChanWord ⨟ Part AnyType)

abbrev pub function_type : Shape Sort
function_type = Node forms.FunctionForm (word kinds.FuncWord ⨟ Part Signature)

abbrev pub field : Shape Sort
field =
    Node forms.NamedFieldForm (names ⨟ Part AnyType ⨟ maybe (word kinds.Text))
    ∣ Node forms.EmbeddedFieldForm (maybe (word kinds.Star) ⨟ Part TypeName ⨟ maybe (word kinds.Text))

abbrev pub element : Shape Sort
element = Node forms.MethodForm (word kinds.Name ⨟ Part Signature) ∣ Node forms.EmbeddedElementForm (Part TypeName)

abbrev pub bare_type : Shape Sort
bare_type =
    Node forms.SliceForm (word kinds.OpenBracket ⨟ word kinds.CloseBracket ⨟ Part AnyType)
    ∣ Node forms.ArrayForm (word kinds.OpenBracket ⨟ Expr Plain ⨟ word kinds.CloseBracket ⨟ Part AnyType)
    ∣ Node forms.MapForm
    (word kinds.MapWord ⨟ word kinds.OpenBracket ⨟ Part AnyType ⨟ word kinds.CloseBracket ⨟ Part AnyType)
    ∣ Node forms.StructForm (word kinds.StructWord ⨟ lines_of field)
    ∣ Node forms.InterfaceForm (word kinds.InterfaceWord ⨟ lines_of element)

abbrev pub open_array : Shape Sort
open_array =
    Node forms.OpenArrayForm (word kinds.OpenBracket ⨟ word kinds.Ellipsis ⨟ word kinds.CloseBracket ⨟ Part AnyType)

-- ---- parameters

-- `...` stands before the last type alone, with at most one name
abbrev pub last_type : Bool → Shape Sort
last_type true = maybe (word kinds.Ellipsis) ⨟ Part AnyType
last_type false = Part AnyType

abbrev pub last_group : Bool → Shape Sort
last_group true = names ⨟ Part AnyType ∣ word kinds.Name ⨟ word kinds.Ellipsis ⨟ Part AnyType
last_group false = names ⨟ Part AnyType

abbrev pub listed : Shape Sort → Shape Sort → Shape Sort
listed item last = Many (Node forms.ParamForm item ⨟ word kinds.Comma) ⨟ Node forms.ParamForm last

-- all without names or all with names, and a comma behind the last where one likes
abbrev pub params_of : Bool → Shape Sort
params_of variadic =
    Node forms.ParamsForm
    (word kinds.OpenParen ⨟ maybe
    ((listed (Part AnyType) (last_type variadic) ∣ listed (names ⨟ Part AnyType) (last_group variadic)) ⨟ maybe
    (word kinds.Comma)) ⨟ word kinds.CloseParen)

-- ---- expressions

-- operators of one level group to the left, and what binds tighter stands on their right
abbrev pub binary : Level → Context → Shape Sort
binary level context =
    Node forms.BinaryForm
    (Part (Binary level context) ⨟ Sign (λ kind. precedence kind == number level) ⨟ Part (tighter level context)) ∣
    Part (tighter level context)

abbrev pub operand : Shape Sort
operand =
    Node forms.IntForm (word kinds.Int)
    ∣ Node forms.RuneForm (word kinds.Rune)
    ∣ Node forms.TextForm (word kinds.Text)
    ∣ Node forms.NameForm (word kinds.Name)
    ∣ Node forms.ParenForm (word kinds.OpenParen ⨟ Part Item ⨟ word kinds.CloseParen)
    ∣ Node forms.LiteralFunctionForm (word kinds.FuncWord ⨟ Part Signature ⨟ Part Block)
    ∣ Node forms.TypeOperandForm (Part BareType ⨟ not_before opens_braces)
    ∣ Node forms.CompositeForm (Part LiteralType ⨟ Part Braces)

abbrev pub suffixed : Sort → Shape Sort
suffixed left =
    Node forms.SelectorForm (Part left ⨟ word kinds.Dot ⨟ word kinds.Name)
    ∣ Node forms.AssertionForm
    (Part left ⨟ word kinds.Dot ⨟ word kinds.OpenParen ⨟ Part AnyType ⨟ word kinds.CloseParen)
    ∣ Node forms.IndexForm (Part left ⨟ word kinds.OpenBracket ⨟ Expr Plain ⨟ word kinds.CloseBracket)
    ∣ Node forms.SliceExprForm
    (Part left ⨟ word kinds.OpenBracket ⨟ maybe (Expr Plain) ⨟ word kinds.Colon ⨟ maybe (Expr Plain) ⨟ word
    kinds.CloseBracket)
    ∣ Node forms.FullSliceForm
    (Part left ⨟ word kinds.OpenBracket ⨟ maybe (Expr Plain) ⨟ word kinds.Colon ⨟ Expr Plain ⨟ word kinds.Colon ⨟
    Expr Plain ⨟ word kinds.CloseBracket)
    ∣ Node forms.CallForm
    (Part left ⨟ word kinds.OpenParen ⨟ maybe (items ⨟ maybe (word kinds.Ellipsis) ⨟ maybe (word kinds.Comma)) ⨟
    word kinds.CloseParen)

-- ---- statements

-- a first statement in a header, or none, and its semicolon
abbrev pub init : Shape Sort
init = maybe (maybe (Part (Simple Header)) ⨟ semicolon)

-- what may stand behind the clauses of a `for`: all but a definition
abbrev pub without_define : Context → Shape Sort
without_define context =
    Node forms.ExprForm (Expr context)
    ∣ Node forms.SendForm (Expr context ⨟ word kinds.Arrow ⨟ Expr context)
    ∣ Node forms.StepForm (Expr context ⨟ Sign is_step)
    ∣ Node forms.AssignForm (exprs context ⨟ Sign is_assign ⨟ exprs context)

abbrev pub if_stmt : Shape Sort
if_stmt =
    Node forms.IfForm
    (Node forms.ArmForm (Part IfRest) ⨟ Many (Node forms.ArmForm (word kinds.ElseWord ⨟ Part IfRest)) ⨟ maybe
    (word kinds.ElseWord ⨟ Part Block))

abbrev pub select_stmt : Shape Sort
select_stmt =
    Node forms.SelectForm
    (word kinds.SelectWord ⨟ word kinds.OpenBrace ⨟ Many (Part CommClause) ⨟ word kinds.CloseBrace)

abbrev pub unlabeled : Shape Sort
unlabeled =
    Part LocalDecl
    ∣ Node forms.GoForm (word kinds.GoWord ⨟ Expr Plain)
    ∣ Node forms.DeferForm (word kinds.DeferWord ⨟ Expr Plain)
    ∣ Node forms.ReturnForm (word kinds.ReturnWord ⨟ maybe (exprs Plain))
    ∣ Node forms.BreakForm (word kinds.BreakWord ⨟ maybe (word kinds.Name))
    ∣ Node forms.ContinueForm (word kinds.ContinueWord ⨟ maybe (word kinds.Name))
    ∣ Node forms.FallthroughForm (word kinds.FallthroughWord)
    ∣ Part Block
    ∣ if_stmt
    ∣ Part Switch
    ∣ select_stmt
    ∣ Part Loop
    ∣ Part (Simple Plain)

abbrev pub label : Shape Sort
label = word kinds.Name ⨟ word kinds.Colon

-- ---- the productions

abbrev pub grammar : Sort → Shape Sort
grammar File =
    Node forms.FileForm
    (word kinds.PackageWord ⨟ word kinds.Name ⨟ semicolon ⨟ Many (Part Import ⨟ semicolon) ⨟ Many
    (Part PackageDecl ⨟ semicolon))
grammar Import = Node forms.ImportForm (word kinds.ImportWord ⨟ group_of (Part ImportSpec))
grammar ImportSpec = Node forms.ImportSpecForm (maybe (word kinds.Name) ⨟ word kinds.Text)
grammar PackageDecl = Part LocalDecl ∣ func_decl
grammar LocalDecl = const_decl ∣ type_decl ∣ var_decl
-- a constant with no value has no type
grammar ConstSpec = Node forms.ValueSpecForm (names ⨟ maybe (maybe (Part AnyType) ⨟ word kinds.Assign ⨟ exprs Plain))
grammar TypeSpec = Node forms.TypeSpecForm (word kinds.Name ⨟ maybe (word kinds.Assign) ⨟ Part AnyType)
grammar VarSpec =
    Node forms.ValueSpecForm
    (names ⨟ (Part AnyType ⨟ maybe (word kinds.Assign ⨟ exprs Plain) ∣ word kinds.Assign ⨟ exprs Plain))
-- the dot behind a name of a type belongs to it
grammar TypeName = Node forms.TypeNameForm (word kinds.Name ⨟ (word kinds.Dot ⨟ word kinds.Name ∣ not_before is_dot))
grammar AnyType = Part LongType ∣ Node forms.ParenTypeForm (word kinds.OpenParen ⨟ Part AnyType ⨟ word kinds.CloseParen)
-- all but those in parentheses
grammar LongType = Part TypeName ∣ pointer_to AnyType ∣ Part BareType ∣ chan_type ∣ function_type
grammar BareType = bare_type
-- the types that are no expressions; a function before braces is a literal
grammar TypeOnly =
    pointer_to TypeOnly ∣ chan_type ∣ Node forms.FunctionForm
    (word kinds.FuncWord ⨟ Part Signature ⨟ not_before opens_braces)
grammar LiteralType = Part BareType ∣ open_array
-- a list in parentheses is a list of results, and a result is as long as it can be
grammar Signature = Node forms.SignatureForm (Part Params ⨟ (Part Results ∣ Part LongType ∣ not_before begins_type))
grammar Params = params_of true
grammar Results = params_of false
grammar Receiver =
    Node forms.ParamsForm
    (word kinds.OpenParen ⨟ Node forms.ParamForm (maybe (word kinds.Name) ⨟ Part AnyType) ⨟ maybe (word kinds.Comma)
    ⨟ word kinds.CloseParen)
grammar Block = Node forms.BlockForm (word kinds.OpenBrace ⨟ Part Lines ⨟ word kinds.CloseBrace)
grammar Lines = Many (Node forms.LineForm (Part Statement ⨟ end_of_line closes_braces ∣ semicolon))
grammar (Binary level context) = binary level context
grammar (Unary context) = Node forms.UnaryForm (Sign is_sign ⨟ Part (Unary context)) ∣ Part (Primary context)
grammar (Primary context) = Part (Operand context) ∣ suffixed (Primary context)
grammar (Operand Plain) = operand ∣ Node forms.CompositeForm (Part TypeName ⨟ Part Braces)
grammar (Operand Header) = operand
-- an expression, or a type that is none
grammar Item = Expr Plain ∣ Node forms.TypeOperandForm (Part TypeOnly)
-- a comma stands behind each element, and may be left out behind the last
grammar Braces =
    word kinds.OpenBrace ⨟ Many
    (Node forms.ElementForm (maybe (Part Value ⨟ word kinds.Colon) ⨟ Part Value) ⨟
    (word kinds.Comma ∣ Before closes_braces)) ⨟ word kinds.CloseBrace
grammar Value = Expr Plain ∣ Node forms.CompositeForm (Part Braces)
grammar Statement = Node forms.LabeledForm (label ⨟ Many label ⨟ maybe (Part Unlabeled)) ∣ Part Unlabeled
grammar Unlabeled = unlabeled
grammar IfRest = word kinds.IfWord ⨟ init ⨟ Expr Header ⨟ Part Block
grammar Switch =
    Node forms.SwitchForm
    (word kinds.SwitchWord ⨟ init ⨟ maybe (Expr Header) ⨟ word kinds.OpenBrace ⨟ Many (Part CaseClause) ⨟ word
    kinds.CloseBrace)
    ∣ Node forms.TypeSwitchForm (word kinds.SwitchWord ⨟ init ⨟ maybe (word kinds.Name ⨟ word kinds.Define)
    ⨟ Part (Primary Header) ⨟ word kinds.Dot ⨟ word kinds.OpenParen ⨟ word kinds.TypeWord ⨟ word kinds.CloseParen
    ⨟ word kinds.OpenBrace ⨟ Many (Part CaseClause) ⨟ word kinds.CloseBrace)
grammar CaseClause =
    Node forms.CaseClauseForm ((word kinds.CaseWord ⨟ items ∣ word kinds.DefaultWord) ⨟ word kinds.Colon ⨟ Part Lines)
grammar Comm =
    Node forms.SendForm (Expr Plain ⨟ word kinds.Arrow ⨟ Expr Plain)
    ∣ Node forms.AssignForm (exprs Plain ⨟ word kinds.Assign ⨟ Expr Plain)
    ∣ Node forms.DefineForm (exprs Plain ⨟ word kinds.Define ⨟ Expr Plain)
    ∣ Node forms.ExprForm (Expr Plain)
grammar CommClause =
    Node forms.CommClauseForm
    ((word kinds.CaseWord ⨟ Part Comm ∣ word kinds.DefaultWord) ⨟ word kinds.Colon ⨟ Part Lines)
grammar Loop =
    Node forms.WhileForm (word kinds.ForWord ⨟ maybe (Expr Header) ⨟ Part Block)
    ∣ Node forms.ForForm
    (word kinds.ForWord ⨟ maybe (Part (Simple Header)) ⨟ semicolon ⨟ maybe (Expr Header) ⨟ semicolon ⨟ maybe
    (without_define Header) ⨟ Part Block)
    ∣ Node forms.RangeForm
    (word kinds.ForWord ⨟ maybe (exprs Header ⨟ (word kinds.Assign ∣ word kinds.Define)) ⨟ word kinds.RangeWord ⨟
    Expr Header ⨟ Part Block)
grammar (Simple context) =
    without_define context ∣ Node forms.DefineForm (exprs context ⨟ word kinds.Define ⨟ exprs context)
