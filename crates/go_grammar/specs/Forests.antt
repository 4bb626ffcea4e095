-- Trees: nodes and tokens in the order in which they are written.
use Rattle.std.specs.Prelude.{List, [], ◌∷◌, ◌++◌}
use Rattle.go_ast.specs.declared.token.Token.{Token}

-- what a node is
pub data Form : Type 0 where
  -- files and declarations
  FileForm ImportForm ImportSpecForm ConstForm TypeDeclForm VarForm FuncForm ValueSpecForm TypeSpecForm : Form
  -- types
  TypeNameForm ParenTypeForm PointerForm SliceForm ArrayForm OpenArrayForm MapForm ChanForm ReceiveChanForm FunctionForm
      StructForm InterfaceForm : Form
  SignatureForm ParamsForm ParamForm NamedFieldForm EmbeddedFieldForm MethodForm EmbeddedElementForm : Form
  -- expressions
  IntForm RuneForm TextForm NameForm ParenForm LiteralFunctionForm TypeOperandForm CompositeForm ElementForm : Form
  SelectorForm AssertionForm IndexForm SliceExprForm FullSliceForm CallForm UnaryForm BinaryForm : Form
  -- statements
  BlockForm LineForm LabeledForm ExprForm SendForm StepForm AssignForm DefineForm : Form
  GoForm DeferForm ReturnForm BreakForm ContinueForm FallthroughForm IfForm ArmForm SwitchForm TypeSwitchForm
      CaseClauseForm : Form
  SelectForm CommClauseForm WhileForm ForForm RangeForm : Form

-- trees side by side: a token, or a node with what is below it, and what stands behind
pub data Forest : Type 0 where
  empty : Forest
  leaf : (token : Token) (behind : Forest) → Forest
  node : (form : Form) (below behind : Forest) → Forest

abbrev pub append : Forest → Forest → Forest
append empty right = right
append (leaf token behind) right = leaf token (append behind right)
append (node form below behind) right = node form below (append behind right)

-- the tokens, from left to right
abbrev pub yield : Forest → List Token
yield empty = []
yield (leaf token behind) = token ∷ yield behind
yield (node form below behind) = yield below ++ yield behind
