-- Operators on one operand. Go specification, "Operators", "Arithmetic operators", "Logical operators", "Address
-- operators" and "Receive operator".
use Rattle.std.specs.Prelude.{◌≡◌, Bool, true, false, ◌||◌, if◌then◌else◌, is_some, Option, Some, None}
use Rattle.std.specs.Global.{Box}
use Rattle.go_base.specs.declared.ids.TypeId.{TypeId}
use Rattle.go_base.specs.declared.place.Pos.{Pos}
use Rattle.go_base.specs.declared.rule.Rule.TheVariants.{BadChannelOperation, BadOperand}
use Rattle.go_rules.specs.Folding.{unary_folded}
use Rattle.go_rules.specs.Operands.{is_integer, is_truth}
use Rattle.go_rules.specs.Untyped.{kind_at}
use Rattle.go_tree.specs.declared.exprs.ExprKind.{ExprKind}
use Rattle.go_tree.specs.declared.exprs.ExprKind.TheVariants.{ConvertTo, Deref, Receive, UnaryOf}
use Rattle.go_tree.specs.declared.exprs.TypedExpr.{TypedExpr}
use Rattle.go_type.specs.declared.constants.Const.{Const}
use Rattle.go_type.specs.declared.operators.UnaryOp.{UnaryOp}
use Rattle.go_type.specs.declared.operators.UnaryOp.TheVariants as unary
use Rattle.go_type.specs.declared.term.Dir.{Dir}
use Rattle.go_type.specs.declared.term.Dir.TheVariants as dir
use Rattle.go_type.specs.declared.term.TypeTerm.{TypeTerm}
use Rattle.go_type.specs.declared.term.TypeTerm.TheVariants.{Chan}
use Rattle.go_type.specs.Assignable.{underlying_term_of}
use Rattle.go_type.specs.Table.{Table}
use Rattle.typed_parts.specs.declared.meaning.Given.{Given}
use Rattle.typed_parts.specs.declared.meaning.Seen.{Seen}
use Rattle.typed_parts.specs.Joining.{asked}
use Rattle.typed_parts.specs.Judged.{Exactly, IsFine, IsThen, Judged, and_then, breaks}
use Rattle.typed_parts.specs.Meanings.{one_value}
use Rattle.typed_parts.specs.Nodes.{node}
use Rattle.typed_parts.specs.Numbers.{constant_in}
use Rattle.typed_parts.specs.Retyping.{constant_node}
use Rattle.typed_parts.specs.Shapes.{pointed}
use Rattle.typed_operators.specs.declared.unary.SignOp.{SignOp}
use Rattle.typed_operators.specs.declared.unary.SignOp.TheVariants as sign_op
use Rattle.typed_operators.specs.Made.{IsOnOne}

-- "+", "-" and "^" apply to integers
abbrev pub signed_given : Table → Given → Judged Given
signed_given types given = asked given (is_integer types given.expr.of) BadOperand

-- the operand of a sign, which is one value
abbrev pub signed : Table → Seen → Judged Given
signed types part = and_then (one_value types part) (signed_given types)

-- an operator on a constant gives a constant, which its type has to have
abbrev pub folded : Table → Pos → UnaryOp → TypeId → Const → Judged TypedExpr
folded types at op of value = constant_node at of (unary_folded types op value of)

abbrev pub IsOperationOf : Table → Pos → UnaryOp → TypedExpr → Option Const → Judged TypedExpr → Type 0
IsOperationOf types at op x (Some value) result = result ≡ folded types at op x.of value
IsOperationOf types at op x None result = IsFine (IsOnOne at x.of (UnaryOf op) x) result

-- the result has the type of the operand
abbrev pub IsOperation : Table → Pos → UnaryOp → TypedExpr → Judged TypedExpr → Type 0
IsOperation types at op x result = IsOperationOf types at op x (constant_in x.kind) result

-- a constant, or an operand without a type
abbrev pub is_plain : Table → TypedExpr → Bool
is_plain types x = is_some (constant_in x.kind) || is_some (kind_at types x.of)

abbrev pub IsPlusOf : Pos → TypedExpr → Bool → TypedExpr → Type 0
IsPlusOf at x true made = made ≡ node at x.of x.kind
IsPlusOf at x false made = IsOnOne at x.of ConvertTo x made

-- "+x is 0 + x": the value of the operand, which is no variable
abbrev pub IsPlus : Table → Pos → TypedExpr → TypedExpr → Type 0
IsPlus types at x made = IsPlusOf at x (is_plain types x) made

abbrev pub IsSignedAs : Table → Pos → SignOp → Given → Judged TypedExpr → Type 0
IsSignedAs types at sign_op.Plus given result = IsFine (IsPlus types at given.expr) result
IsSignedAs types at sign_op.Minus given result = IsOperation types at unary.Negate given.expr result
IsSignedAs types at sign_op.Complement given result = IsOperation types at unary.Complement given.expr result

-- "+x", "-x" and "^x"
abbrev pub IsSign : Table → Pos → SignOp → Seen → Judged TypedExpr → Type 0
IsSign types at op part result = IsThen (Exactly (signed types part)) (IsSignedAs types at op) result

-- "!" applies to booleans
abbrev pub boolean_given : Table → Given → Judged Given
boolean_given types given = asked given (is_truth types given.expr.of) BadOperand

abbrev pub boolean : Table → Seen → Judged Given
boolean types part = and_then (one_value types part) (boolean_given types)

-- "!x"
abbrev pub IsNegation : Table → Pos → Seen → Judged TypedExpr → Type 0
IsNegation types at part result =
    IsThen (Exactly (boolean types part)) (λ given. IsOperation types at unary.Not given.expr) result

abbrev pub receives : Dir → Bool
receives dir.Both = true
receives dir.Receive = true
receives dir.Send = false

-- "the channel direction must permit receive operations"
abbrev pub received : Option TypeTerm → Option TypeId
received (Some (Chan direction elem)) = if receives direction then Some elem else None
received _ = None

abbrev pub receipt : Box TypedExpr → ExprKind
receipt channel = Receive channel false

abbrev pub IsReceiptOf : Pos → Given → Option TypeId → Judged TypedExpr → Type 0
IsReceiptOf at given (Some elem) result = IsFine (IsOnOne at elem receipt given.expr) result
IsReceiptOf at given None result = result ≡ breaks given.at BadChannelOperation

abbrev pub IsReceipt : Table → Pos → Given → Judged TypedExpr → Type 0
IsReceipt types at given result = IsReceiptOf at given (received (underlying_term_of types given.expr.of)) result

-- "<-x": the value received, of the type of the elements of the channel
abbrev pub IsReceive : Table → Pos → Seen → Judged TypedExpr → Type 0
IsReceive types at part result = IsThen (Exactly (one_value types part)) (IsReceipt types at) result

abbrev pub IsIndirectOf : Pos → Given → Option TypeId → Judged TypedExpr → Type 0
IsIndirectOf at given (Some base) result = IsFine (IsOnOne at base Deref given.expr) result
IsIndirectOf at given None result = result ≡ breaks given.at BadOperand

abbrev pub IsIndirect : Table → Pos → Given → Judged TypedExpr → Type 0
IsIndirect types at given result = IsIndirectOf at given (pointed types given.expr.of) result

-- "*x denotes the variable of type T pointed to by x"
abbrev pub IsDereference : Table → Pos → Seen → Judged TypedExpr → Type 0
IsDereference types at part result = IsThen (Exactly (one_value types part)) (IsIndirect types at) result
