-- What statements and declarations ask of expressions. Go specification, "If statements", "Constant declarations",
-- "Array types", "Assignment statements", "IncDec statements", "Send statements", "Switch statements" and "For
-- statements".
use Rattle.std.specs.Prelude.{◌≡◌, ℕ, ◌^◌, ◌-◌, nat_lt, ℤ, pos, negsuc, Bool, true, false, ◌||◌, if◌then◌else◌, is_some}
use Rattle.std.specs.Prelude.{◌++◌, Option, Some, None}
use Rattle.go_base.specs.declared.ids.TypeId.{TypeId}
use Rattle.go_base.specs.declared.rule.Rule.TheVariants.{BadArrayLength, BadChannelOperation, BadRange, CannotAssign}
use Rattle.go_base.specs.declared.rule.Rule.TheVariants.{ConditionNotBoolean, NotAConstant}
use Rattle.go_rules.specs.Operands.{class_at, is_truth, ordered}
use Rattle.go_tree.specs.declared.exprs.ExprKind.{ExprKind}
use Rattle.go_tree.specs.declared.exprs.Callee.TheOpen as layers
use Rattle.go_tree.specs.declared.exprs.Callee.TheViews.{out-ExprKind}
use Rattle.go_tree.specs.declared.exprs.Callee.{Callee}
use Rattle.go_tree.specs.declared.exprs.Elements.{Elements}
use Rattle.go_tree.specs.declared.exprs.EntryInit.{EntryInit}
use Rattle.go_tree.specs.declared.exprs.ExprKind.TheVariants.{ConstOf}
use Rattle.go_tree.specs.declared.exprs.FieldInit.{FieldInit}
use Rattle.go_tree.specs.declared.exprs.ItemInit.{ItemInit}
use Rattle.go_tree.specs.declared.exprs.Values.{Values}
use Rattle.go_tree.specs.declared.exprs.TypedExpr.{TypedExpr}
use Rattle.go_tree.specs.declared.stmts.RangeOver.{RangeOver}
use Rattle.go_tree.specs.declared.stmts.RangeOver.TheVariants as over
use Rattle.go_type.specs.declared.constants.Const.TheVariants as constant
use Rattle.go_type.specs.declared.term.Basic.TheVariants as basic
use Rattle.go_type.specs.declared.term.Dir.{Dir}
use Rattle.go_type.specs.declared.term.Dir.TheVariants as dir
use Rattle.go_type.specs.declared.term.TypeTerm.{TypeTerm}
use Rattle.go_type.specs.declared.term.TypeTerm.TheVariants.{Chan}
use Rattle.go_type.specs.Assignable.{underlying_term_of}
use Rattle.go_type.specs.Table.{Table, basic_id}
use Rattle.typed_parts.specs.declared.meaning.Given.{Given}
use Rattle.typed_parts.specs.declared.meaning.Seen.{Seen}
use Rattle.typed_parts.specs.declared.shapes.Shape.{Shape}
use Rattle.typed_parts.specs.declared.shapes.Shape.TheVariants as shape
use Rattle.typed_parts.specs.Joining.{asked}
use Rattle.typed_parts.specs.Adapting.{IsAssigned, IsAssignedTo, IsByDefault}
use Rattle.typed_parts.specs.Judged.{Exactly, IsThen, Judged, and_then, breaks, fine, judged}
use Rattle.typed_parts.specs.Looks.{holds_call, is_place}
use Rattle.typed_parts.specs.Meanings.{one_value}
use Rattle.typed_parts.specs.Nodes.{node}
use Rattle.typed_parts.specs.Numbers.{constant_in, integer_of}
use Rattle.typed_parts.specs.Shapes.{is_untyped_text, shape_of}
use Rattle.typed_parts.specs.Wholes.{IsTextWhere}
use Rattle.typed_operators.specs.declared.stating.RangeParts.{RangeParts}
use Rattle.typed_operators.specs.declared.stating.Ranged.{Ranged}
use Rattle.typed_operators.specs.declared.stating.Sent.{Sent}
use Rattle.typed_operators.specs.declared.stating.Stepped.{Stepped}
use Rattle.typed_operators.specs.Unary.{receives, signed}

-- "the condition" of "if" and "for" is a boolean, and an untyped one becomes "bool"
abbrev pub condition_given : Table → Given → Judged Given
condition_given types given = asked given (is_truth types given.expr.of) ConditionNotBoolean

abbrev pub condition_value : Table → Seen → Judged Given
condition_value types part = and_then (one_value types part) (condition_given types)

abbrev pub IsCondition : Table → Seen → Judged TypedExpr → Type 0
IsCondition types part result = IsThen (Exactly (condition_value types part)) (IsByDefault types) result

-- the tag of a switch takes its default type
abbrev pub IsSwitchTag : Table → Seen → Judged TypedExpr → Type 0
IsSwitchTag types part result = IsThen (Exactly (one_value types part)) (IsByDefault types) result

abbrev pub constant_given : Given → Judged Given
constant_given given = asked given (is_some (constant_in given.expr.kind)) NotAConstant

-- a constant, which is one value
abbrev pub one_constant : Table → Seen → Judged Given
one_constant types part = and_then (one_value types part) constant_given

-- "there are boolean constants, rune constants, integer constants, and string constants"
abbrev pub has_constants : Table → TypeId → Bool
has_constants types of = ordered (class_at types of) || is_truth types of

-- a constant stays as it is, or is assigned to the type that is written
abbrev pub IsConstantAs : Table → Option TypeId → Given → Judged TypedExpr → Type 0
IsConstantAs types (Some to) given result =
    IsThen (Exactly (asked given (has_constants types to) NotAConstant)) (λ x. IsAssigned types x to) result
IsConstantAs types None given result = result ≡ fine given.expr

abbrev pub IsConstantValue : Table → Seen → Option TypeId → Judged TypedExpr → Type 0
IsConstantValue types part to result = IsThen (Exactly (one_constant types part)) (IsConstantAs types to) result

-- "it must evaluate to a non-negative constant representable by a value of type int"
abbrev pub length_from : ℤ → Option ℕ
length_from (pos number) = if nat_lt (2 ^ 63 - 1) number then None else Some number
length_from (negsuc number) = None

abbrev pub known_length : Option ℤ → Option ℕ
known_length (Some number) = length_from number
known_length None = None

abbrev pub length_given : Given → Option ℕ → Judged ℕ
length_given given (Some len) = fine len
length_given given None = breaks given.at BadArrayLength

abbrev pub array_length : Table → Seen → Judged ℕ
array_length types part =
    and_then (one_constant types part) (λ given. length_given given (known_length (integer_of given.expr)))

abbrev pub sends : Dir → Bool
sends dir.Both = true
sends dir.Send = true
sends dir.Receive = false

-- "the channel direction must permit send operations"
abbrev pub sent_term : Option TypeTerm → Option TypeId
sent_term (Some (Chan direction elem)) = if sends direction then Some elem else None
sent_term _ = None

abbrev pub sent_elem : Table → TypeId → Option TypeId
sent_elem types of = sent_term (underlying_term_of types of)

abbrev pub sent_to : Table → Given → Judged Given
sent_to types given = asked given (is_some (sent_elem types given.expr.of)) BadChannelOperation

abbrev pub elem_sent : Table → Option Given → Option TypeId
elem_sent types (Some channel) = sent_elem types channel.expr.of
elem_sent types None = None

abbrev pub sent_channel : Table → Option Given → Judged Given
sent_channel types channel = judged channel (sent_to types)

abbrev pub sent_of : Option Given → Option TypedExpr → Option Sent
sent_of (Some channel) (Some value) = Some (record { channel = channel.expr; value = value })
sent_of (Some channel) None = None
sent_of None value = None

abbrev pub send_parts : Judged Given → Judged Given → Judged Given → Judged TypedExpr → Judged Sent
send_parts channel value open_channel sent = record {
  sound = sent_of open_channel.sound sent.sound;
  broken = channel.broken ++ (value.broken ++ (open_channel.broken ++ sent.broken));
}

-- "the value to be sent must be assignable to the channel's element type"
abbrev pub IsSend : Table → Seen → Seen → Judged Sent → Type 0
IsSend types channel value result =
    (sent : Judged TypedExpr)
    × (IsAssignedTo types (one_value types value).sound
    (elem_sent types (sent_channel types (one_value types channel).sound).sound) sent
    × (result ≡ send_parts (one_value types channel) (one_value types value)
    (sent_channel types (one_value types channel).sound) sent))

abbrev pub ranged : RangeOver → TypeId → Option TypeId → Option ℕ → RangeParts
ranged over key value len = record { over = over; key = key; value = value; len = len }

-- the first and the second value of a range, by what it goes over
abbrev pub shape_ranged : Shape → Option RangeParts
shape_ranged shape.Text = Some (ranged over.Text (basic_id basic.Int) (Some (basic_id basic.Int32)) None)
shape_ranged (shape.Slice elem) = Some (ranged over.Slice (basic_id basic.Int) (Some elem) None)
shape_ranged (shape.Map key elem) = Some (ranged over.Map key (Some elem) None)
shape_ranged (shape.Array len elem) = Some (ranged over.Array (basic_id basic.Int) (Some elem) (Some len))
shape_ranged (shape.ArrayPointer array len elem) =
    Some (ranged over.ArrayPointer (basic_id basic.Int) (Some elem) (Some len))
shape_ranged (shape.Chan direction elem) =
    if receives direction then Some (ranged over.Channel elem None None) else None

abbrev pub range_parts : Option Shape → Option RangeParts
range_parts (Some shape) = shape_ranged shape
range_parts None = None

-- a range over an array or a pointer to one has so many rounds where no call stands in the operand
abbrev pub rounds : Option ℕ → Bool → Option ℕ
rounds len calls = if calls then None else len

abbrev pub range_over : RangeParts → TypedExpr → Ranged
range_over parts operand = record {
  over = parts.over;
  operand = operand;
  key = parts.key;
  value = parts.value;
  constant = rounds parts.len (holds_call operand);
}

abbrev pub range_where : Given → Option RangeParts → Judged Ranged
range_where given (Some parts) = fine (range_over parts given.expr)
range_where given None = breaks given.at BadRange

abbrev pub range_given : Table → Given → Judged Ranged
range_given types given = range_where given (range_parts (shape_of types given.expr.of))

-- the operand of a range is one value; an untyped string is one of type "string"
abbrev pub IsRangeValue : Table → Seen → Judged Given → Type 0
IsRangeValue types part result =
    IsThen (Exactly (one_value types part))
    (λ given. IsTextWhere types given (is_untyped_text types given.expr.of)) result

-- "an array, pointer to an array, slice, string, map, or channel permitting receive operations"
abbrev pub IsRange : Table → Seen → Judged Ranged → Type 0
IsRange types part result = IsThen (IsRangeValue types part) (λ given. Exactly (range_given types given)) result

abbrev pub map_element_layer : layers.ExprKind-F Callee Elements ExprKind Values EntryInit FieldInit ItemInit TypedExpr
    → Bool
map_element_layer (layers.ExprKind-F.MapIndex table key comma_ok) = true
map_element_layer _ = false

abbrev pub is_map_element : ExprKind → Bool
is_map_element kind = map_element_layer (out-ExprKind kind)

-- "Each left-hand side operand must be addressable, a map index expression, or the blank identifier"
abbrev pub is_target : TypedExpr → Bool
is_target x = is_map_element x.kind || is_place x

abbrev pub target_given : Given → Judged Given
target_given given = asked given (is_target given.expr) CannotAssign

-- a value that is assigned to, which is one value
abbrev pub target : Table → Seen → Judged Given
target types part = and_then (one_value types part) target_given

-- "the "++" and "--" statements increment or decrement their operands by the untyped constant 1", as in an assignment
abbrev pub stepped : Table → Seen → Judged Given
stepped types part = and_then (signed types part) target_given

abbrev pub one_more : TypedExpr → Stepped
one_more target = record { target = target; one = node target.at target.of (ConstOf (constant.Int (pos 1))) }
