-- Shifts. Go specification, "Operators" and "Arithmetic operators".
use Rattle.std.specs.Prelude.{◌≡◌, ℤ, pos, int_lt, Bool, true, false, not, ◌++◌, Option, Some, None}
use Rattle.std.specs.Option.{option_zip}
use Rattle.go_base.specs.declared.ids.TypeId.{TypeId}
use Rattle.go_base.specs.declared.place.Pos.{Pos}
use Rattle.go_base.specs.declared.rule.Rule.TheVariants.{BadShift}
use Rattle.go_rules.specs.Folding.{shift_folded}
use Rattle.go_rules.specs.Operands.{is_integer}
use Rattle.go_tree.specs.declared.exprs.ExprKind.TheVariants.{BinaryOf}
use Rattle.go_tree.specs.declared.exprs.TypedExpr.{TypedExpr}
use Rattle.go_type.specs.declared.constants.ConstOp.{ConstOp}
use Rattle.go_type.specs.declared.operators.BinaryOp.{BinaryOp}
use Rattle.go_type.specs.declared.operators.BinaryOp.TheVariants as op
use Rattle.go_type.specs.declared.term.Basic.TheVariants as basic
use Rattle.go_type.specs.Operators.{int_op_of}
use Rattle.go_type.specs.Table.{Table, basic_id}
use Rattle.typed_parts.specs.declared.meaning.Given.{Given}
use Rattle.typed_parts.specs.declared.meaning.Seen.{Seen}
use Rattle.typed_parts.specs.Joining.{asked}
use Rattle.typed_parts.specs.Judged.{Exactly, IsFine, IsThen, Judged, and_then, judged}
use Rattle.typed_parts.specs.Meanings.{one_value}
use Rattle.typed_parts.specs.Numbers.{integer_of}
use Rattle.typed_parts.specs.Retyping.{IsAsUntyped, constant_node}
use Rattle.typed_operators.specs.Binary.{IsArithmetic}
use Rattle.typed_operators.specs.Made.{IsOnTwo}

-- "the right operand in a shift expression must have integer type or be an untyped constant representable by a value of
-- type uint", and the left one is an integer too
abbrev pub shift_operand : Table → Given → Judged Given
shift_operand types given = asked given (is_integer types given.expr.of) BadShift

abbrev pub is_negative : Option ℤ → Bool
is_negative (Some number) = int_lt number (pos 0)
is_negative None = false

-- a constant count is not negative
abbrev pub count_given : Given → Judged Given
count_given given = asked given (not (is_negative (integer_of given.expr))) BadShift

abbrev pub shift_value : Table → Option Given → Judged Given
shift_value types given = judged given (shift_operand types)

abbrev pub count_value : Table → Option Given → Judged Given
count_value types given = and_then (shift_value types given) count_given

-- the count; an untyped one becomes "uint"
abbrev pub IsCount : Table → Option Given → Judged TypedExpr → Type 0
IsCount types given result =
    IsThen (Exactly (count_value types given)) (λ y. IsAsUntyped types (basic_id basic.Uint) y.expr) result

abbrev pub shift_op : Bool → BinaryOp
shift_op true = op.ShiftLeft
shift_op false = op.ShiftRight

-- a shift of a constant by a constant, which its type has to have
abbrev pub shifted : Table → Bool → Pos → ℤ → ℤ → TypeId → Judged TypedExpr
shifted types left at a count of = constant_node at of (shift_folded types left a count of)

abbrev pub IsShiftedOf : Table → Bool → Given → TypedExpr → Option (ℤ × ℤ) → Judged TypedExpr → Type 0
IsShiftedOf types left x count (Some (a, b)) result = result ≡ shifted types left x.at a b x.expr.of
IsShiftedOf types left x count None result =
    IsFine (IsOnTwo x.at x.expr.of (BinaryOf (shift_op left)) x.expr count) result

-- the result has the type or kind of the left operand
abbrev pub IsShiftedBy : Table → Bool → Given → TypedExpr → Judged TypedExpr → Type 0
IsShiftedBy types left x count result =
    IsShiftedOf types left x count (option_zip (integer_of x.expr) (integer_of count)) result

abbrev pub shift_operands : Judged Given → Judged Given → Judged Given → Judged TypedExpr → Judged (Given × TypedExpr)
shift_operands x y value count = record {
  sound = option_zip value.sound count.sound;
  broken = x.broken ++ (y.broken ++ (value.broken ++ count.broken));
}

-- both operands are asked, each for itself
abbrev pub AreShiftOperands : Table → Seen → Seen → Judged (Given × TypedExpr) → Type 0
AreShiftOperands types x y result =
    (count : Judged TypedExpr) × (IsCount types (one_value types y).sound count
    × (result ≡ shift_operands (one_value types x) (one_value types y)
    (shift_value types (one_value types x).sound) count))

-- "x << y" and "x >> y"
abbrev pub IsShift : Table → Bool → Seen → Seen → Judged TypedExpr → Type 0
IsShift types left x y result = IsThen (AreShiftOperands types x y) (λ p. IsShiftedBy types left p.0 p.1) result

abbrev pub is_left : BinaryOp → Bool
is_left op.ShiftLeft = true
is_left _ = false

abbrev pub IsBinaryOf : Table → BinaryOp → Option ConstOp → Seen → Seen → Judged TypedExpr → Type 0
IsBinaryOf types op (Some int_op) x y result = IsArithmetic types int_op x y result
IsBinaryOf types op None x y result = IsShift types (is_left op) x y result

-- an operator whose result has the type of its operands, or for shifts of the left one
abbrev pub IsBinary : Table → BinaryOp → Seen → Seen → Judged TypedExpr → Type 0
IsBinary types op x y result = IsBinaryOf types op (int_op_of op) x y result
