-- Operators of arithmetic and logic on two operands. Go specification, "Operators", "Arithmetic operators", "Integer
-- operators", "String concatenation", "Constant expressions" and "Logical operators".
use Rattle.std.specs.Prelude.{◌≡◌, ℤ, pos, Bool, true, false, not, ◌&&◌, if◌then◌else◌, List, [], ◌∷◌, ◌++◌}
use Rattle.std.specs.Prelude.{Option, Some, None, Result, Ok, Err}
use Rattle.std.specs.Ordering.{int_eq}
use Rattle.go_base.specs.declared.ids.TypeId.{TypeId}
use Rattle.go_base.specs.declared.place.Pos.{Pos}
use Rattle.go_base.specs.declared.rule.Rule.{Rule}
use Rattle.go_base.specs.declared.rule.Rule.TheVariants.{BadOperand, DivisionByZero}
use Rattle.go_rules.specs.declared.breach.Breach.{Breach}
use Rattle.go_rules.specs.declared.breach.Part.{Part}
use Rattle.go_rules.specs.declared.breach.Part.TheVariants as part
use Rattle.go_rules.specs.declared.folding.LogicOp.{LogicOp}
use Rattle.go_rules.specs.declared.folding.LogicOp.TheVariants as logic
use Rattle.go_rules.specs.declared.matching.Matched.{Matched}
use Rattle.go_rules.specs.declared.matching.Matched.TheVariants as match_of
use Rattle.go_rules.specs.Folding.{arithmetic_folded, logic_folded}
use Rattle.go_rules.specs.Matching.{matched_types}
use Rattle.go_rules.specs.Operands.{class_at, is_truth, takes}
use Rattle.go_tree.specs.declared.exprs.ExprKind.TheVariants.{AndAlso, BinaryOf, ConstOf, OrElse}
use Rattle.go_tree.specs.declared.exprs.TypedExpr.{TypedExpr}
use Rattle.go_type.specs.declared.constants.Const.{Const}
use Rattle.go_type.specs.declared.constants.Const.TheVariants as constant
use Rattle.go_type.specs.declared.constants.ConstOp.{ConstOp}
use Rattle.go_type.specs.declared.constants.ConstOp.TheVariants as const
use Rattle.go_type.specs.declared.operators.BinaryOp.{BinaryOp}
use Rattle.go_type.specs.declared.operators.BinaryOp.TheVariants as op
use Rattle.go_type.specs.Identity.{Identical}
use Rattle.go_type.specs.Table.{Table}
use Rattle.typed_parts.specs.declared.meaning.Given.{Given}
use Rattle.typed_parts.specs.declared.meaning.Seen.{Seen}
use Rattle.typed_parts.specs.Judged.{Broken, Exactly, IsFine, IsThen, IsWhere, Judged, breaks, fine}
use Rattle.typed_parts.specs.Meanings.{one_value}
use Rattle.typed_parts.specs.Nodes.{node}
use Rattle.typed_parts.specs.Numbers.{integer_of}
use Rattle.typed_operators.specs.declared.binary.Operands.{Operands}
use Rattle.typed_operators.specs.declared.binary.Places.{Places}
use Rattle.typed_operators.specs.declared.pairs.Pair.{Pair}
use Rattle.typed_operators.specs.Made.{IsOnTwo}
use Rattle.typed_operators.specs.Pairs.{IsPaired, constants}

-- ---- what is asked of each operand

abbrev pub broken_unless : Bool → Pos → Rule → List Broken
broken_unless holds at rule = if holds then [] else record { at = at; rule = rule } ∷ []

-- what is asked of an operand, where it is sound
abbrev pub holds_of : (Given → Bool) → Option Given → Bool
holds_of asks None = true
holds_of asks (Some given) = asks given

abbrev pub broken_of : (Given → Bool) → Rule → Option Given → List Broken
broken_of asks rule None = []
broken_of asks rule (Some given) = broken_unless (asks given) given.at rule

-- the operators of arithmetic take integers, and "+" strings too
abbrev pub takes_given : Table → ConstOp → Given → Bool
takes_given types op given = takes op (class_at types given.expr.of)

-- "logical operators apply to boolean values"
abbrev pub truth_given : Table → Given → Bool
truth_given types given = is_truth types given.expr.of

abbrev pub divides : ConstOp → Bool
divides const.Div = true
divides const.Rem = true
divides _ = false

abbrev pub is_zero : Option ℤ → Bool
is_zero (Some number) = int_eq number (pos 0)
is_zero None = false

-- "if the divisor is a constant, it must not be zero"
abbrev pub divisor_given : ConstOp → Given → Bool
divisor_given op given = not (divides op && is_zero (integer_of given.expr))

abbrev pub operands_hold : Table → ConstOp → Option Given → Option Given → Bool
operands_hold types op x y =
    holds_of (takes_given types op) x && holds_of (takes_given types op) y && holds_of (divisor_given op) y

abbrev pub operands_break : Table → ConstOp → Option Given → Option Given → List Broken
operands_break types op x y =
    broken_of (takes_given types op) BadOperand x
    ++ (broken_of (takes_given types op) BadOperand y ++ broken_of (divisor_given op) DivisionByZero y)

abbrev pub truths_hold : Table → Option Given → Option Given → Bool
truths_hold types x y = holds_of (truth_given types) x && holds_of (truth_given types) y

abbrev pub truths_break : Table → Option Given → Option Given → List Broken
truths_break types x y = broken_of (truth_given types) BadOperand x ++ broken_of (truth_given types) BadOperand y

-- two operands that are sound, and whether the operator takes them
abbrev pub operands_of : Option Given → Option Given → Bool → Option Operands
operands_of (Some x) (Some y) taken = Some (record { x = x; y = y; taken = taken })
operands_of (Some x) None taken = None
operands_of None y taken = None

-- each operand is one value, of which the operator asks something
abbrev pub asked_operands : (Option Given → Option Given → Bool) → (Option Given → Option Given → List Broken)
    → Judged Given → Judged Given → Judged Operands
asked_operands hold broken x y = record {
  sound = operands_of x.sound y.sound (hold x.sound y.sound);
  broken = x.broken ++ (y.broken ++ broken x.sound y.sound);
}

abbrev pub arithmetic_operands : Table → ConstOp → Seen → Seen → Judged Operands
arithmetic_operands types op x y =
    asked_operands (operands_hold types op) (operands_break types op) (one_value types x) (one_value types y)

abbrev pub logic_operands : Table → Seen → Seen → Judged Operands
logic_operands types x y =
    asked_operands (truths_hold types) (truths_break types) (one_value types x) (one_value types y)

-- ---- their common type or kind

-- "the operand types must be identical unless the operation involves shifts or untyped constants"
pub data IsMatchedAlike (types : Table) (x y : TypeId) : Option Matched → Type 0 where
  alike : matched_types types x y ≡ Some match_of.Typed → Identical types x y
      → IsMatchedAlike types x y (Some match_of.Typed)
  differ : matched_types types x y ≡ Some match_of.Typed → (Identical types x y → ⊥) → IsMatchedAlike types x y None
  become : (how : Matched) → matched_types types x y ≡ Some how → (how ≡ match_of.Typed → ⊥)
      → IsMatchedAlike types x y (Some how)
  mismatch : matched_types types x y ≡ None → IsMatchedAlike types x y None

-- two operands made alike
pub data IsAlike (types : Table) (x y : Given) : Judged Pair → Type 0 where
  matched : (how : Matched) (result : Judged Pair) → IsMatchedAlike types x.expr.of y.expr.of (Some how)
      → IsPaired types how x.expr y.expr result → IsAlike types x y result
  mismatched : IsMatchedAlike types x.expr.of y.expr.of None → IsAlike types x y (breaks x.at BadOperand)

-- ---- arithmetic

abbrev pub binary_op : ConstOp → BinaryOp
binary_op const.Add = op.Add
binary_op const.Sub = op.Sub
binary_op const.Mul = op.Mul
binary_op const.Div = op.Div
binary_op const.Rem = op.Rem
binary_op const.And = op.And
binary_op const.Or = op.Or
binary_op const.Xor = op.Xor
binary_op const.AndNot = op.AndNot

abbrev pub places_of : Operands → Places
places_of operands = record { whole = operands.x.at; second = operands.y.at }

abbrev pub place_in : Places → Part → Pos
place_in places part.Second = places.second
place_in places _ = places.whole

abbrev pub folded_node : Places → TypeId → Result Const Breach → Judged TypedExpr
folded_node places of (Ok value) = fine (node places.whole of (ConstOf value))
folded_node places of (Err breach) = breaks (place_in places breach.part) breach.rule

-- a constant where both operands are constants, and else a node of the two; of their type or kind
abbrev pub IsCombinedOf : Table → ConstOp → Places → Pair → Option (Const × Const) → Judged TypedExpr → Type 0
IsCombinedOf types op places pair (Some (a, b)) result =
    result ≡ folded_node places pair.left.of (arithmetic_folded types op a b pair.left.of)
IsCombinedOf types op places pair None result =
    IsFine (IsOnTwo places.whole pair.left.of (BinaryOf (binary_op op)) pair.left pair.right) result

abbrev pub IsCombined : Table → ConstOp → Places → Pair → Judged TypedExpr → Type 0
IsCombined types op places pair result = IsCombinedOf types op places pair (constants pair) result

abbrev pub IsOperated : Table → ConstOp → Operands → Judged TypedExpr → Type 0
IsOperated types op operands result =
    IsThen (IsAlike types operands.x operands.y)
    (λ pair. IsWhere operands.taken (IsCombined types op (places_of operands) pair)) result

-- "x op y" of arithmetic
abbrev pub IsArithmetic : Table → ConstOp → Seen → Seen → Judged TypedExpr → Type 0
IsArithmetic types op x y result = IsThen (Exactly (arithmetic_operands types op x y)) (IsOperated types op) result

-- ---- logic

abbrev pub truths : Option (Const × Const) → Option (Bool × Bool)
truths (Some (constant.Truth a, constant.Truth b)) = Some (a, b)
truths _ = None

abbrev pub IsJunctionOf : LogicOp → Pos → Pair → Option (Bool × Bool) → Judged TypedExpr → Type 0
IsJunctionOf op at pair (Some (a, b)) result =
    result ≡ fine (node at pair.left.of (ConstOf (constant.Truth (logic_folded op a b))))
IsJunctionOf logic.And at pair None result = IsFine (IsOnTwo at pair.left.of AndAlso pair.left pair.right) result
IsJunctionOf logic.Or at pair None result = IsFine (IsOnTwo at pair.left.of OrElse pair.left pair.right) result

abbrev pub IsJunction : LogicOp → Pos → Pair → Judged TypedExpr → Type 0
IsJunction op at pair result = IsJunctionOf op at pair (truths (constants pair)) result

abbrev pub IsJoined : Table → LogicOp → Operands → Judged TypedExpr → Type 0
IsJoined types op operands result =
    IsThen (IsAlike types operands.x operands.y)
    (λ pair. IsWhere operands.taken (IsJunction op operands.x.at pair)) result

-- "x && y" and "x || y"
abbrev pub IsLogical : Table → LogicOp → Seen → Seen → Judged TypedExpr → Type 0
IsLogical types op x y result = IsThen (Exactly (logic_operands types x y)) (IsJoined types op) result
