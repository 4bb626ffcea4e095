-- Comparisons. Go specification, "Comparison operators" and "Expression switches".
use Rattle.std.specs.Prelude.{◌≡◌, Bool, true, false, ◌||◌, ◌⊎◌, ◌++◌, Option, Some, None}
use Rattle.go_base.specs.declared.ids.TypeId.{TypeId}
use Rattle.go_base.specs.declared.place.Pos.{Pos}
use Rattle.go_base.specs.declared.rule.Rule.TheVariants.{NotComparable}
use Rattle.go_rules.specs.declared.matching.Matched.{Matched}
use Rattle.go_rules.specs.declared.matching.Matched.TheVariants as match_of
use Rattle.go_rules.specs.declared.untyped.Untyped.TheVariants as kind
use Rattle.go_rules.specs.Folding.{compared}
use Rattle.go_rules.specs.Matching.{compared_types}
use Rattle.go_rules.specs.Operands.{TakesComparison}
use Rattle.go_tree.specs.declared.exprs.ExprKind.TheVariants.{CompareOf, ConstOf}
use Rattle.go_tree.specs.declared.exprs.TypedExpr.{TypedExpr}
use Rattle.go_tree.specs.declared.stmts.TypedCase.{TypedCase}
use Rattle.go_type.specs.declared.constants.Const.{Const}
use Rattle.go_type.specs.declared.constants.Const.TheVariants as constant
use Rattle.go_type.specs.declared.operators.CompareOp.{CompareOp}
use Rattle.go_type.specs.declared.operators.CompareOp.TheVariants as compare
use Rattle.go_type.specs.declared.term.Basic.TheVariants as basic
use Rattle.go_type.specs.Assignable.{Assignable}
use Rattle.go_type.specs.Table.{Table, basic_id}
use Rattle.typed_parts.specs.declared.meaning.Given.{Given}
use Rattle.typed_parts.specs.declared.meaning.Seen.{Seen}
use Rattle.typed_parts.specs.Adapting.{IsMade}
use Rattle.typed_parts.specs.Judged.{Exactly, IsFine, IsThen, Judged, breaks, fine}
use Rattle.typed_parts.specs.Meanings.{one_value}
use Rattle.typed_parts.specs.Nodes.{node, untyped}
use Rattle.typed_parts.specs.Retyping.{IsDefaulted, IsGiven}
use Rattle.typed_parts.specs.Shapes.{is_nil}
use Rattle.typed_operators.specs.declared.pairs.Pair.{Pair}
use Rattle.typed_operators.specs.Made.{IsOnTwo}
use Rattle.typed_operators.specs.Pairs.{IsPaired, both_judged, constants, pair, two_values}

abbrev pub tests_equality : CompareOp → Bool
tests_equality compare.Equal = true
tests_equality compare.NotEqual = true
tests_equality _ = false

abbrev pub with_nil : Table → TypeId → TypeId → Bool
with_nil types x y = is_nil types x || is_nil types y

-- what two operands become where they may be compared. "In any comparison, the first operand must be assignable to the
-- type of the second operand, or vice versa"; nil is compared by "==" and "!=" alone
pub data IsMatchedFor (types : Table) (op : CompareOp) (x y : TypeId) : Option Matched → Type 0 where
  equal_nil : (how : Option Matched) → with_nil types x y ≡ true → tests_equality op ≡ true
      → compared_types types x y ≡ how → IsMatchedFor types op x y how
  ordered_nil : with_nil types x y ≡ true → tests_equality op ≡ false → IsMatchedFor types op x y None
  passes : with_nil types x y ≡ false → compared_types types x y ≡ Some match_of.Typed
      → Assignable types x y ⊎ Assignable types y x → IsMatchedFor types op x y (Some match_of.Typed)
  differs : with_nil types x y ≡ false → compared_types types x y ≡ Some match_of.Typed
      → (Assignable types x y → ⊥) → (Assignable types y x → ⊥) → IsMatchedFor types op x y None
  becomes : (how : Matched) → with_nil types x y ≡ false → compared_types types x y ≡ Some how
      → (how ≡ match_of.Typed → ⊥) → IsMatchedFor types op x y (Some how)
  mismatch : with_nil types x y ≡ false → compared_types types x y ≡ None → IsMatchedFor types op x y None

-- "slice, map, and function types are not comparable", and only integers and strings are ordered; any value to which
-- nil may be assigned is compared with nil
pub data IsAsked (types : Table) (op : CompareOp) (at : Pos) (nil : Bool) (operands : Pair) : Judged Pair → Type 0 where
  of_nil : nil ≡ true → IsAsked types op at nil operands (fine operands)
  taken : TakesComparison types op operands.left.of → TakesComparison types op operands.right.of
      → IsAsked types op at nil operands (fine operands)
  refused : nil ≡ false → ((TakesComparison types op operands.left.of × TakesComparison types op operands.right.of) → ⊥)
      → IsAsked types op at nil operands (breaks at NotComparable)

abbrev pub IsPairMatched : Table → CompareOp → Matched → Given → Given → Judged Pair → Type 0
IsPairMatched types op how x y result =
    IsThen (IsPaired types how x.expr y.expr) (IsAsked types op x.at (with_nil types x.expr.of y.expr.of)) result

-- two operands as they are compared
pub data IsComparablePair (types : Table) (op : CompareOp) (x y : Given) : Judged Pair → Type 0 where
  matched : (how : Matched) (result : Judged Pair) → IsMatchedFor types op x.expr.of y.expr.of (Some how)
      → IsPairMatched types op how x y result → IsComparablePair types op x y result
  mismatched : IsMatchedFor types op x.expr.of y.expr.of None
      → IsComparablePair types op x y (breaks x.at NotComparable)

-- the left operand takes the type of the right one if it may, and else the right one that of the left
pub data IsLevelled (types : Table) (left right : TypedExpr) : Pair → Type 0 where
  left_made : (made : TypedExpr) → Assignable types left.of right.of → IsMade types left right.of made
      → IsLevelled types left right (pair made right)
  right_made : (made : TypedExpr) → (Assignable types left.of right.of → ⊥) → IsMade types right left.of made
      → IsLevelled types left right (pair left made)

-- the comparison of two values, an untyped boolean
abbrev pub AreCompared : Table → CompareOp → Pos → Pair → TypedExpr → Type 0
AreCompared types op at operands made =
    (level : Pair) × (IsLevelled types operands.left operands.right level
    × IsOnTwo at (untyped kind.Bool) (CompareOf op) level.left level.right made)

-- untyped operands that are no constants take their default types
abbrev pub AreDefaulted : Table → Pair → Judged Pair → Type 0
AreDefaulted types operands result =
    (left : Judged TypedExpr) × ((right : Judged TypedExpr)
    × (IsDefaulted types operands.left left
    × (IsDefaulted types operands.right right × (result ≡ both_judged left right))))

abbrev pub AreComparedNodes : Table → CompareOp → Pos → Pair → Judged TypedExpr → Type 0
AreComparedNodes types op at operands result =
    IsThen (AreDefaulted types operands) (λ p. IsFine (AreCompared types op at p)) result

abbrev pub IsComparedOf : Table → CompareOp → Pos → Pair → Option (Const × Const) → Judged TypedExpr → Type 0
IsComparedOf types op at operands (Some (a, b)) result =
    result ≡ fine (node at (untyped kind.Bool) (ConstOf (constant.Truth (compared op a b))))
IsComparedOf types op at operands None result = AreComparedNodes types op at operands result

abbrev pub IsCompared : Table → CompareOp → Pos → Pair → Judged TypedExpr → Type 0
IsCompared types op at operands result = IsComparedOf types op at operands (constants operands) result

abbrev pub IsComparisonOf : Table → CompareOp → Given → Given → Judged TypedExpr → Type 0
IsComparisonOf types op x y result = IsThen (IsComparablePair types op x y) (IsCompared types op x.at) result

-- "x == y" and the like
abbrev pub IsComparison : Table → CompareOp → Seen → Seen → Judged TypedExpr → Type 0
IsComparison types op x y result =
    IsThen (Exactly (two_values types x y)) (λ p. IsComparisonOf types op p.0 p.1) result

-- ---- cases of switches

-- the value of a case, as it is compared with a tag of a type: it never gives the tag another type
abbrev pub IsCaseOperand : Table → Matched → TypedExpr → TypeId → Judged TypedExpr → Type 0
IsCaseOperand types match_of.Typed expr tag result = result ≡ fine expr
IsCaseOperand types match_of.FirstConverted expr tag result = IsGiven types tag expr result
IsCaseOperand types match_of.FirstDefault expr tag result = IsDefaulted types expr result
IsCaseOperand types _ expr tag result = ⊥

pub data IsAskedCase (types : Table) (at : Pos) (nil : Bool) (tag : TypeId) (value : TypedExpr)
    : Judged TypedExpr → Type 0
  where
    of_nil : nil ≡ true → IsAskedCase types at nil tag value (fine value)
    taken : TakesComparison types compare.Equal value.of → TakesComparison types compare.Equal tag
        → IsAskedCase types at nil tag value (fine value)
    refused : nil ≡ false
        → ((TakesComparison types compare.Equal value.of × TakesComparison types compare.Equal tag) → ⊥)
        → IsAskedCase types at nil tag value (breaks at NotComparable)

-- a case: its value takes the type of the tag if it may, and else the tag that of the value
pub data IsCase (types : Table) (at : Pos) (tag : TypeId) (value : TypedExpr) : TypedCase → Type 0 where
  same_tag : (made : TypedExpr) → Assignable types value.of tag → IsMade types value tag made
      → IsCase types at tag value (record { at = at; tag_to = None; value = made })
  other_tag : (Assignable types value.of tag → ⊥)
      → IsCase types at tag value (record { at = at; tag_to = Some value.of; value = value })

abbrev pub IsCased : Table → Matched → Given → TypeId → Judged TypedExpr → Type 0
IsCased types how x tag result =
    IsThen (IsCaseOperand types how x.expr tag) (IsAskedCase types x.at (is_nil types x.expr.of) tag) result

abbrev pub IsCaseMatched : Table → Matched → Given → TypeId → Judged TypedCase → Type 0
IsCaseMatched types how x tag result =
    IsThen (IsCased types how x tag) (λ value. IsFine (IsCase types x.at tag value)) result

pub data IsCaseOf (types : Table) (tag : TypeId) (x : Given) : Judged TypedCase → Type 0 where
  matched : (how : Matched) (result : Judged TypedCase) → IsMatchedFor types compare.Equal x.expr.of tag (Some how)
      → IsCaseMatched types how x tag result → IsCaseOf types tag x result
  mismatched : IsMatchedFor types compare.Equal x.expr.of tag None → IsCaseOf types tag x (breaks x.at NotComparable)

-- "x == t must be a valid comparison", x the value of the case and t the tag
abbrev pub IsCaseValue : Table → TypeId → Seen → Judged TypedCase → Type 0
IsCaseValue types tag value result = IsThen (Exactly (one_value types value)) (IsCaseOf types tag) result

abbrev pub true_node : Pos → TypedExpr
true_node at = node at (basic_id basic.Bool) (ConstOf (constant.Truth true))

-- whether a value of a type is true
abbrev pub IsTruth : Table → Pos → TypeId → TypedExpr → TypedExpr → Type 0
IsTruth types at to value made =
    (truth : TypedExpr) × (IsMade types (true_node at) to truth
    × IsOnTwo at (basic_id basic.Bool) (CompareOf compare.Equal) truth value made)

abbrev pub IsTruthOf : Table → Pos → TypedExpr → Option TypeId → TypedExpr → Type 0
IsTruthOf types at value None made = made ≡ value
IsTruthOf types at value (Some to) made = IsTruth types at to value made

abbrev pub IsTruthCaseOf : Table → TypedCase → TypedCase → Type 0
IsTruthCaseOf types case made =
    (truth : TypedExpr) × (IsTruthOf types case.at case.value case.tag_to truth
    × (made ≡ record { at = case.at; tag_to = None; value = truth }))

-- "a missing switch expression is equivalent to the boolean value true"
abbrev pub IsTruthCase : Table → Seen → Judged TypedCase → Type 0
IsTruthCase types value result =
    IsThen (IsCaseValue types (basic_id basic.Bool) value) (λ case. IsFine (IsTruthCaseOf types case)) result
