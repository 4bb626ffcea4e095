-- Two operands that become ones of one type or kind. Go specification, "Operators" and "Constants".
use Rattle.std.specs.Prelude.{◌≡◌, ◌++◌, Option, Some, None}
use Rattle.std.specs.Option.{option_zip}
use Rattle.go_rules.specs.declared.matching.Matched.{Matched}
use Rattle.go_rules.specs.declared.matching.Matched.TheVariants as match_of
use Rattle.go_tree.specs.declared.exprs.TypedExpr.{TypedExpr}
use Rattle.go_type.specs.declared.constants.Const.{Const}
use Rattle.go_type.specs.Table.{Table}
use Rattle.typed_parts.specs.declared.meaning.Given.{Given}
use Rattle.typed_parts.specs.declared.meaning.Seen.{Seen}
use Rattle.typed_parts.specs.Judged.{Judged, fine}
use Rattle.typed_parts.specs.Meanings.{one_value}
use Rattle.typed_parts.specs.Numbers.{constant_in}
use Rattle.typed_parts.specs.Retyping.{IsDefaulted, IsGiven, rekinded}
use Rattle.typed_operators.specs.declared.pairs.Pair.{Pair}

abbrev pub pair : TypedExpr → TypedExpr → Pair
pair left right = record { left = left; right = right }

abbrev pub joined : Option TypedExpr → Option TypedExpr → Option Pair
joined (Some left) (Some right) = Some (pair left right)
joined (Some left) None = None
joined None right = None

-- two operands, each judged for itself
abbrev pub both_judged : Judged TypedExpr → Judged TypedExpr → Judged Pair
both_judged left right = record { sound = joined left.sound right.sound; broken = left.broken ++ right.broken }

abbrev pub with_right : Judged TypedExpr → TypedExpr → Judged Pair
with_right left right = record { sound = joined left.sound (Some right); broken = left.broken }

abbrev pub with_left : TypedExpr → Judged TypedExpr → Judged Pair
with_left left right = record { sound = joined (Some left) right.sound; broken = right.broken }

-- an untyped operand takes the type of the other, or its default type, and two of them become of one kind
abbrev pub IsPaired : Table → Matched → TypedExpr → TypedExpr → Judged Pair → Type 0
IsPaired types match_of.Typed left right result = result ≡ fine (pair left right)
IsPaired types (match_of.Untyped kind) left right result =
    result ≡ both_judged (rekinded types left kind) (rekinded types right kind)
IsPaired types match_of.FirstConverted left right result =
    (one : Judged TypedExpr) × (IsGiven types right.of left one × (result ≡ with_right one right))
IsPaired types match_of.SecondConverted left right result =
    (one : Judged TypedExpr) × (IsGiven types left.of right one × (result ≡ with_left left one))
IsPaired types match_of.FirstDefault left right result =
    (one : Judged TypedExpr) × (IsDefaulted types left one × (result ≡ with_right one right))
IsPaired types match_of.SecondDefault left right result =
    (one : Judged TypedExpr) × (IsDefaulted types right one × (result ≡ with_left left one))

-- the values of two operands that are both constants
abbrev pub constants : Pair → Option (Const × Const)
constants operands = option_zip (constant_in operands.left.kind) (constant_in operands.right.kind)

-- two operands, each of which is one value
abbrev pub two_values : Table → Seen → Seen → Judged (Given × Given)
two_values types x y = record {
  sound = option_zip (one_value types x).sound (one_value types y).sound;
  broken = (one_value types x).broken ++ (one_value types y).broken;
}
