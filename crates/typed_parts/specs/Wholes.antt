-- Whole numbers, as an index, a bound or a size, and strings. Go specification, "Index expressions", "Slice
-- expressions", "Making slices, maps and channels" and "String types".
use Rattle.std.specs.Prelude.{◌≡◌, Bool, true, false, Option, Some, None}
use Rattle.std.specs.Option.{option_map}
use Rattle.go_base.specs.declared.place.Pos.{Pos}
use Rattle.go_base.specs.declared.rule.Rule.{Rule}
use Rattle.go_tree.specs.declared.exprs.TypedExpr.{TypedExpr}
use Rattle.go_type.specs.declared.term.Basic.TheVariants as basic
use Rattle.go_type.specs.Table.{Table, basic_id}
use Rattle.typed_parts.specs.declared.meaning.Given.{Given}
use Rattle.typed_parts.specs.Judged.{IsRest, Judged, breaks, fine}
use Rattle.typed_parts.specs.Numbers.{whole_breach}
use Rattle.typed_parts.specs.Retyping.{IsAsUntyped, IsGiven}
use Rattle.typed_parts.specs.Shapes.{is_untyped_text}

abbrev pub IsWholeWhere : Table → Given → Option Rule → Judged TypedExpr → Type 0
IsWholeWhere types i (Some broken) result = result ≡ breaks i.at broken
IsWholeWhere types i None result = IsAsUntyped types (basic_id basic.Int) i.expr result

-- a whole number, of its own integer type or else of type `int`
abbrev pub IsWhole : Table → Option Given → Rule → Judged TypedExpr → Type 0
IsWhole types i rule result = IsRest i (λ given. IsWholeWhere types given (whole_breach types given.expr rule)) result

abbrev pub given_as : Pos → TypedExpr → Given
given_as at expr = record { at = at; expr = expr }

-- what becomes of a value's expression, at the place of the value
abbrev pub given_at : Pos → Judged TypedExpr → Judged Given
given_at at of = record { sound = option_map (given_as at) of.sound; broken = of.broken }

abbrev pub IsTextWhere : Table → Given → Bool → Judged Given → Type 0
IsTextWhere types x true result =
    (typed : Judged TypedExpr) × (IsGiven types (basic_id basic.Text) x.expr typed × (result ≡ given_at x.at typed))
IsTextWhere types x false result = result ≡ fine x

-- an untyped string is one of type `string`, and any other value stays
abbrev pub IsTextTyped : Table → Option Given → Judged Given → Type 0
IsTextTyped types x result = IsRest x (λ given. IsTextWhere types given (is_untyped_text types given.expr.of)) result
