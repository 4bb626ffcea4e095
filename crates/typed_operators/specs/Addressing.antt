-- Addresses, and types and values of pointers. Go specification, "Address operators" and "Pointer types".
use Rattle.std.specs.Prelude.{Bool, true, false, ◌||◌, Option, Some, None, Result, Ok, Err}
use Rattle.go_base.specs.declared.ids.TypeId.{TypeId}
use Rattle.go_base.specs.declared.place.Pos.{Pos}
use Rattle.go_base.specs.declared.rule.Rule.TheVariants.{CannotTakeAddress}
use Rattle.go_tree.specs.declared.exprs.ExprKind.{ExprKind}
use Rattle.go_tree.specs.declared.exprs.ExprKind.TheVariants.{AddressOf, CompositeOf}
use Rattle.go_tree.specs.declared.exprs.TypedExpr.{TypedExpr}
use Rattle.go_type.specs.declared.term.TypeTerm.TheVariants.{Pointer}
use Rattle.go_type.specs.Table.{Table}
use Rattle.typed_parts.specs.declared.meaning.Given.{Given}
use Rattle.typed_parts.specs.declared.meaning.Meaning.{Meaning}
use Rattle.typed_parts.specs.declared.meaning.Meaning.TheVariants as meaning
use Rattle.typed_parts.specs.declared.meaning.Seen.{Seen}
use Rattle.typed_parts.specs.Joining.{asked}
use Rattle.typed_parts.specs.Judged.{IsFine, Judged, and_then, fine}
use Rattle.typed_parts.specs.Limits.{Basis, IsLimited}
use Rattle.typed_parts.specs.Looks.{is_place}
use Rattle.typed_parts.specs.Meanings.{one_value, type_in}
use Rattle.typed_parts.specs.Turning.{Asks, IsHeld, IsThenSoundly, Keeps}
use Rattle.typed_operators.specs.Made.{IsOnOne}
use Rattle.typed_operators.specs.Unary.{IsDereference}

-- the type of pointers to values of a type, which has to be within the limits
abbrev pub IsPointerType : Pos → TypeId → Basis → Basis → Judged TypeId → Type 0
IsPointerType at of before after result =
    IsThenSoundly (IsHeld (Pointer of))
    (λ (pointer : TypeId).
    IsThenSoundly (IsLimited at pointer) (λ (fits : Unit {0}). Asks (λ types. fine pointer))) before after result

-- ---- "&x"

abbrev pub is_composite : ExprKind → Bool
is_composite (CompositeOf elements) = true
is_composite _ = false

-- "The operand must be addressable .. As an exception .. x may also be a (possibly parenthesized) composite literal"
abbrev pub has_address : TypedExpr → Bool
has_address expr = is_composite expr.kind || is_place expr

abbrev pub addressed_given : Given → Judged Given
addressed_given given = asked given (has_address given.expr) CannotTakeAddress

abbrev pub addressed : Table → Seen → Judged Given
addressed types part = and_then (one_value types part) addressed_given

-- "generates a pointer of type *T to x"
abbrev pub IsAddress : Pos → TypedExpr → Basis → Basis → Judged TypedExpr → Type 0
IsAddress at expr before after result =
    IsThenSoundly (IsPointerType at expr.of)
    (λ (pointer : TypeId). Keeps (λ types. IsFine (IsOnOne at pointer AddressOf expr))) before after result

abbrev pub IsAddressOf : Pos → Seen → Basis → Basis → Judged TypedExpr → Type 0
IsAddressOf at part before after result =
    IsThenSoundly (Asks (λ types. addressed types part)) (λ (x : Given). IsAddress at x.expr) before after result

-- ---- "*x"

-- the pointer type where x is a type, and else what a pointer points to
abbrev pub IsIndirectionOf : Pos → Seen → Option TypeId → Basis → Basis → Judged Meaning → Type 0
IsIndirectionOf at part (Some of) before after result =
    IsThenSoundly (IsPointerType at of) (λ (pointer : TypeId). Asks (λ types. fine (meaning.Type pointer))) before
    after result
IsIndirectionOf at part None before after result =
    IsThenSoundly (Keeps (λ types. IsDereference types at part))
    (λ (expr : TypedExpr). Asks (λ types. fine (meaning.Value expr))) before after result

abbrev pub IsIndirection : Pos → Seen → Basis → Basis → Judged Meaning → Type 0
IsIndirection at part before after result = IsIndirectionOf at part (type_in part.meaning) before after result

-- what a part means, where it came
abbrev pub meaning_of : {E : Type 0} → Result Seen E → Result (Option Meaning) E
meaning_of (Ok part) = Ok part.meaning
meaning_of (Err error) = Err error
