-- The built-in function `append`. Go specification, "Appending to and copying slices".
use Rattle.std.specs.Prelude.{◌≡◌, ℕ, zero, suc, ◌||◌, ◌&&◌, nat_eq, nat_lt, Bool, true, false, is_some, if◌then◌else◌}
use Rattle.std.specs.Prelude.{List, [], ◌∷◌, length, Option, Some, None, IsTrue}
use Rattle.std.specs.Option.{option_map, option_zip}
use Rattle.go_base.specs.declared.ids.TypeId.{TypeId}
use Rattle.go_base.specs.declared.place.Pos.{Pos}
use Rattle.go_base.specs.declared.rule.Rule.TheVariants.{BadBuiltInCall, BadUseOfDots, WrongNumberOfValues}
use Rattle.go_rules.specs.Untyped.{is_text_type}
use Rattle.go_tree.specs.declared.exprs.TypedExpr.{TypedExpr}
use Rattle.go_type.specs.declared.term.Basic.TheVariants as basic
use Rattle.go_type.specs.declared.term.TypeTerm.TheVariants.{Slice}
use Rattle.go_type.specs.Identity.{Identical}
use Rattle.go_type.specs.Table.{Table, basic_id}
use Rattle.typed_parts.specs.declared.meaning.Given.{Given}
use Rattle.typed_parts.specs.Adapting.{IsAssigned, IsAssignedTo}
use Rattle.typed_parts.specs.Joining.{only}
use Rattle.typed_parts.specs.Judged.{Broken, Judged, breaks, fine, judged, unsound}
use Rattle.typed_parts.specs.Retyping.{IsGiven}
use Rattle.typed_parts.specs.Several.{place_of}
use Rattle.typed_parts.specs.Shapes.{elem_of, is_untyped_text}
use Rattle.typed_built_ins.specs.declared.built_ins.BuiltInCall.{BuiltInCall}
use Rattle.typed_built_ins.specs.BuiltIns.{IsCallNode, argument}
use Rattle.typed_parts.specs.Turning.{Asks, IsEach, IsFollowed, IsHeld, IsThenSoundly, Keeps, Soundly}
use Rattle.typed_parts.specs.Limits.{Basis}

-- ---- a `...` follows the second of two arguments

abbrev pub fits_dots : Option Pos → ℕ → Bool
fits_dots None number = true
fits_dots (Some dots) number = nat_eq number 2

abbrev pub misfit : Pos → ℕ → Option Pos → List Broken
misfit dots number None = []
misfit dots number (Some place) =
    if nat_lt 2 number then record { at = dots; rule = BadUseOfDots } ∷ []
    else record { at = place; rule = WrongNumberOfValues } ∷ []

abbrev pub dots_broken : Option Pos → ℕ → Option Pos → List Broken
dots_broken None number place = []
dots_broken (Some dots) number place = if nat_eq number 2 then [] else misfit dots number place

abbrev pub dots_asked : BuiltInCall → List (Option Given) → Judged (List (Option Given))
dots_asked call values = record {
  sound = only (Some values) (fits_dots call.dots (length values));
  broken = dots_broken call.dots (length values) (place_of values call.at);
}

-- ---- the slice

abbrev pub elem_asked : Pos → Option TypeId → Judged TypeId
elem_asked at (Some elem) = fine elem
elem_asked at None = breaks at BadBuiltInCall

-- the type of the elements of the first argument, which has to be a slice
abbrev pub slice_asked : Table → List (Option Given) → Judged TypeId
slice_asked types values =
    judged (argument values 0) (λ (slice : Given). elem_asked slice.at (elem_of types slice.expr.of))

abbrev pub expr_of : Given → TypedExpr
expr_of x = x.expr

abbrev pub slice_value : Option Given → Option TypeId → Judged TypedExpr
slice_value x elem = record { sound = option_map expr_of (only x (is_some elem)); broken = [] }

-- ---- the items

abbrev pub IsByte : Table → Option TypeId → Type 0
IsByte types (Some elem) = Identical types elem (basic_id basic.Uint8)
IsByte types None = ⊥

-- a slice of bytes
abbrev pub IsBytes : Table → TypeId → Type 0
IsBytes types of = IsByte types (elem_of types of)

abbrev pub is_string : Table → TypeId → Bool
is_string types of = is_untyped_text types of || is_text_type types of

-- "append([]byte, string...)": "a special case"; else the value is assigned to the type of slices of the elements
pub data IsSpreadAs (types : Table) (x : Given) (slice : TypeId) : Judged TypedExpr → Type 0 where
  untyped_text : (result : Judged TypedExpr) → IsBytes types slice → is_untyped_text types x.expr.of ≡ true
      → IsGiven types (basic_id basic.Text) x.expr result → IsSpreadAs types x slice result
  text : IsBytes types slice → is_untyped_text types x.expr.of ≡ false → is_text_type types x.expr.of ≡ true
      → IsSpreadAs types x slice (fine x.expr)
  no_bytes : (result : Judged TypedExpr) → (IsBytes types slice → ⊥) → IsAssigned types x slice result
      → IsSpreadAs types x slice result
  no_text : (result : Judged TypedExpr) → is_string types x.expr.of ≡ false → IsAssigned types x slice result
      → IsSpreadAs types x slice result

abbrev pub IsSpread : Given × TypeId → Basis → Basis → Judged TypedExpr → Type 0
IsSpread (x, elem) before after result =
    IsThenSoundly (IsHeld (Slice elem)) (λ (slice : TypeId). Keeps (λ types. IsSpreadAs types x slice)) before after
    result

abbrev pub IsBehind : Bool → Option TypeId → Option Given → Basis → Basis → Judged TypedExpr → Type 0
IsBehind true elem x before after result = Soundly IsSpread (option_zip x elem) before after result
IsBehind false elem x before after result = Keeps (λ types. IsAssignedTo types x elem) before after result

abbrev pub is_zero : ℕ → Bool
is_zero zero = true
is_zero (suc number) = false

-- an argument by its number: the slice, and behind it the items, which are assigned to the type of the elements
abbrev pub IsItem : BuiltInCall → Option TypeId → ℕ → Option Given → Basis → Basis → Judged TypedExpr → Type 0
IsItem call elem zero x before after result = Asks (λ types. slice_value x elem) before after result
IsItem call elem (suc number) x before after result = IsBehind (is_some call.dots) elem x before after result

abbrev pub first_type : Option (List TypedExpr) → Option TypeId
first_type (Some (slice ∷ items)) = Some slice.of
first_type _ = None

-- the call is of the type of the slice
abbrev pub IsAppendNode : BuiltInCall → List TypedExpr → Basis → Basis → Judged TypedExpr → Type 0
IsAppendNode call (slice ∷ items) before after result =
    IsCallNode call slice.of None (slice ∷ items) (is_some call.dots) before after result
IsAppendNode call [] before after result = (after ≡ before) × (result ≡ unsound)

abbrev pub IsAppended : BuiltInCall → List (Option Given) → Option TypeId → Basis → Basis → Judged TypedExpr → Type 0
IsAppended call values elem before after result =
    IsThenSoundly (IsEach (IsItem call elem) values) (IsAppendNode call) before after result

abbrev pub IsAppendCall : BuiltInCall → List (Option Given) → Basis → Basis → Judged TypedExpr → Type 0
IsAppendCall call values before after result =
    IsFollowed (Asks (λ types. slice_asked types values)) (IsAppended call values) before after result

abbrev pub IsAppend : BuiltInCall → List (Option Given) → Basis → Basis → Judged TypedExpr → Type 0
IsAppend call values before after result =
    IsThenSoundly (Asks (λ types. dots_asked call values)) (IsAppendCall call) before after result
