-- Slice expressions. Go specification, "Slice expressions", "Simple slice expressions" and "Full slice expressions".
use Rattle.std.specs.Prelude.{◌≡◌, ℤ, int_le, ◌&&◌, not, Bool, true, false, List, [], ◌∷◌, ◌++◌}
use Rattle.std.specs.Prelude.{Option, Some, None}
use Rattle.std.specs.Global.{Box}
use Rattle.go_base.specs.declared.ids.TypeId.{TypeId}
use Rattle.go_base.specs.declared.place.Pos.{Pos}
use Rattle.go_base.specs.declared.rule.Rule.TheVariants.{BadSlice}
use Rattle.go_tree.specs.declared.exprs.ExprKind.TheVariants.{SliceOf}
use Rattle.go_tree.specs.declared.exprs.SliceBase.{SliceBase}
use Rattle.go_tree.specs.declared.exprs.SliceBase.TheVariants as base_of
use Rattle.go_tree.specs.declared.exprs.TypedExpr.{TypedExpr}
use Rattle.go_type.specs.declared.term.TypeTerm.TheVariants.{Slice}
use Rattle.go_type.specs.Table.{Table}
use Rattle.typed_parts.specs.declared.meaning.Given.{Given}
use Rattle.typed_parts.specs.declared.meaning.Seen.{Seen}
use Rattle.typed_parts.specs.declared.shapes.Shape.{Shape}
use Rattle.typed_parts.specs.declared.shapes.Shape.TheVariants as shape
use Rattle.typed_parts.specs.Joining.{only}
use Rattle.typed_parts.specs.Judged.{Broken, IsFine, Judged, breaks, fine}
use Rattle.typed_parts.specs.Limits.{Basis}
use Rattle.typed_parts.specs.Looks.{is_place}
use Rattle.typed_parts.specs.Meanings.{one_value}
use Rattle.typed_parts.specs.Nodes.{node}
use Rattle.typed_parts.specs.Numbers.{integer_of}
use Rattle.typed_parts.specs.Shapes.{shape_of}
use Rattle.typed_parts.specs.Turning.{Asks, IsFollowed, IsHeld, IsThenSoundly, Keeps}
use Rattle.typed_parts.specs.Wholes.{IsTextTyped, IsWhole}
use Rattle.typed_primaries.specs.declared.slicing.Bound.{Bound}
use Rattle.typed_primaries.specs.declared.slicing.Bound.TheVariants as bound
use Rattle.typed_primaries.specs.declared.slicing.Bounds.{Bounds}
use Rattle.typed_primaries.specs.Indexing.{known_length}
use Rattle.typed_primaries.specs.Steps.{IsAddress}

abbrev pub unbroken : List Broken → Bool
unbroken [] = true
unbroken (b ∷ bs) = false

abbrev pub broken_unless : Bool → Pos → List Broken
broken_unless true at = []
broken_unless false at = record { at = at; rule = BadSlice } ∷ []

-- ---- bounds

abbrev pub bound_at : Pos → Option TypedExpr → Bound
bound_at at (Some expr) = bound.Sound at expr
bound_at at None = bound.Refused

-- a bound is a whole number, as an index is
abbrev pub IsWholeBound : Given → Basis → Basis → Judged Bound → Type 0
IsWholeBound x before after result =
    IsFollowed (Keeps (λ types. IsWhole types (Some x) BadSlice))
    (λ (value : Option TypedExpr). Asks (λ types. fine (bound_at x.at value))) before after result

abbrev pub IsValueBound : Option Given → Basis → Basis → Judged Bound → Type 0
IsValueBound (Some x) before after result = IsWholeBound x before after result
IsValueBound None before after result = Asks (λ types. fine bound.Unsound) before after result

abbrev pub IsWrittenBound : Seen → Basis → Basis → Judged Bound → Type 0
IsWrittenBound part before after result =
    IsFollowed (Asks (λ types. one_value types part)) IsValueBound before after result

-- "any of the indices may be omitted"
abbrev pub IsBound : Option Seen → Basis → Basis → Judged Bound → Type 0
IsBound (Some part) before after result = IsWrittenBound part before after result
IsBound None before after result = Asks (λ types. fine bound.Absent) before after result

abbrev pub IsOfBounds : Bound → Bound → Bound → Basis → Basis → Judged Bounds → Type 0
IsOfBounds low high max before after result =
    Asks (λ types. fine (record { low = low; high = high; max = max })) before after result

abbrev pub IsUpToMax : Option Seen → Bound → Bound → Basis → Basis → Judged Bounds → Type 0
IsUpToMax max low high before after result = IsThenSoundly (IsBound max) (IsOfBounds low high) before after result

abbrev pub IsUpToHigh : Option Seen → Option Seen → Bound → Basis → Basis → Judged Bounds → Type 0
IsUpToHigh high max low before after result = IsThenSoundly (IsBound high) (IsUpToMax max low) before after result

-- each bound is asked for itself, in their order
abbrev pub AreBounds : Option Seen → Option Seen → Option Seen → Basis → Basis → Judged Bounds → Type 0
AreBounds low high max before after result = IsThenSoundly (IsBound low) (IsUpToHigh high max) before after result

-- ---- what is asked of them

abbrev pub constant_at : Pos → Option ℤ → Option (Pos × ℤ)
constant_at at (Some number) = Some (at, number)
constant_at at None = None

-- the place and the number of a constant bound
abbrev pub constant_bound : Bound → Option (Pos × ℤ)
constant_bound (bound.Sound at expr) = constant_at at (integer_of expr)
constant_bound _ = None

abbrev pub pair_broken : Option (Pos × ℤ) → Option (Pos × ℤ) → List Broken
pair_broken (Some (first_at, least)) (Some (at, number)) = broken_unless (int_le least number) at
pair_broken _ _ = []

-- "the constants that are present must be in range relative to each other": the later of two is at fault
abbrev pub order_broken : Bounds → List Broken
order_broken b =
    pair_broken (constant_bound b.low) (constant_bound b.high)
    ++ (pair_broken (constant_bound b.low) (constant_bound b.max)
    ++ pair_broken (constant_bound b.high) (constant_bound b.max))

abbrev pub order_asked : Bounds → Judged Bounds
order_asked b = record { sound = Some b; broken = order_broken b }

abbrev pub past_broken : Option ℤ → Option (Pos × ℤ) → List Broken
past_broken (Some len) (Some (at, number)) = broken_unless (int_le number len) at
past_broken _ _ = []

-- "for arrays or constant strings, constant indices must also be in range"
abbrev pub within_broken : Option ℤ → Bounds → List Broken
within_broken len b =
    past_broken len (constant_bound b.low)
    ++ (past_broken len (constant_bound b.high) ++ past_broken len (constant_bound b.max))

abbrev pub is_value : Bound → Bool
is_value bound.Unsound = false
is_value _ = true

abbrev pub is_sound : Bound → Bool
is_sound bound.Unsound = false
is_sound bound.Refused = false
is_sound _ = true

-- each that is written is a single value
abbrev pub are_values : Bounds → Bool
are_values b = is_value b.low && (is_value b.high && is_value b.max)

abbrev pub are_sound : Bounds → Bool
are_sound b = is_sound b.low && (is_sound b.high && is_sound b.max)

abbrev pub is_full : Bound → Bool
is_full bound.Absent = false
is_full _ = true

abbrev pub full_text : Shape → Bounds → Bool
full_text shape.Text b = is_full b.max && are_values b
full_text _ b = false

-- "for an operand a of array, pointer to array, or slice (but not a string)": a string has no third bound; the whole
-- expression is at fault
abbrev pub full_broken : Pos → Shape → Bounds → List Broken
full_broken at of b = broken_unless (not (full_text of b)) at

abbrev pub may_slice : Shape → TypedExpr → Bounds → Bool
may_slice of expr b =
    unbroken (order_broken b)
    && (unbroken (within_broken (known_length of expr) b) && (not (full_text of b) && are_sound b))

abbrev pub bounds_asked : Pos → Shape → TypedExpr → Bounds → Judged Bounds
bounds_asked at of expr b = record {
  sound = only (Some b) (may_slice of expr b);
  broken = within_broken (known_length of expr) b ++ full_broken at of b;
}

-- ---- the operand

-- "if the sliced operand is an array, it must be addressable"
abbrev pub sliced_shape : TypedExpr → Option Shape → Option Shape
sliced_shape expr (Some (shape.Array len elem)) = only (Some (shape.Array len elem)) (is_place expr)
sliced_shape expr (Some (shape.Map key elem)) = None
sliced_shape expr (Some (shape.Chan dir elem)) = None
sliced_shape expr other = other

abbrev pub sliced_asked : Pos → Option Shape → Judged Shape
sliced_asked at (Some of) = fine of
sliced_asked at None = breaks at BadSlice

-- "a string, array, pointer to array, or slice"
abbrev pub sliced : Table → Given → Judged Shape
sliced types x = sliced_asked x.at (sliced_shape x.expr (shape_of types x.expr.of))

-- ---- the slice

abbrev pub IsArraySlice : TypeId → Basis → Basis → Judged (SliceBase × TypeId) → Type 0
IsArraySlice elem before after result =
    IsThenSoundly (IsHeld (Slice elem)) (λ (slice : TypeId). Asks (λ types. fine (base_of.ArrayPointer, slice))) before
    after result

abbrev pub array_elem : Shape → Option TypeId
array_elem (shape.Array len elem) = Some elem
array_elem (shape.ArrayPointer array len elem) = Some elem
array_elem _ = None

abbrev pub plain_base : Shape → SliceBase
plain_base shape.Text = base_of.Text
plain_base _ = base_of.Slice

abbrev pub IsSliceTypeBy : Option TypeId → Shape → TypeId → Basis → Basis → Judged (SliceBase × TypeId) → Type 0
IsSliceTypeBy (Some elem) of id before after result = IsArraySlice elem before after result
IsSliceTypeBy None of id before after result = Asks (λ types. fine (plain_base of, id)) before after result

-- "if the operand is an array, the result is a slice with the same element type"; that of a string or a slice has the
-- type of the operand
abbrev pub IsSliceType : Shape → TypeId → Basis → Basis → Judged (SliceBase × TypeId) → Type 0
IsSliceType of id before after result = IsSliceTypeBy (array_elem of) of id before after result

abbrev pub is_array : Shape → Bool
is_array (shape.Array len elem) = true
is_array _ = false

abbrev pub IsSliceOperandBy : Bool → TypedExpr → Basis → Basis → Judged TypedExpr → Type 0
IsSliceOperandBy true expr before after result = IsAddress expr before after result
IsSliceOperandBy false expr before after result = Asks (λ types. fine expr) before after result

-- an array is sliced by its address
abbrev pub IsSliceOperand : Shape → TypedExpr → Basis → Basis → Judged TypedExpr → Type 0
IsSliceOperand of expr before after result = IsSliceOperandBy (is_array of) expr before after result

-- a bound as it stands in the node
abbrev pub IsBoxedBound : Bound → Option (Box TypedExpr) → Type 0
IsBoxedBound (bound.Sound at expr) made = (b : Box TypedExpr) × ((b.value ≡ expr) × (made ≡ Some b))
IsBoxedBound _ made = made ≡ None

pub record IsSliceNode (at : Pos) (typed : SliceBase × TypeId) (b : Bounds) (x made : TypedExpr) : Type 0 where
  pub operand : Box TypedExpr
  pub low : Option (Box TypedExpr)
  pub high : Option (Box TypedExpr)
  pub max : Option (Box TypedExpr)
  pub stands : operand.value ≡ x
  pub is_low : IsBoxedBound b.low low
  pub is_high : IsBoxedBound b.high high
  pub is_max : IsBoxedBound b.max max
  pub is : made ≡ node at typed.1 (SliceOf typed.0 operand low high max)

abbrev pub IsSliceMade : Pos → Bounds → SliceBase × TypeId → TypedExpr → Basis → Basis → Judged TypedExpr → Type 0
IsSliceMade at b typed x before after result =
    Keeps (λ types. IsFine (IsSliceNode at typed b x)) before after result

abbrev pub IsSliceTyped : Given → Shape → Bounds → SliceBase × TypeId → Basis → Basis → Judged TypedExpr → Type 0
IsSliceTyped x of b typed before after result =
    IsThenSoundly (IsSliceOperand of x.expr) (IsSliceMade x.at b typed) before after result

abbrev pub IsSliced : Given → Shape → Bounds → Basis → Basis → Judged TypedExpr → Type 0
IsSliced x of b before after result =
    IsThenSoundly (IsSliceType of x.expr.of) (IsSliceTyped x of b) before after result

-- ---- all

abbrev pub IsSliceWithin : Bounds → Given → Shape → Basis → Basis → Judged TypedExpr → Type 0
IsSliceWithin b x of before after result =
    IsThenSoundly (Asks (λ types. bounds_asked x.at of x.expr b)) (IsSliced x of) before after result

abbrev pub IsSliceOf : Bounds → Given → Basis → Basis → Judged TypedExpr → Type 0
IsSliceOf b x before after result =
    IsThenSoundly (Asks (λ types. sliced types x)) (IsSliceWithin b x) before after result

-- an untyped string is one of type `string` first
abbrev pub IsSliceTo : Option Given → Bounds → Basis → Basis → Judged TypedExpr → Type 0
IsSliceTo x b before after result =
    IsThenSoundly (Keeps (λ types. IsTextTyped types x)) (IsSliceOf b) before after result

abbrev pub IsSliceOrdered : Option Given → Bounds → Basis → Basis → Judged TypedExpr → Type 0
IsSliceOrdered x b before after result =
    IsThenSoundly (Asks (λ types. order_asked b)) (IsSliceTo x) before after result

abbrev pub IsSliceBounded : Option Seen → Option Seen → Option Seen → Option Given → Basis → Basis → Judged TypedExpr
    → Type 0
IsSliceBounded low high max x before after result =
    IsThenSoundly (AreBounds low high max) (IsSliceOrdered x) before after result

-- "a[low : high]" and "a[low : high : max]"
abbrev pub IsSliceExpression : Seen → Option Seen → Option Seen → Option Seen → Basis → Basis → Judged TypedExpr
    → Type 0
IsSliceExpression x low high max before after result =
    IsFollowed (Asks (λ types. one_value types x)) (IsSliceBounded low high max) before after result
