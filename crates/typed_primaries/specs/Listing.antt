-- Lists of values that go to targets. Go specification, "Assignment statements", "Variable declarations" and "Return
-- statements".
use Rattle.std.specs.Prelude.{ℕ, ◌==◌, ◌&&◌, Bool, true, false, if◌then◌else◌, List, [], ◌∷◌, ◌++◌, length, map}
use Rattle.std.specs.Prelude.{Option, Some, None, Result, Ok, Err, unwrap_or}
use Rattle.std.specs.Global.{Vec}
use Rattle.std.specs.List.{flat_map, slice_get}
use Rattle.std.specs.Option.{option_map}
use Rattle.go_base.specs.declared.ids.TypeId.{TypeId}
use Rattle.go_base.specs.declared.place.Pos.{Pos}
use Rattle.go_base.specs.declared.rule.Rule.TheVariants.{WrongNumberOfValues}
use Rattle.go_tree.specs.declared.exprs.Callee.TheOpen as layers
use Rattle.go_tree.specs.declared.exprs.Callee.TheViews.{out-Values}
use Rattle.go_tree.specs.declared.exprs.Callee.{Callee}
use Rattle.go_tree.specs.declared.exprs.Elements.{Elements}
use Rattle.go_tree.specs.declared.exprs.EntryInit.{EntryInit}
use Rattle.go_tree.specs.declared.exprs.ExprKind.{ExprKind}
use Rattle.go_tree.specs.declared.exprs.ExprKind.TheVariants.{PartOf}
use Rattle.go_tree.specs.declared.exprs.FieldInit.{FieldInit}
use Rattle.go_tree.specs.declared.exprs.ItemInit.{ItemInit}
use Rattle.go_tree.specs.declared.exprs.TypedExpr.{TypedExpr}
use Rattle.go_tree.specs.declared.exprs.Values.{Values}
use Rattle.go_type.specs.Table.{Table, term_at}
use Rattle.typed_parts.specs.declared.meaning.Given.{Given}
use Rattle.typed_parts.specs.declared.meaning.Seen.{Seen}
use Rattle.typed_parts.specs.Adapting.{IsAssignedTo, IsDefaultFor, IsOkAssigned, IsPassed, ok_part}
use Rattle.typed_parts.specs.Judged.{Broken, Judged, fine, unsound}
use Rattle.typed_parts.specs.Limits.{Basis}
use Rattle.typed_parts.specs.Meanings.{single, value_of}
use Rattle.typed_parts.specs.Nodes.{node}
use Rattle.typed_parts.specs.Several.{place_of, several}
use Rattle.typed_parts.specs.Turning.{Asks, IsEach, IsFollowed, IsThenSoundly, Keeps, Soundly}
use Rattle.typed_primaries.specs.declared.listing.Into.{Into}
use Rattle.typed_primaries.specs.declared.listing.Into.TheVariants as into
use Rattle.typed_primaries.specs.declared.listing.Listed.{Listed}
use Rattle.typed_primaries.specs.Asserting.{IsWithOk, has_second}

-- ---- what a list becomes

-- values, one each, or parts of one expression of several values
pub data Told : Type 0 where
  each : List TypedExpr → Told
  spread : TypedExpr → List TypedExpr → Told

-- the values, where all of them and of their targets are sound; by target the type that its value has
pub record Outline : Type 0 where
  pub values : Option Told
  pub types : List (Option TypeId)

abbrev pub told_layer : layers.Values-F Callee Elements ExprKind Values EntryInit FieldInit ItemInit TypedExpr → Told
told_layer (layers.Values-F.Each list) = Told.each list.items
told_layer (layers.Values-F.Spread tuple parts) = Told.spread tuple.value parts.items

abbrev pub told : Option Values → Option Told
told values = option_map (λ (v : Values). told_layer (out-Values v)) values

abbrev pub outline : Listed → Outline
outline listed = record { values = told listed.values; types = listed.types.items }

abbrev pub outlined : {E : Type 0} → Result Listed E → Result (Option Outline) E
outlined (Ok listed) = Ok (Some (outline listed))
outlined (Err error) = Err error

abbrev pub told_items : {A E : Type 0} → Result (Vec A) E → Result (Option (List A)) E
told_items (Ok list) = Ok (Some list.items)
told_items (Err error) = Err error

-- all of several, where each is there
abbrev pub all_of : List (Option TypedExpr) → Option (List TypedExpr)
all_of [] = Some []
all_of (Some x ∷ xs) = option_map (λ (rest : List TypedExpr). x ∷ rest) (all_of xs)
all_of (None ∷ xs) = None

abbrev pub type_in : Option TypedExpr → Option TypeId
type_in x = option_map (λ (y : TypedExpr). y.of) x

abbrev pub each_outline : List (Option TypedExpr) → Outline
each_outline parts = record { values = option_map Told.each (all_of parts); types = map type_in parts }

abbrev pub spread_outline : TypedExpr → List (Option TypedExpr) → Outline
spread_outline tuple parts =
    record { values = option_map (Told.spread tuple) (all_of parts); types = map type_in parts }

abbrev pub no_type : Into → Option TypeId
no_type target = None

abbrev pub no_outline : List Into → Outline
no_outline targets = record { values = None; types = map no_type targets }

-- ---- a value that goes to a target

abbrev pub target_at : List Into → ℕ → Into
target_at targets number = unwrap_or (slice_get targets number) into.Unsound

-- "each value must be assignable to the operand to which it is assigned"; "if a value is assigned to the blank
-- identifier", or is that of a new variable, "it is first converted to its default type"
abbrev pub IsGoing : Into → Option Given → Basis → Basis → Judged TypedExpr → Type 0
IsGoing (into.Type to) x before after result = Keeps (λ types. IsAssignedTo types x (Some to)) before after result
IsGoing into.Any x before after result = Keeps (λ types. IsDefaultFor types x) before after result
IsGoing into.Unsound x before after result = Asks (λ types. unsound) before after result

abbrev pub IsOneInto : Into → Given → Basis → Basis → Judged TypedExpr → Type 0
IsOneInto target x before after result =
    IsFollowed (Asks (λ types. single types x)) (IsGoing target) before after result

abbrev pub IsInto : Into → Option Given → Basis → Basis → Judged TypedExpr → Type 0
IsInto target x before after result = Soundly (IsOneInto target) x before after result

-- what a rule makes, or nothing
abbrev pub IsOrNone : (Basis → Basis → Judged TypedExpr → Type 0) → Basis → Basis → Judged (Option TypedExpr) → Type 0
IsOrNone Is before after result =
    IsFollowed Is (λ (o : Option TypedExpr). Asks (λ types. fine o)) before after result

abbrev pub IsValueInto : List Into → ℕ → Option Given → Basis → Basis → Judged (Option TypedExpr) → Type 0
IsValueInto targets number x before after result =
    IsOrNone (IsInto (target_at targets number) x) before after result

abbrev pub IsEachOutline : List (Option TypedExpr) → Basis → Basis → Judged Outline → Type 0
IsEachOutline parts before after result = Asks (λ types. fine (each_outline parts)) before after result

-- as many values as targets
abbrev pub AreEachInto : List Into → List (Option Given) → Basis → Basis → Judged Outline → Type 0
AreEachInto targets givens before after result =
    IsThenSoundly (IsEach (IsValueInto targets) givens) IsEachOutline before after result

-- ---- one value for several targets

abbrev pub IsPartGoing : Pos → ℕ → TypeId → Into → Basis → Basis → Judged TypedExpr → Type 0
IsPartGoing at number of (into.Type to) before after result =
    Keeps (λ types. IsPassed types at (node at of (PartOf number)) to) before after result
IsPartGoing at number of into.Any before after result =
    Asks (λ types. fine (node at of (PartOf number))) before after result
IsPartGoing at number of into.Unsound before after result = Asks (λ types. unsound) before after result

abbrev pub IsPartInto : Pos → List Into → ℕ → TypeId → Basis → Basis → Judged (Option TypedExpr) → Type 0
IsPartInto at targets number of before after result =
    IsOrNone (IsPartGoing at number of (target_at targets number)) before after result

abbrev pub IsSpreadOutline : TypedExpr → List (Option TypedExpr) → Basis → Basis → Judged Outline → Type 0
IsSpreadOutline tuple parts before after result = Asks (λ types. fine (spread_outline tuple parts)) before after result

-- "a tuple assignment assigns the individual elements of a multi-valued operation to a list of variables"
abbrev pub AreOfParts : List Into → Given → List TypeId → Basis → Basis → Judged Outline → Type 0
AreOfParts targets x parts before after result =
    IsThenSoundly (IsEach (IsPartInto x.at targets) parts) (IsSpreadOutline x.expr) before after result

-- "an additional untyped boolean value"
abbrev pub IsOkGoing : Pos → Into → Basis → Basis → Judged TypedExpr → Type 0
IsOkGoing at (into.Type to) before after result = Keeps (λ types. IsOkAssigned types at to) before after result
IsOkGoing at into.Any before after result = Asks (λ types. fine (ok_part at)) before after result
IsOkGoing at into.Unsound before after result = Asks (λ types. unsound) before after result

abbrev pub IsPairOf : Option TypedExpr → Option TypedExpr → Basis → Basis → Judged (List (Option TypedExpr)) → Type 0
IsPairOf value ok before after result = Asks (λ types. fine (value ∷ ok ∷ [])) before after result

abbrev pub IsOkBeside : Pos → List Into → Option TypedExpr → Basis → Basis → Judged (List (Option TypedExpr))
    → Type 0
IsOkBeside at targets value before after result =
    IsThenSoundly (IsOrNone (IsOkGoing at (target_at targets 1))) (IsPairOf value) before after result

abbrev pub IsOkPair : List Into → Pos → TypeId → Basis → Basis → Judged (List (Option TypedExpr)) → Type 0
IsOkPair targets at of before after result =
    IsThenSoundly (IsPartInto at targets 0 of) (IsOkBeside at targets) before after result

abbrev pub IsOkOutline : List (Option TypedExpr) → TypedExpr → Basis → Basis → Judged Outline → Type 0
IsOkOutline parts tuple before after result = IsSpreadOutline tuple parts before after result

abbrev pub IsOkTuple : Given → List (Option TypedExpr) → Basis → Basis → Judged Outline → Type 0
IsOkTuple x parts before after result = IsThenSoundly (IsWithOk x.expr) (IsOkOutline parts) before after result

abbrev pub wrong_number : Pos → Broken
wrong_number at = record { at = at; rule = WrongNumberOfValues }

-- two values of a form that gives a second, where it may; and else their number is wrong
abbrev pub AreOfFormBy : Bool → List Into → Given → Basis → Basis → Judged Outline → Type 0
AreOfFormBy true targets x before after result =
    IsThenSoundly (IsOkPair targets x.at x.expr.of) (IsOkTuple x) before after result
AreOfFormBy false targets x before after result =
    Asks (λ types. record { sound = Some (no_outline targets); broken = wrong_number x.at ∷ [] }) before after result

abbrev pub takes_ok : Bool → List Into → TypedExpr → Bool
takes_ok with_ok targets x = with_ok && ((length targets == 2) && has_second x.kind)

abbrev pub as_many : ℕ → Option (List TypeId) → Option (List TypeId)
as_many number (Some parts) = if length parts == number then Some parts else None
as_many number None = None

abbrev pub AreOfSole : Bool → List Into → Given → Option (List TypeId) → Basis → Basis → Judged Outline → Type 0
AreOfSole with_ok targets x (Some parts) before after result = AreOfParts targets x parts before after result
AreOfSole with_ok targets x None before after result =
    AreOfFormBy (takes_ok with_ok targets x.expr) targets x before after result

-- the types of the values of one, where they are as many as the targets
abbrev pub parts_for : Table → List Into → TypeId → Option (List TypeId)
parts_for types targets of = as_many (length targets) (several (term_at types of))

abbrev pub AreOfOne : Bool → List Into → Option Given → Basis → Basis → Judged Outline → Type 0
AreOfOne with_ok targets (Some x) before after result =
    AreOfSole with_ok targets x (parts_for before.types targets x.expr.of) before after result
AreOfOne with_ok targets None before after result = Asks (λ types. fine (no_outline targets)) before after result

-- ---- another number

abbrev pub number_broken : Option Pos → List Broken
number_broken (Some at) = wrong_number at ∷ []
number_broken None = []

abbrev pub single_broken : Table → Option Given → List Broken
single_broken types (Some x) = (single types x).broken
single_broken types None = []

-- the first value is at fault where all are sound; each has to be one
abbrev pub unlike : Pos → List Into → List (Option Given) → Table → Judged Outline
unlike at targets givens types = record {
  sound = Some (no_outline targets);
  broken = number_broken (place_of givens at) ++ flat_map (single_broken types) givens;
}

-- ---- all

abbrev pub AreGivenBy : Bool → Pos → List Into → Bool → List (Option Given) → Basis → Basis → Judged Outline → Type 0
AreGivenBy true at targets with_ok givens before after result = AreEachInto targets givens before after result
AreGivenBy false at targets with_ok (x ∷ []) before after result = AreOfOne with_ok targets x before after result
AreGivenBy false at targets with_ok givens before after result = Asks (unlike at targets givens) before after result

abbrev pub AreGivenInto : Pos → List Into → Bool → List (Option Given) → Basis → Basis → Judged Outline → Type 0
AreGivenInto at targets with_ok givens before after result =
    AreGivenBy (length givens == length targets) at targets with_ok givens before after result

abbrev pub given_of : Seen → Option Given
given_of value = (value_of value).sound

abbrev pub given_broken : Seen → List Broken
given_broken value = (value_of value).broken

abbrev pub each_given : List Seen → Judged (List (Option Given))
each_given values = record { sound = Some (map given_of values); broken = flat_map given_broken values }

-- values that go to targets, one each; or one of several values; or, where `with_ok` says so, one and whether it is
-- there
abbrev pub AreValuesInto : Pos → List Seen → List Into → Bool → Basis → Basis → Judged Outline → Type 0
AreValuesInto at values targets with_ok before after result =
    IsThenSoundly (Asks (λ types. each_given values)) (AreGivenInto at targets with_ok) before after result
