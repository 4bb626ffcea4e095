-- Arguments as values of the parameters, packed where these are variadic. Go specification, "Calls" and "Passing
-- arguments to ... parameters".
use Rattle.std.specs.Prelude.{◌≡◌, ℕ, ◌+◌, List, [], ◌∷◌, ◌++◌, length, nat_lt, take, drop}
use Rattle.std.specs.Prelude.{if◌then◌else◌, Option, Some, None}
use Rattle.std.specs.Global.{Box, Vec}
use Rattle.go_base.specs.declared.ids.TypeId.{TypeId}
use Rattle.go_base.specs.declared.place.Pos.{Pos}
use Rattle.go_tree.specs.declared.exprs.Elements.TheVariants.{Items}
use Rattle.go_tree.specs.declared.exprs.ExprKind.TheVariants as kinds
use Rattle.go_tree.specs.declared.exprs.ItemInit.{ItemInit}
use Rattle.go_tree.specs.declared.exprs.TypedExpr.{TypedExpr}
use Rattle.go_tree.specs.declared.exprs.Values.{Values}
use Rattle.go_tree.specs.declared.exprs.Values.TheVariants as values
use Rattle.go_type.specs.declared.term.Signature.{Signature}
use Rattle.go_type.specs.Table.{Table}
use Rattle.typed_parts.specs.declared.meaning.Given.{Given}
use Rattle.typed_parts.specs.Adapting.{IsAssignedTo, IsPassed}
use Rattle.typed_parts.specs.Judged.{IsFine, IsRest, Judged, fine}
use Rattle.typed_parts.specs.Limits.{Basis, IsFitting}
use Rattle.typed_parts.specs.Nodes.{node}
use Rattle.typed_parts.specs.Turning.{Asks, IsEach, IsThenSoundly, Keeps}
use Rattle.typed_calls.specs.declared.packing.Plan.{Plan}
use Rattle.typed_calls.specs.Passing.{target}

-- ---- each argument is assigned to the type that it goes to

abbrev pub IsPassedTo : Plan → Signature → ℕ → Option Given → Basis → Basis → Judged TypedExpr → Type 0
IsPassedTo plan signature number value before after result =
    Keeps (λ types. IsAssignedTo types value (target plan signature number)) before after result

abbrev pub ArePassed : Plan → Signature → List (Option Given) → Basis → Basis → Judged (List TypedExpr) → Type 0
ArePassed plan signature values before after result =
    IsEach (IsPassedTo plan signature) values before after result

-- a value of a call of several, which breaks a rule at the call
abbrev pub IsPartPassed : Table → Pos → ℕ → TypeId → Option TypeId → Judged TypedExpr → Type 0
IsPartPassed types at number of to result = IsRest to (IsPassed types at (node at of (kinds.PartOf number))) result

abbrev pub IsPartTo : Pos → Plan → Signature → ℕ → TypeId → Basis → Basis → Judged TypedExpr → Type 0
IsPartTo at plan signature number of before after result =
    Keeps (λ types. IsPartPassed types at number of (target plan signature number)) before after result

-- "f(g(parameters_of_g))": "binding the return values of g to the parameters of f in order"
abbrev pub ArePartsTo : Pos → Plan → Signature → List TypeId → Basis → Basis → Judged (List TypedExpr) → Type 0
ArePartsTo at plan signature parts before after result = IsEach (IsPartTo at plan signature) parts before after result

-- ---- "a new slice of type []T with a new underlying array whose successive elements are the actual arguments"; "if f
-- is invoked with no actual arguments for p, the value passed to p is nil"

abbrev pub items_from : ℕ → List TypedExpr → List ItemInit
items_from number [] = []
items_from number (x ∷ xs) = record { index = number; value = x } ∷ items_from (number + 1) xs

-- one more argument: of its own while there are parameters for it, and else an item
abbrev pub with_fixed : ℕ → List TypedExpr → TypedExpr → List TypedExpr
with_fixed number fixed value = if nat_lt (length fixed) number then fixed ++ value ∷ [] else fixed

abbrev pub with_item : ℕ → ℕ → List ItemInit → TypedExpr → List ItemInit
with_item number fixed items value =
    if nat_lt fixed number then items else items ++ record { index = length items; value = value } ∷ []

abbrev pub IsSlice : Pos → TypeId → List TypedExpr → TypedExpr → Type 0
IsSlice at slice [] made = made ≡ node at slice kinds.NilOf
IsSlice at slice (x ∷ xs) made =
    (v : Vec ItemInit)
    × ((v.items ≡ items_from 0 (x ∷ xs)) × (made ≡ node at slice (kinds.CompositeOf (Items v (length (x ∷ xs))))))

-- the arguments that have parameters of their own, and behind them the others as a slice
abbrev pub IsJoined : Pos → TypeId → List TypedExpr → List TypedExpr → List TypedExpr → Type 0
IsJoined at slice fixed others made =
    (last : TypedExpr) × (IsSlice at slice others last × (made ≡ fixed ++ last ∷ []))

abbrev pub IsPackedAs : Plan → TypeId → List TypedExpr → List TypedExpr → Type 0
IsPackedAs plan slice values made =
    IsJoined plan.call.parenthesis slice (take plan.fixed values) (drop plan.fixed values) made

-- the array behind the slice has to be within the limits
abbrev pub IsPackedIn : Plan → TypeId × TypeId → List TypedExpr → Basis → Basis → Judged (List TypedExpr) → Type 0
IsPackedIn plan (slice, elem) values before after result =
    IsThenSoundly (IsFitting plan.call.at elem (length (drop plan.fixed values)))
    (λ (fits : Unit {0}). Keeps (λ types. IsFine (IsPackedAs plan slice values))) before after result

abbrev pub IsPackedBy : Option (TypeId × TypeId) → Plan → List TypedExpr → Basis → Basis → Judged (List TypedExpr)
    → Type 0
IsPackedBy None plan values before after result = Asks (λ types. fine values) before after result
IsPackedBy (Some packs) plan values before after result = IsPackedIn plan packs values before after result

abbrev pub IsPacked : Plan → List TypedExpr → Basis → Basis → Judged (List TypedExpr) → Type 0
IsPacked plan values before after result = IsPackedBy plan.packs plan values before after result

-- ---- the values of the parameters

abbrev pub IsEachOf : List TypedExpr → Values → Type 0
IsEachOf exprs made = (v : Vec TypedExpr) × ((v.items ≡ exprs) × (made ≡ values.Each v))

abbrev pub AreValuesOf : Plan → List TypedExpr → Basis → Basis → Judged Values → Type 0
AreValuesOf plan exprs before after result =
    IsThenSoundly (IsPacked plan exprs) (λ (packed : List TypedExpr). Keeps (λ types. IsFine (IsEachOf packed))) before
    after result

abbrev pub AreValues : Plan → Signature → List (Option Given) → Basis → Basis → Judged Values → Type 0
AreValues plan signature arguments before after result =
    IsThenSoundly (ArePassed plan signature arguments) (AreValuesOf plan) before after result

abbrev pub IsSpreadAs : TypedExpr → List TypedExpr → Values → Type 0
IsSpreadAs tuple exprs made =
    (b : Box TypedExpr)
    × ((v : Vec TypedExpr) × ((b.value ≡ tuple) × ((v.items ≡ exprs) × (made ≡ values.Spread b v))))

abbrev pub IsSpreadOf : Plan → TypedExpr → List TypedExpr → Basis → Basis → Judged Values → Type 0
IsSpreadOf plan tuple exprs before after result =
    IsThenSoundly (IsPacked plan exprs)
    (λ (packed : List TypedExpr). Keeps (λ types. IsFine (IsSpreadAs tuple packed))) before after result

abbrev pub IsSpread : Plan → Signature → Given → List TypeId → Basis → Basis → Judged Values → Type 0
IsSpread plan signature tuple parts before after result =
    IsThenSoundly (ArePartsTo tuple.at plan signature parts) (IsSpreadOf plan tuple.expr) before after result
