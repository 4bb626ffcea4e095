-- Calls. Go specification, "Calls", "Method values" and "Passing arguments to ... parameters".
use Rattle.std.specs.Prelude.{◌≡◌, List, [], ◌∷◌, ◌++◌, map, Option, Some, None}
use Rattle.std.specs.Global.{Box}
use Rattle.std.specs.List.{flat_map}
use Rattle.std.specs.Option.{option_zip}
use Rattle.go_base.specs.declared.ids.TypeId.{TypeId}
use Rattle.go_base.specs.declared.place.Pos.{Pos}
use Rattle.go_base.specs.declared.rule.Rule.TheVariants.{NotAFunction}
use Rattle.go_tree.specs.declared.exprs.Callee.{Callee}
use Rattle.go_tree.specs.declared.exprs.Callee.TheVariants as callee
use Rattle.go_tree.specs.declared.exprs.Callee.TheOpen as layers
use Rattle.go_tree.specs.declared.exprs.Callee.TheViews.{out-ExprKind}
use Rattle.go_tree.specs.declared.exprs.Elements.{Elements}
use Rattle.go_tree.specs.declared.exprs.EntryInit.{EntryInit}
use Rattle.go_tree.specs.declared.exprs.ExprKind.{ExprKind}
use Rattle.go_tree.specs.declared.exprs.ExprKind.TheVariants.{CallOf}
use Rattle.go_tree.specs.declared.exprs.FieldInit.{FieldInit}
use Rattle.go_tree.specs.declared.exprs.ItemInit.{ItemInit}
use Rattle.go_tree.specs.declared.exprs.TypedExpr.{TypedExpr}
use Rattle.go_tree.specs.declared.exprs.Values.{Values}
use Rattle.go_type.specs.declared.term.Signature.{Signature}
use Rattle.go_type.specs.declared.term.TypeTerm.TheVariants.{Tuple}
use Rattle.go_type.specs.Table.{Table, term_at}
use Rattle.typed_built_ins.specs.BuiltIns.{built_in_call}
use Rattle.typed_built_ins.specs.Dispatch.{IsBuiltIn}
use Rattle.typed_parts.specs.declared.meaning.Given.{Given}
use Rattle.typed_parts.specs.declared.meaning.Meaning.{Meaning}
use Rattle.typed_parts.specs.declared.meaning.Meaning.TheVariants as meaning
use Rattle.typed_parts.specs.declared.meaning.Seen.{Seen}
use Rattle.typed_parts.specs.Judged.{Broken, IsFine, Judged, breaks, fine, judged}
use Rattle.typed_parts.specs.Limits.{Basis}
use Rattle.typed_parts.specs.Meanings.{one_value, single, value_of}
use Rattle.typed_parts.specs.Nodes.{node}
use Rattle.typed_parts.specs.Several.{several}
use Rattle.typed_parts.specs.Turning.{Asks, IsFollowed, IsHeld, IsThenSoundly, Keeps, Soundly}
use Rattle.typed_calls.specs.declared.calling.CallSite.{CallSite}
use Rattle.typed_calls.specs.declared.calling.NumberBreach.{NumberBreach}
use Rattle.typed_calls.specs.declared.packing.Plan.{Plan}
use Rattle.typed_calls.specs.Converting.{IsConversion}
use Rattle.typed_calls.specs.Packing.{AreValues, IsSpread}
use Rattle.typed_calls.specs.Passing.{Written, breach_broken, method_callee, number_breach, place, plan}
use Rattle.typed_calls.specs.Passing.{signature_of}

-- ---- arguments: one value each, or a sole call of several

abbrev pub one_of : Table → Option Given → Judged Given
one_of types value = judged value (single types)

abbrev pub singles : Table → List (Option Given) → List (Option Given)
singles types values = map (λ (value : Option Given). (one_of types value).sound) values

abbrev pub singles_broken : Table → List (Option Given) → List Broken
singles_broken types values = flat_map (λ (value : Option Given). (one_of types value).broken) values

abbrev pub are_singles : Table → List (Option Given) → Judged Written
are_singles types values =
    record { sound = Some (Written.each (singles types values)); broken = singles_broken types values }

abbrev pub sole_by : Table → Given → Option (List TypeId) → Judged Written
sole_by types value (Some parts) = fine (Written.spread value parts)
sole_by types value None = are_singles types (Some value ∷ [])

-- "f(g(parameters_of_g))": a sole argument may be a call of several values
abbrev pub sole_written : Table → Option Given → Judged Written
sole_written types (Some value) = sole_by types value (several (term_at types value.expr.of))
sole_written types None = are_singles types (None ∷ [])

abbrev pub written_as : Table → List (Option Given) → Judged Written
written_as types (value ∷ []) = sole_written types value
written_as types values = are_singles types values

abbrev pub seen_values : List Seen → List (Option Given)
seen_values parts = map (λ (part : Seen). (value_of part).sound) parts

abbrev pub seen_broken : List Seen → List Broken
seen_broken parts = flat_map (λ (part : Seen). (value_of part).broken) parts

abbrev pub arguments_asked : Table → List Seen → Judged Written
arguments_asked types parts = record {
  sound = (written_as types (seen_values parts)).sound;
  broken = seen_broken parts ++ (written_as types (seen_values parts)).broken;
}

-- ---- what is called: a function, a function literal or a method by itself, and else the value of a function type

abbrev pub IsValueCallee : TypedExpr → Callee → Type 0
IsValueCallee expr made = (b : Box TypedExpr) × ((b.value ≡ expr) × (made ≡ callee.Value b))

abbrev pub IsCalleeBy : TypedExpr
    → layers.ExprKind-F Callee Elements ExprKind Values EntryInit FieldInit ItemInit TypedExpr → Callee → Type 0
IsCalleeBy expr (layers.ExprKind-F.FunctionOf function) made = made ≡ callee.Function function
IsCalleeBy expr (layers.ExprKind-F.LiteralOf function) made = made ≡ callee.Literal function
IsCalleeBy expr (layers.ExprKind-F.MethodValue receiver method) made = made ≡ method_callee receiver method
IsCalleeBy expr _ made = IsValueCallee expr made

abbrev pub IsCallee : TypedExpr → Callee → Type 0
IsCallee expr made = IsCalleeBy expr (out-ExprKind expr.kind) made

abbrev pub IsCallNode : CallSite → TypeId → TypedExpr → Values → TypedExpr → Type 0
IsCallNode call of expr values made =
    (c : Callee) × (IsCallee expr c × (made ≡ node call.parenthesis of (CallOf c values)))

-- ---- the arguments of a call, whose number is asked before they are assigned

abbrev pub ArePassedBy : Plan → Signature → Written → Basis → Basis → Judged Values → Type 0
ArePassedBy plan signature (Written.each values) before after result =
    AreValues plan signature values before after result
ArePassedBy plan signature (Written.spread tuple parts) before after result =
    IsSpread plan signature tuple parts before after result

abbrev pub ArePassedAs : CallSite → Signature → Written → Basis → Basis → Judged Values → Type 0
ArePassedAs call signature given before after result =
    ArePassedBy (plan before.types call signature) signature given before after result

abbrev pub IsNumbered : Option NumberBreach → CallSite → Signature → Written → Basis → Basis → Judged Values → Type 0
IsNumbered (Some breach) call signature given before after result =
    Asks (λ types. record { sound = None; broken = breach_broken breach call.dots (place given call.at) }) before after
    result
IsNumbered None call signature given before after result = ArePassedAs call signature given before after result

abbrev pub AreArguments : CallSite → Signature → Written → Basis → Basis → Judged Values → Type 0
AreArguments call signature given before after result =
    IsNumbered (number_breach call signature given) call signature given before after result

-- ---- a call of a function

-- "f(..)" is of the result type; a call of none or several values is of a type of so many
abbrev pub IsResult : List TypeId → Basis → Basis → Judged TypeId → Type 0
IsResult (only ∷ []) before after result = Asks (λ types. fine only) before after result
IsResult results before after result = IsHeld (Tuple results) before after result

abbrev pub IsResulting : CallSite → List TypeId → TypedExpr → Values → Basis → Basis → Judged TypedExpr → Type 0
IsResulting call results expr values before after result =
    IsThenSoundly (IsResult results) (λ (of : TypeId). Keeps (λ types. IsFine (IsCallNode call of expr values))) before
    after result

abbrev pub IsSignatureCall : CallSite → Signature → TypedExpr → Written → Basis → Basis → Judged TypedExpr → Type 0
IsSignatureCall call signature expr given before after result =
    IsThenSoundly (AreArguments call signature given) (IsResulting call signature.results expr) before after result

abbrev pub IsValueCallBy : Option Signature → CallSite → TypedExpr → Written → Basis → Basis → Judged TypedExpr → Type 0
IsValueCallBy (Some signature) call expr given before after result =
    IsSignatureCall call signature expr given before after result
IsValueCallBy None call expr given before after result = Asks (λ types. breaks call.at NotAFunction) before after result

-- "Given an expression f with a core type F of function type"
abbrev pub IsValueCall : CallSite → TypedExpr → Written → Basis → Basis → Judged TypedExpr → Type 0
IsValueCall call expr given before after result =
    IsValueCallBy (signature_of before.types expr.of) call expr given before after result

abbrev pub IsCallOf : CallSite → Given × Written → Basis → Basis → Judged TypedExpr → Type 0
IsCallOf call (f, given) before after result = IsValueCall call f.expr given before after result

-- the arguments are asked also where it is unsound what is called
abbrev pub IsFunctionCall : CallSite → List Seen → Option Given → Basis → Basis → Judged TypedExpr → Type 0
IsFunctionCall call arguments f before after result =
    IsFollowed (Asks (λ types. arguments_asked types arguments))
    (λ (given : Option Written). Soundly (IsCallOf call) (option_zip f given)) before after result

-- ---- the rule: a conversion where a type is called, a call of a built-in function, and else of a value

abbrev pub site_of : Seen → Pos → Option Pos → CallSite
site_of f parenthesis dots = record { at = f.at; parenthesis = parenthesis; dots = dots }

abbrev pub IsCallBy : Option Meaning → Seen → Pos → List Seen → Option Pos → Basis → Basis → Judged TypedExpr → Type 0
IsCallBy (Some (meaning.Type of)) f parenthesis arguments dots before after result =
    IsConversion f.at of arguments dots before after result
IsCallBy (Some (meaning.Builtin builtin)) f parenthesis arguments dots before after result =
    IsBuiltIn (built_in_call f.at builtin parenthesis dots) arguments before after result
IsCallBy _ f parenthesis arguments dots before after result =
    IsFollowed (Asks (λ types. one_value types f)) (IsFunctionCall (site_of f parenthesis dots) arguments) before after
    result

abbrev pub IsCall : Seen → Pos → List Seen → Option Pos → Basis → Basis → Judged TypedExpr → Type 0
IsCall f parenthesis arguments dots before after result =
    IsCallBy f.meaning f parenthesis arguments dots before after result
