-- What calls of built-in functions have in common. Go specification, "Built-in functions".
use Rattle.std.specs.Prelude.{◌≡◌, ℕ, ◌||◌, nat_le, nat_eq, Bool, true, false, if◌then◌else◌, List, [], ◌∷◌, map}
use Rattle.std.specs.Prelude.{length, Option, Some, None, slice_get}
use Rattle.std.specs.List.{flat_map}
use Rattle.std.specs.Option.{option_flatten}
use Rattle.std.specs.Global.{Vec}
use Rattle.go_base.specs.declared.ids.TypeId.{TypeId}
use Rattle.go_base.specs.declared.place.Pos.{Pos}
use Rattle.go_base.specs.declared.rule.Rule.TheVariants.{BadBuiltInCall, BadUseOfDots, WrongNumberOfValues}
use Rattle.go_rules.specs.Operands.{class_at, is_truth, ordered}
use Rattle.go_tree.specs.declared.exprs.ExprKind.TheVariants.{BuiltinOf}
use Rattle.go_tree.specs.declared.exprs.TypedExpr.{TypedExpr}
use Rattle.go_type.specs.declared.operators.Builtin.{Builtin}
use Rattle.go_type.specs.declared.operators.Builtin.TheVariants as builtin
use Rattle.go_type.specs.declared.term.TypeTerm.TheVariants.{Interface, Tuple}
use Rattle.go_type.specs.Table.{Table}
use Rattle.typed_parts.specs.declared.meaning.Given.{Given}
use Rattle.typed_parts.specs.declared.meaning.Seen.{Seen}
use Rattle.typed_parts.specs.Adapting.{IsAssignedTo, IsDefaultFor}
use Rattle.typed_parts.specs.Joining.{only}
use Rattle.typed_parts.specs.Judged.{Broken, IsFine, Judged, breaks, fine}
use Rattle.typed_parts.specs.Meanings.{one_value}
use Rattle.typed_parts.specs.Nodes.{node}
use Rattle.typed_parts.specs.Several.{place_of}
use Rattle.typed_built_ins.specs.declared.built_ins.BuiltInCall.{BuiltInCall}
use Rattle.typed_parts.specs.Turning.{Asks, IsEach, IsHeld, IsThenSoundly, Keeps, Soundly}
use Rattle.typed_parts.specs.Limits.{Basis}

abbrev pub built_in_call : Pos → Builtin → Pos → Option Pos → BuiltInCall
built_in_call at builtin parenthesis dots =
    record { at = at; builtin = builtin; parenthesis = parenthesis; dots = dots }

abbrev pub built_in_node : BuiltInCall → TypeId → Option TypeId → Vec TypedExpr → Bool → TypedExpr
built_in_node call of form arguments spread =
    node call.parenthesis of (BuiltinOf call.builtin form arguments spread)

-- the call of a type with its arguments
abbrev pub IsNode : BuiltInCall → TypeId → Option TypeId → List TypedExpr → Bool → TypedExpr → Type 0
IsNode call of form arguments spread made =
    (v : Vec TypedExpr) × ((v.items ≡ arguments) × (made ≡ built_in_node call of form v spread))

abbrev pub IsCallNode : BuiltInCall → TypeId → Option TypeId → List TypedExpr → Bool → Basis → Basis → Judged TypedExpr
    → Type 0
IsCallNode call of form arguments spread before after result =
    Keeps (λ types. IsFine (IsNode call of form arguments spread)) before after result

-- a call without a value is of the type of no values
abbrev pub IsAction : BuiltInCall → List TypedExpr → Basis → Basis → Judged TypedExpr → Type 0
IsAction call arguments before after result =
    IsThenSoundly (IsHeld (Tuple [])) (λ (nothing : TypeId). IsCallNode call nothing None arguments false) before after
    result

-- ---- arguments

abbrev pub values_in : Table → List Seen → List (Option Given)
values_in types parts = map (λ (part : Seen). (one_value types part).sound) parts

abbrev pub broken_in : Table → List Seen → List Broken
broken_in types parts = flat_map (λ (part : Seen). (one_value types part).broken) parts

-- arguments that each have to be one value; they may be unsound
abbrev pub each_value : Table → List Seen → Judged (List (Option Given))
each_value types parts = record { sound = Some (values_in types parts); broken = broken_in types parts }

-- an argument by its number, from 0
abbrev pub argument : List (Option Given) → ℕ → Option Given
argument values number = option_flatten (slice_get values number)

-- how many arguments a function takes
abbrev pub takes_number : Builtin → ℕ → Bool
takes_number builtin.Append number = nat_le 1 number
takes_number builtin.Max number = nat_le 1 number
takes_number builtin.Min number = nat_le 1 number
takes_number builtin.Make number = nat_le 1 number
takes_number builtin.Cap number = nat_eq number 1
takes_number builtin.Clear number = nat_eq number 1
takes_number builtin.Close number = nat_eq number 1
takes_number builtin.Len number = nat_eq number 1
takes_number builtin.New number = nat_eq number 1
takes_number builtin.Panic number = nat_eq number 1
takes_number builtin.Copy number = nat_eq number 2
takes_number builtin.Delete number = nat_eq number 2
takes_number builtin.Print number = true
takes_number builtin.Println number = true
takes_number builtin.Recover number = nat_eq number 0

-- a `...` that may not be: "append" alone has a variadic parameter that takes a slice
abbrev pub misplaced : Builtin → Option Pos → Option Pos
misplaced builtin.Append dots = None
misplaced _ dots = dots

abbrev pub takes_of : Option Pos → Bool → Bool
takes_of (Some dots) takes = false
takes_of None takes = takes

abbrev pub takes_call : BuiltInCall → List (Option Given) → Bool
takes_call call values = takes_of (misplaced call.builtin call.dots) (takes_number call.builtin (length values))

-- a rule about all arguments is broken where these are sound
abbrev pub number_of : Option Pos → Bool → Option Pos → List Broken
number_of (Some dots) takes (Some place) = record { at = dots; rule = BadUseOfDots } ∷ []
number_of (Some dots) takes None = []
number_of None true place = []
number_of None false (Some place) = record { at = place; rule = WrongNumberOfValues } ∷ []
number_of None false None = []

abbrev pub number_broken : BuiltInCall → List (Option Given) → List Broken
number_broken call values =
    number_of (misplaced call.builtin call.dots) (takes_number call.builtin (length values)) (place_of values call.at)

-- there is no `...` where none may be, and the number of arguments is one that the function takes
abbrev pub number_asked : BuiltInCall → List (Option Given) → Judged (List (Option Given))
number_asked call values =
    record { sound = only (Some values) (takes_call call values); broken = number_broken call values }

-- ---- "Handling panics" and "Bootstrapping"

-- "the predeclared type interface{}"; "panic": its argument becomes one
abbrev pub IsPanicOf : BuiltInCall → Given → TypeId → Basis → Basis → Judged TypedExpr → Type 0
IsPanicOf call x any before after result =
    IsThenSoundly (Keeps (λ types. IsAssignedTo types (Some x) (Some any)))
    (λ (value : TypedExpr). IsAction call (value ∷ [])) before after result

abbrev pub IsPanic : BuiltInCall → Given → Basis → Basis → Judged TypedExpr → Type 0
IsPanic call x before after result = IsThenSoundly (IsHeld (Interface [])) (IsPanicOf call x) before after result

abbrev pub IsRecover : BuiltInCall → Basis → Basis → Judged TypedExpr → Type 0
IsRecover call before after result =
    IsThenSoundly (IsHeld (Interface [])) (λ (any : TypeId). IsCallNode call any None [] false) before after result

-- integers, strings and booleans are printed
abbrev pub is_printed : Table → TypeId → Bool
is_printed types of = ordered (class_at types of) || is_truth types of

abbrev pub print_asked : Table → Pos → TypedExpr → Judged TypedExpr
print_asked types at value = if is_printed types value.of then fine value else breaks at BadBuiltInCall

-- an untyped operand is printed by its default type
abbrev pub IsPrinted : Given → Basis → Basis → Judged TypedExpr → Type 0
IsPrinted x before after result =
    IsThenSoundly (Keeps (λ types. IsDefaultFor types (Some x)))
    (λ (value : TypedExpr). Asks (λ types. print_asked types x.at value)) before after result

abbrev pub IsPrintable : ℕ → Option Given → Basis → Basis → Judged TypedExpr → Type 0
IsPrintable number x before after result = Soundly IsPrinted x before after result

abbrev pub IsPrint : BuiltInCall → List (Option Given) → Basis → Basis → Judged TypedExpr → Type 0
IsPrint call values before after result = IsThenSoundly (IsEach IsPrintable values) (IsAction call) before after result
