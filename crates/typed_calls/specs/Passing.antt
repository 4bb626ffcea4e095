-- How many arguments a call has, to which parameters they go, and what is called. Go specification, "Calls" and
-- "Passing arguments to ... parameters".
use Rattle.std.specs.Prelude.{ℕ, ◌-◌, ◌||◌, not, is_some, nat_le, nat_lt, nat_eq, Bool, true, false, if◌then◌else◌}
use Rattle.std.specs.Prelude.{List, [], ◌∷◌, length, Option, Some, None, slice_get}
use Rattle.std.specs.Global.{Box}
use Rattle.std.specs.Option.{option_map}
use Rattle.go_base.specs.declared.ids.TypeId.{TypeId}
use Rattle.go_base.specs.declared.place.Pos.{Pos}
use Rattle.go_base.specs.declared.rule.Rule.TheVariants.{BadUseOfDots, WrongNumberOfValues}
use Rattle.go_tree.specs.declared.exprs.Callee.{Callee}
use Rattle.go_tree.specs.declared.exprs.Callee.TheVariants as callee
use Rattle.go_tree.specs.declared.exprs.Method.{Method}
use Rattle.go_tree.specs.declared.exprs.Method.TheVariants as method
use Rattle.go_tree.specs.declared.exprs.TypedExpr.{TypedExpr}
use Rattle.go_type.specs.declared.term.Signature.{Signature}
use Rattle.go_type.specs.declared.term.TypeTerm.{TypeTerm}
use Rattle.go_type.specs.declared.term.TypeTerm.TheVariants.{Func, Slice}
use Rattle.go_type.specs.Assignable.{underlying_term_of}
use Rattle.go_type.specs.Table.{Table}
use Rattle.typed_parts.specs.declared.meaning.Given.{Given}
use Rattle.typed_parts.specs.Judged.{Broken}
use Rattle.typed_parts.specs.Several.{place_of}
use Rattle.typed_calls.specs.declared.calling.Arguments.{Arguments}
use Rattle.typed_calls.specs.declared.calling.Arguments.TheVariants as arguments
use Rattle.typed_calls.specs.declared.calling.CallSite.{CallSite}
use Rattle.typed_calls.specs.declared.calling.NumberBreach.{NumberBreach}
use Rattle.typed_calls.specs.declared.calling.NumberBreach.TheVariants as breach
use Rattle.typed_calls.specs.declared.packing.Plan.{Plan}

-- ---- arguments: one value each, or the values of a call of several

pub data Written : Type 0 where
  each : List (Option Given) → Written
  spread : Given → List TypeId → Written

abbrev pub written : Arguments → Written
written (arguments.Each values) = Written.each values.items
written (arguments.Spread value parts) = Written.spread value parts.items

-- ---- the number of arguments

-- a call of several values counts for so many
abbrev pub count : Written → ℕ
count (Written.each values) = length values
count (Written.spread value parts) = length parts

abbrev pub is_spread : Written → Bool
is_spread (Written.each values) = false
is_spread (Written.spread value parts) = true

-- where the arguments begin, where they are sound
abbrev pub place : Written → Pos → Option Pos
place (Written.each values) otherwise = place_of values otherwise
place (Written.spread value parts) otherwise = Some value.at

-- "If the final argument is assignable to a slice type []T and is followed by `...`, it is passed unchanged": of a
-- variadic function, as the argument of its last parameter
abbrev pub dots_breach : Signature → Bool → ℕ → ℕ → Option NumberBreach
dots_breach signature spreads number wanted =
    if not signature.variadic || (spreads || nat_lt wanted number) then Some breach.Dots
    else if nat_eq number wanted then None
    else Some breach.Count

abbrev pub is_enough : Bool → ℕ → ℕ → Bool
is_enough true number wanted = nat_le (wanted - 1) number
is_enough false number wanted = nat_eq number wanted

-- each parameter has an argument, but for a variadic one, which has any number
abbrev pub count_breach : Signature → ℕ → ℕ → Option NumberBreach
count_breach signature number wanted =
    if is_enough signature.variadic number wanted then None else Some breach.Count

abbrev pub breach_at : Option Pos → Signature → Bool → ℕ → Option NumberBreach
breach_at (Some dots) signature spreads number = dots_breach signature spreads number (length signature.params)
breach_at None signature spreads number = count_breach signature number (length signature.params)

abbrev pub number_breach : CallSite → Signature → Written → Option NumberBreach
number_breach call signature given = breach_at call.dots signature (is_spread given) (count given)

abbrev pub breach_broken : NumberBreach → Option Pos → Option Pos → List Broken
breach_broken breach.Dots (Some dots) (Some place) = record { at = dots; rule = BadUseOfDots } ∷ []
breach_broken _ dots (Some place) = record { at = place; rule = WrongNumberOfValues } ∷ []
breach_broken _ dots None = []

-- ---- the parameters that arguments go to

abbrev pub slice_in : TypeId → Option TypeTerm → Option (TypeId × TypeId)
slice_in of (Some (Slice elem)) = Some (of, elem)
slice_in of _ = None

abbrev pub slice_of : Table → TypeId → Option (TypeId × TypeId)
slice_of types of = slice_in of (underlying_term_of types of)

abbrev pub last_of : List TypeId → Option TypeId
last_of params = slice_get params (length params - 1)

abbrev pub plan_by : Table → CallSite → ℕ → Bool → Option TypeId → Plan
plan_by types call number true (Some slice) =
    record { call = call; fixed = number - 1; packs = slice_of types slice }
plan_by types call number packs other = record { call = call; fixed = number; packs = None }

abbrev pub packs : CallSite → Bool → Bool
packs call true = not (is_some call.dots)
packs call false = false

-- "a new slice .. whose successive elements are the actual arguments": where no `...` is written
abbrev pub plan : Table → CallSite → Signature → Plan
plan types call signature =
    plan_by types call (length signature.params) (packs call signature.variadic) (last_of signature.params)

abbrev pub elem_of_pair : TypeId × TypeId → TypeId
elem_of_pair (slice, elem) = elem

-- the type that an argument goes to
abbrev pub target : Plan → Signature → ℕ → Option TypeId
target plan signature number =
    if nat_lt number plan.fixed then slice_get signature.params number else option_map elem_of_pair plan.packs

-- ---- what is called: a method with its receiver, or a value of a function type

abbrev pub method_callee : Box TypedExpr → Method → Callee
method_callee receiver (method.Concrete function) = callee.Method receiver function
method_callee receiver (method.Interface name package_number) = callee.Interface receiver name package_number

abbrev pub function_term : Option TypeTerm → Option Signature
function_term (Some (Func signature)) = Some signature
function_term _ = None

-- the function type that the underlying type is
abbrev pub signature_of : Table → TypeId → Option Signature
signature_of types of = function_term (underlying_term_of types of)
