-- What calls come to, by what their parts do.
use Rattle.std.proofs.Common.{◌≡◌, ◌∙◌, ℕ, List, [], ◌∷◌, Option, Some, None, Bool, true, false, refl, sym, ap, subst}
use mathlib.Core.Bool.{true≢false}
use Rattle.std.specs.Prelude.{Result, Ok, Err, IsErrAnd, is_err, IfOk, OnOk, OnErr, ◌++◌, map}
use Rattle.std.specs.Option.{option_and_then}
use Rattle.code_plan.specs.declared.steps.Arg.{Arg}
use Rattle.code_plan.specs.declared.steps.BuiltinForm.{BuiltinForm}
use Rattle.code_plan.specs.declared.steps.Callee.{Callee}
use Rattle.code_plan.specs.declared.steps.Callee.TheVariants as callee
use Rattle.code_plan.specs.declared.steps.MethodName.{MethodName}
use Rattle.code_plan.specs.declared.steps.PlannedCall.{PlannedCall}
use Rattle.go_value.specs.Values as vals
use Rattle.go_value.specs.Values.{Val, value_of}
use Rattle.go_value.specs.declared.values.BoundTarget.TheVariants as target
use Rattle.go_base.specs.declared.memory.NoMemory.{NoMemory}
use Rattle.interp_calls.specs.Ways.{IsReadied, IsLater, gives_back, goes_to_call, on_way}
use Rattle.interp_state.specs.Machines.{called_of, machine_of}
use Rattle.interp_state.specs.Turns.{IsIn, ComesTo, Steps, IsUnseen, Meets}
use Rattle.interp_state.specs.declared.frames.Ready.{Ready}
use Rattle.interp_state.specs.declared.machine.Machine.{Machine}
use Rattle.interp_state.specs.declared.machine.Met.{Met}
use Rattle.interp_state.specs.declared.machine.Met.TheVariants as met
use Rattle.interp_state.specs.declared.machine.Turn.{Turn}
use Rattle.interp_state.specs.declared.machine.Turn.TheVariants as turn
use Rattle.interp_state.proofs.Turns.{from_unseen, goes_to, wants}
use Rattle.plan_mean.specs.Calls.{called_value, invoked, later, method_at, readied, returned, passed_by_invoke}
use Rattle.plan_mean.specs.Calls.{passed_on}
use Rattle.plan_mean.specs.Operands.{look, look_at_all}
use Rattle.plan_mean.specs.State as meant
use Rattle.plan_mean.specs.State.{World, Called, of_function, of_built_in, of_nil, Later, Next, goes, stuck}
use Rattle.plan_mean.specs.State.{where_there}
use Rattle.plan_mean.specs.Step.{calls, calls_built_in, goes_with_call, makes, with_later}
use Rattle.plan_mean.specs.Unwinding.{meets}
use Rattle.ssa_mean.specs.Calls.{results_of}
use Rattle.ssa_mean.specs.Comes.{Comes, to, of_option, then_to, where_some}

-- ---- machines that differ in what is on its way

pub within_waiting : (w : World) (old new : Machine) → new ≡ record old { waiting = new.waiting } → IsIn w old
    → IsIn w new
within_waiting w old new is within =
    subst (λ (m : Machine). IsIn w m) (sym is)
    (record { plan = within.plan; naming = within.naming; answers = within.answers; asked = within.asked })

pub waits : (old new : Machine) → new ≡ record old { waiting = new.waiting } → IsUnseen old new
waits old new is = record { machine = ap machine_of is; world = λ w within. within_waiting w old new is within }

-- a step of a machine that differs so, where the definition says the same
pub from_waiting : (result : Turn) (old mid new : Machine) (of : meant.Machine → World → Next)
    → mid ≡ record old { waiting = mid.waiting } → Steps result mid new (of (machine_of mid))
    → Steps result old new (of (machine_of old))
from_waiting result old mid new of is step =
    let same = waits old mid is in
    subst (λ (m : meant.Machine). Steps result old new (of m)) same.machine
    (from_unseen result old mid new (of (machine_of mid)) same step)

-- what a step comes to, in other words
pub as_said : (result : Turn) (old new : Machine) (one other : World → Next) → ((w : World) → IsIn w old → one w
    ≡ other w)
    → Steps result old new other → Steps result old new one
as_said result old new one other same step =
    record {
      comes = λ w within. subst (λ (n : Next). ComesTo w result new n) (sym (same w within)) (step.comes w within);
    }

-- what a step comes to from a machine that another led to
pub through : (result : Turn) (old mid new : Machine) (one other : World → Next)
    → ((w : World) → IsIn w old → IsIn w mid)
    → ((w : World) → IsIn w old → one w ≡ other w) → Steps result mid new other → Steps result old new one
through result old mid new one other enters same step =
    record {
      comes = λ w within. subst (λ (n : Next). ComesTo w result new n) (sym (same w within))
          (step.comes w (enters w within));
    }

-- what is done may want memory
pub done_or_wants : (r : Result Unit NoMemory) (result : Turn) (old new : Machine) (next : World → Next)
    → OnOk r (result ≡ turn.Goes) → OnErr r (result ≡ turn.WantsMemory) → ((w : World) → IsIn w old → IsIn w new)
    → ((w : World) → IsIn w old → OnOk r (next w ≡ goes (machine_of new))) → Steps result old new next
done_or_wants (Ok it) result old new next ok err enters same =
    record { comes = λ w within. goes_to w result new (next w) ok (enters w within) (same w within) }
done_or_wants (Err e) result old new next ok err enters same = wants result old new next err

-- ---- what is called

pub readied_is : (given : Result (Ready × ℕ) Met) (ready : Ready) (chain : ℕ) (new : Machine) (comes : Comes Later)
    → given ≡ Ok (ready, chain) → IsReadied given new comes → comes ≡ to (later (called_of ready) chain (on_way new))
readied_is given ready chain new comes is readied =
    subst (λ (g : Result (Ready × ℕ) Met). IsReadied g new comes) is readied

pub unreadied : (met : Met) (comes : World → Comes Later) (next : Later → World → Next)
    (result : Turn) (old mid new : Machine)
    → mid ≡ record old { waiting = mid.waiting } → Meets met result mid new
    → ((w : World) → IsIn w old → IsReadied (Err met) mid (comes w))
    → Steps result old new (λ w. goes_with_call w (machine_of old) (λ it. next it w) (comes w))
unreadied (met.Fault it) comes next result old mid new is met readied =
    as_said result old new (λ w. goes_with_call w (machine_of old) (λ it. next it w) (comes w))
    (λ w. meets w it (machine_of old))
    (λ w within. ap (goes_with_call w (machine_of old) (λ it. next it w)) (readied w within))
    (from_waiting result old mid new (λ m w. meets w it m) is met)
unreadied met.Memory comes next result old mid new is met readied =
    wants result old new (λ w. goes_with_call w (machine_of old) (λ it. next it w) (comes w)) met

pub unlater : (met : Met) (comes : World → Comes Later) (next : Later → World → Next)
    (result : Turn) (old mid new : Machine)
    → mid ≡ record old { waiting = mid.waiting } → Meets met result mid new
    → ((w : World) → IsIn w old → IsLater (Err met) (comes w))
    → Steps result old new (λ w. goes_with_call w (machine_of old) (λ it. next it w) (comes w))
unlater (met.Fault it) comes next result old mid new is met readied =
    as_said result old new (λ w. goes_with_call w (machine_of old) (λ it. next it w) (comes w))
    (λ w. meets w it (machine_of old))
    (λ w within. ap (goes_with_call w (machine_of old) (λ it. next it w)) (readied w within))
    (from_waiting result old mid new (λ m w. meets w it m) is met)
unlater met.Memory comes next result old mid new is met readied =
    wants result old new (λ w. goes_with_call w (machine_of old) (λ it. next it w) (comes w)) met

pub readied_goes : (comes : World → Comes Later) (next : Later → World → Next) (it : Later) (result : Turn)
    (old new : Machine)
    → ((w : World) → IsIn w old → comes w ≡ to it) → Steps result old new (next it)
    → Steps result old new (λ w. goes_with_call w (machine_of old) (λ it. next it w) (comes w))
readied_goes comes next it result old new readied step =
    as_said result old new (λ w. goes_with_call w (machine_of old) (λ it. next it w) (comes w)) (next it)
    (λ w within. ap (goes_with_call w (machine_of old) (λ it. next it w)) (readied w within)) step

-- ---- built-in functions

alone_is : (w : World) (m : meant.Machine) (slot : Option ℕ) (form : BuiltinForm) (all : Option (List Val))
    → goes_with_call w m (λ it. calls w m slot it it.called) (where_some (λ it. to (later (of_built_in form) 0 it)) all)
    ≡ where_there (calls_built_in w m slot form) all
alone_is w m slot form None = refl
alone_is w m slot form (Some its) = refl

pub built_in_is : (w : World) (m : meant.Machine) (slot : Option ℕ) (call : PlannedCall) (form : BuiltinForm)
    → call.callee ≡ callee.Builtin form
    → with_later w m call (λ it. calls w m slot it it.called)
    ≡ where_there (calls_built_in w m slot form) (look_at_all m call.arguments.items)
built_in_is w m slot call form is =
    ap (λ (it : Callee). goes_with_call w m (λ it. calls w m slot it it.called) (readied w m it call.arguments.items))
    is
    ∙ alone_is w m slot form (look_at_all m call.arguments.items)

-- ---- calls of what is no built-in function

-- both ways of a call
Agrees : World → meant.Machine → Option ℕ → Comes Later → Type 0
Agrees w m slot comes =
    goes_with_call w m (λ it. calls w m slot it it.called) comes
    ≡ goes_with_call w m (λ it. goes_to_call w m slot it false it.called) comes

function_agrees : (w : World) (m : meant.Machine) (slot : Option ℕ) (n chain : ℕ) (all : Option (List Val))
    → Agrees w m slot (where_some (λ it. to (later (of_function n []) chain it)) all)
unfolding Agrees
function_agrees w m slot n chain None = refl
function_agrees w m slot n chain (Some its) = refl

value_agrees : (w : World) (m : meant.Machine) (slot : Option ℕ) (its : List Val) (v : Val)
    → Agrees w m slot (where_some (λ called. to (later called 0 its)) (called_value v))
unfolding Agrees
value_agrees w m slot its vals.nil_function = refl
value_agrees w m slot its (vals.closure id captured) = refl
value_agrees w m slot its (vals.bound (target.Function id) receiver) = refl
value_agrees w m slot its _ = refl

looked_agrees : (w : World) (m : meant.Machine) (slot : Option ℕ) (its : List Val) (v : Option Val)
    → Agrees w m slot (where_some (λ called. to (later called 0 its)) (option_and_then called_value v))
unfolding Agrees
looked_agrees w m slot its None = refl
looked_agrees w m slot its (Some v) = value_agrees w m slot its v

values_agree : (w : World) (m : meant.Machine) (slot : Option ℕ) (v : Option Val) (all : Option (List Val))
    → Agrees w m slot (where_some (λ its. where_some (λ called. to (later called 0 its))
    (option_and_then called_value v)) all)
unfolding Agrees
values_agree w m slot v None = refl
values_agree w m slot v (Some its) = looked_agrees w m slot its v

found_agrees : (w : World) (m : meant.Machine) (slot : Option ℕ) (chain : ℕ) (its : List Val) (n : Option ℕ)
    → Agrees w m slot (then_to (λ n. later (of_function n []) chain its) (of_option n))
unfolding Agrees
found_agrees w m slot chain its None = refl
found_agrees w m slot chain its (Some n) = refl

invoked_agrees : (w : World) (m : meant.Machine) (slot : Option ℕ) (chain : ℕ) (method : MethodName) (its : List Val)
    (v : Val) → Agrees w m slot (invoked w chain method its v)
unfolding Agrees
invoked_agrees w m slot chain method its (vals.dynamic of it) =
    found_agrees w m slot chain (it ∷ its) (method_at w (record { receiver = of; method = method }))
invoked_agrees w m slot chain method its _ = refl

invokes_agree : (w : World) (m : meant.Machine) (slot : Option ℕ) (chain : ℕ) (method : MethodName)
    (all : Option (List Val)) (v : Option Val)
    → Agrees w m slot (where_some (λ it. where_some (λ its. invoked w chain method its it) all) v)
unfolding Agrees
invokes_agree w m slot chain method all None = refl
invokes_agree w m slot chain method None (Some v) = refl
invokes_agree w m slot chain method (Some its) (Some v) = invoked_agrees w m slot chain method its v

callee_agrees : (w : World) (m : meant.Machine) (slot : Option ℕ) (it : Callee) (args : List Arg)
    → ((form : BuiltinForm) → it ≡ callee.Builtin form → ⊥) → Agrees w m slot (readied w m it args)
callee_agrees w m slot (callee.Function n) args other =
    function_agrees w m slot n (passed_on m.current.frames) (look_at_all m args)
callee_agrees w m slot (callee.Value value) args other = values_agree w m slot (look m value) (look_at_all m args)
callee_agrees w m slot (callee.Method receiver method) args other =
    invokes_agree w m slot (passed_by_invoke m.current.frames) method (look_at_all m args) (look m receiver)
callee_agrees w m slot (callee.Builtin form) args other = absurd (other form refl)

pub function_is : (w : World) (m : meant.Machine) (slot : Option ℕ) (call : PlannedCall)
    → ((form : BuiltinForm) → call.callee ≡ callee.Builtin form → ⊥)
    → with_later w m call (λ it. calls w m slot it it.called)
    ≡ with_later w m call (λ it. goes_to_call w m slot it false it.called)
unfolding Agrees
function_is w m slot call other = callee_agrees w m slot call.callee call.arguments.items other

-- ---- calls that were put off

pub makes_is : (w : World) (m : meant.Machine) (it : Later) (deferred : Bool) (called : Called)
    → makes w m it deferred called ≡ goes_to_call w m None it deferred called
makes_is w m it deferred (of_function n free) = refl
makes_is w m it deferred (of_built_in form) = refl
makes_is w m it deferred of_nil = refl

-- ---- results

pub returned_is : (results : List Val) (frames : List meant.Frame) (m : meant.Machine)
    → returned results frames m ≡ gives_back (results_of results) frames m
returned_is results [] m = refl
returned_is results (top ∷ below) m = refl

-- ---- arguments

pub all_on_way : (r : Result Unit NoMemory) (old mid new : Machine) (args : List Arg)
    → IfOk r (λ _. (its : List Val) × ((look_at_all (machine_of mid) args ≡ Some its)
    × (map value_of new.waiting.items ≡ map value_of mid.waiting.items ++ its)))
    → mid.waiting.items ≡ [] → machine_of mid ≡ machine_of old
    → OnOk r (look_at_all (machine_of old) args ≡ Some (on_way new))
all_on_way (Err e) old mid new args h none same = tt
all_on_way (Ok it) old mid new args h none same =
    ap (λ (m : meant.Machine). look_at_all m args) (sym same) ∙ h.1.0
    ∙ ap (λ (its : List Val). Some its) (sym (h.1.1 ∙ ap (λ xs. map value_of xs ++ h.0) none))

-- ---- calls that want memory

pub err_ok : {A E : Type 0} (r : Result A E) (P : Type 0) → is_err r ≡ true → OnOk r P
err_ok (Ok it) P h = absurd (true≢false (sym h))
err_ok (Err e) P h = tt

pub err_readied : (r : Result (Ready × ℕ) Met) (new : Machine) (comes : Comes Later) → IsErrAnd r (λ e. e ≡ met.Memory)
    → IsReadied r new comes
err_readied (Ok it) new comes h = absurd h
err_readied (Err (met.Fault it)) new comes h = let no : ⊥ = cc in absurd no
err_readied (Err met.Memory) new comes h = tt
