-- Calls that are readied: what is called, and with which arguments.
use Rattle.std.proofs.Common.{◌≡◌, ◌∙◌, ℕ, List, [], ◌∷◌, Option, Some, None, refl, sym, ap, subst, Global}
use Rattle.std.specs.Prelude.{Result, Err, IfOk}
use Rattle.std.specs.declared.rc.Rc.{Rc}
use Rattle.code_plan.specs.declared.steps.Arg.{Arg}
use Rattle.code_plan.specs.declared.steps.Callee.{Callee}
use Rattle.code_plan.specs.declared.steps.MethodName.{MethodName}
use Rattle.go_value.specs.Values.{Val, Typed, dynamic, function_of, value_of}
use Rattle.go_value.specs.declared.faults.Fault.TheVariants as fault
use Rattle.go_value.specs.declared.values.FuncValue.{FuncValue}
use Rattle.go_value.specs.declared.values.Value.{Value}
use Rattle.go_value.specs.declared.values.Value.TheVariants as values
use Rattle.interp_calls.specs.Ways.{IsMethod, IsReadied, called_as, on_way}
use Rattle.interp_state.specs.declared.frames.Bound.{Bound}
use Rattle.interp_state.specs.declared.frames.Ready.{Ready}
use Rattle.interp_state.specs.declared.machine.Machine.{Machine}
use Rattle.interp_state.specs.declared.machine.Met.{Met}
use Rattle.interp_state.specs.declared.machine.Met.TheVariants as met
use Rattle.plan_mean.specs.Calls.{called_value, invoked, later, method_at, readied}
use Rattle.plan_mean.specs.State as meant
use Rattle.plan_mean.specs.State.{World, Later, of_function}
use Rattle.ssa_mean.specs.Comes.{Comes, to, faults, of_option, then_to, where_some}

-- ---- methods

pub method_is : (w : World) (chain : ℕ) (method : MethodName) (arguments : List Val) (there : Option Val) (it : Value)
    (held : Rc Typed Global) (one two : Typed) (n : ℕ) (copy : Value) → there ≡ Some (value_of it)
    → it ≡ values.Interface held → one ≡ held.value → two ≡ held.value
    → method_at w (record { receiver = one.of; method = method }) ≡ Some n → value_of copy ≡ two.value
    → where_some (invoked w chain method arguments) there
    ≡ to (later (of_function n []) chain (value_of copy ∷ arguments))
method_is w chain method arguments there it held one two n copy is interface same same' found copied =
    let holds : held.value.value ≡ value_of copy =
    sym (copied ∙ ap (λ (d : Typed). d.value) same') in
    let found' : method_at w (record { receiver = held.value.of; method = method }) ≡ Some n =
    ap (λ (d : Typed). method_at w (record { receiver = d.of; method = method })) (sym same) ∙ found in
    ap (where_some (invoked w chain method arguments)) (is
    ∙ ap Some (ap value_of interface ∙ ap (dynamic held.value.of) holds))
    ∙ ap (λ n. then_to (λ n. later (of_function n []) chain (value_of copy ∷ arguments)) (of_option n)) found'

pub no_method : (w : World) (chain : ℕ) (method : MethodName) (arguments : List Val) (there : Option Val) (it : Value)
    → there ≡ Some (value_of it) → it ≡ values.NilInterface
    → where_some (invoked w chain method arguments) there ≡ faults fault.NilPointer
no_method w chain method arguments there it is nil =
    ap (where_some (invoked w chain method arguments)) (is ∙ ap Some (ap value_of nil))

-- ---- function values

pub func_called : {E : Type 0} (r : Result (Option (ℕ × Bound)) E) (it : Value) (held : Rc FuncValue Global)
    (inner : FuncValue) → it ≡ values.Func held → inner ≡ held.value
    → IfOk r (λ it. called_value (function_of inner) ≡ Some (called_as it))
    → IfOk r (λ c. called_value (value_of it) ≡ Some (called_as c))
func_called r it held inner is same =
    subst (λ v. IfOk r (λ c. called_value v ≡ Some (called_as c)))
    (ap function_of same ∙ sym (ap value_of is))

pub called_so : {E : Type 0} (r : Result (Option (ℕ × Bound)) E) (it other : Val) → it ≡ other
    → IfOk r (λ it. called_value other ≡ Some (called_as it)) → IfOk r (λ c. called_value it ≡ Some (called_as c))
called_so r it other is = subst (λ v. IfOk r (λ c. called_value v ≡ Some (called_as c))) (sym is)

-- ---- with arguments

-- which of the two is asked first does not matter
asked_first : {A B C : Type 0} (f : A → B → Comes C) (all : Option A) (v : Option B)
    → where_some (λ it. where_some (λ its. f its it) all) v ≡ where_some (λ its. where_some (f its) v) all
asked_first f None None = refl
asked_first f None (Some v) = refl
asked_first f (Some all) None = refl
asked_first f (Some all) (Some v) = refl

alike : {A B : Type 0} (f g : A → Comes B) (all : Option A) → ((its : A) → f its ≡ g its)
    → where_some f all ≡ where_some g all
alike f g None same = refl
alike f g (Some its) same = same its

pub method_readied : (r : Result (Ready × ℕ) Met) (new : Machine) (w : World) (chain n : ℕ) (method : MethodName)
    (held : Val)
    (all : Option (List Val)) (v : Option Val)
    → ((its : List Val) → where_some (invoked w chain method its) v ≡ to (later (of_function n []) chain (held ∷ its)))
    → IsReadied r new (where_some (λ its. to (later (of_function n []) chain (held ∷ its))) all)
    → IsReadied r new (where_some (λ it. where_some (λ its. invoked w chain method its it) all) v)
method_readied r new w chain n method held all v is =
    subst (λ comes. IsReadied r new comes)
    (sym (asked_first (invoked w chain method) all v
    ∙ alike (λ its. where_some (invoked w chain method its) v) (λ its. to (later (of_function n []) chain (held ∷ its)))
    all is))

pub method_met : (met : Met) (new : Machine) (w : World) (chain : ℕ) (method : MethodName) (all : Option (List Val))
    (v : Option Val) → all ≡ Some (on_way new)
    → ((its : List Val) → IsMethod (Err met) chain its (where_some (invoked w chain method its) v))
    → IsReadied (Err met) new (where_some (λ it. where_some (λ its. invoked w chain method its it) all) v)
method_met (met.Fault it) new w chain method all v read is =
    asked_first (invoked w chain method) all v
    ∙ ap (where_some (λ its. where_some (invoked w chain method its) v)) read ∙ is (on_way new)
method_met met.Memory new w chain method all v read is = tt

-- ---- by the form of what is called

pub readied_by : (r : Result (Ready × ℕ) Met) (new : Machine) (w : World) (m : meant.Machine) (it one : Callee)
    (items args : List Arg) → it ≡ one → args ≡ items → IsReadied r new (readied w m one args)
    → IsReadied r new (readied w m it items)
readied_by r new w m it one items args is same =
    subst (λ comes. IsReadied r new comes) (λ i. readied w m (sym is i) (same i))
