-- Calls whose operands are known, in both machines.
use Rattle.std.proofs.Common.{◌≡◌, ℕ, suc, ◌≤◌, min, Bool, true, false, List, [], ◌∷◌, Option, Some, None, ap, refl}
use Rattle.std.proofs.Common.{sym, subst, ◌∙◌, arith}
use Rattle.std.proofs.lemmas.Option.{same_Some}
use Rattle.std.specs.Prelude.{if◌then◌else◌}
use Rattle.std.specs.Option.{option_and_then, option_map}
use Rattle.code_plan.specs.Calls.{IsCall, IsCallee, meant_by, operands_of, with_counted}
use Rattle.code_plan.specs.Operands.{AreArgs}
use Rattle.code_plan.specs.Plans.{role_of}
use Rattle.code_plan.specs.declared.steps.Arg.{Arg}
use Rattle.code_plan.specs.declared.steps.BuiltinForm.{BuiltinForm}
use Rattle.code_plan.specs.declared.steps.Callee.{Callee}
use Rattle.code_plan.specs.declared.steps.Callee.TheVariants as callee
use Rattle.code_plan.specs.declared.steps.MethodName.{MethodName}
use Rattle.code_plan.specs.declared.steps.PlannedCall.{PlannedCall}
use Rattle.code_plan.specs.declared.steps.Role.{Role}
use Rattle.code_plan.specs.declared.steps.Role.TheVariants as role
use Rattle.code_plan.specs.declared.steps.Step.{Step}
use Rattle.go_base.specs.declared.ids.FuncId.{FuncId}
use Rattle.go_base.specs.declared.ids.NameId.{NameId}
use Rattle.go_value.specs.Values as vals
use Rattle.go_value.specs.Values.{Val}
use Rattle.go_value.specs.declared.values.BoundTarget.TheVariants as target
use Rattle.plan_laws.proofs.Acting.{Acting, IsActing, AgreeBy, site_of, plan_site, acting_on}
use Rattle.plan_laws.proofs.Alike.{Known, IsKnown, IsLater, IsCalled, IsFrame, Follows}
use Rattle.plan_laws.proofs.Blocks.{function_of}
use Rattle.plan_laws.proofs.Reading.{one_value, all_values}
use Rattle.plan_laws.proofs.Throwing.{faults_alike}
use Rattle.plan_mean.specs.Calls as planned_calls
use Rattle.plan_mean.specs.Slots.{top_of}
use Rattle.plan_mean.specs.State as plans
use Rattle.plan_mean.specs.Step as planned
use Rattle.plan_mean.specs.Unwinding as planned_unwinding
use Rattle.ssa_ir.specs.declared.code.Function.{Function}
use Rattle.ssa_ir.specs.declared.code.FunctionKind.{FunctionKind}
use Rattle.ssa_ir.specs.declared.code.FunctionKind.TheVariants as kind
use Rattle.ssa_ir.specs.declared.ops.Call.{Call}
use Rattle.ssa_ir.specs.declared.ops.Call.TheVariants as call
use Rattle.ssa_mean.specs.BuiltIns.{built_in_of}
use Rattle.ssa_mean.specs.Calls as calls
use Rattle.ssa_mean.specs.Calls.{most_passed}
use Rattle.ssa_mean.specs.Operands.{value_of}
use Rattle.ssa_mean.specs.Comes.{Comes, to, faults, nowhere, where_some, then_to, of_option}
use Rattle.ssa_mean.specs.State as codes
use Rattle.ssa_mean.specs.State.{BuiltIn}
use Rattle.ssa_mean.specs.Step as steps
use Rattle.ssa_mean.specs.Unwinding as unwinding
use Rattle.ssa_mean.specs.Unwinding.{is_wrapper_kind, is_source_kind}

-- ---- steps of both machines

pub follows_stuck : (k : Known) (next : codes.Next) → Follows k next plans.stuck
follows_stuck k codes.stuck = tt
follows_stuck k _ = tt

-- ---- kinds and roles

-- what is true of a role by which of both it is
one_of_both : (is : Role → Bool) (wanted b : Bool) → is role.Exit ≡ wanted → is role.Gosched ≡ wanted
    → is (if b then role.Exit else role.Gosched) ≡ wanted
one_of_both is wanted true p q = p
one_of_both is wanted false p q = q

pub same_wrapper : (function : Function) (of : FunctionKind)
    → planned_unwinding.is_wrapper (role_of function of) ≡ is_wrapper_kind of
same_wrapper function kind.Source = refl
same_wrapper function kind.Init = refl
same_wrapper function kind.Wrapper = refl
same_wrapper function kind.External = one_of_both planned_unwinding.is_wrapper false _ refl refl

pub same_source : (function : Function) (of : FunctionKind)
    → planned_unwinding.is_source (role_of function of) ≡ is_source_kind of
same_source function kind.Source = refl
same_source function kind.Init = refl
same_source function kind.Wrapper = refl
same_source function kind.External = one_of_both planned_unwinding.is_source false _ refl refl

-- ---- how many embedded interfaces a selection has passed

at_most : (n : ℕ) → n ≤ most_passed → min n most_passed ≡ n
at_most n h = omega arith

pub same_passed_on : (k : Known) → IsKnown k → (function : Function) (frame : codes.Frame) (row : List (Option Val))
    (planned : plans.Frame) (others : List plans.Frame) → IsFrame k function frame row planned
    → planned_calls.passed_on (planned ∷ others) ≡ calls.passed_on function frame
same_passed_on k known function frame row planned others is =
    let made = function_of k known function frame row planned is in
    let same : planned_unwinding.is_wrapper planned.function.role ≡ is_wrapper_kind function.kind =
    ap planned_unwinding.is_wrapper made.role ∙ same_wrapper function function.kind in
    λ i. if same i then is.chain i else 0

pub same_passed_by_invoke : (k : Known) → IsKnown k → (function : Function) (frame : codes.Frame)
    (row : List (Option Val)) (planned : plans.Frame) (others : List plans.Frame) → IsFrame k function frame row planned
    → planned_calls.passed_by_invoke (planned ∷ others) ≡ calls.passed_by_invoke function frame
same_passed_by_invoke k known function frame row planned others is =
    let made = function_of k known function frame row planned is in
    let most : min planned.chain most_passed ≡ frame.chain =
    ap (λ (n : ℕ). min n most_passed) is.chain ∙ at_most frame.chain is.passed in
    λ i. if made.promotes i then suc (most i) else same_passed_on k known function frame row planned others is i

-- ---- what is called

none_agrees : {A B : Type 0} (R : A → B → Type 0) (it : Comes B) → AgreeBy R nowhere it
none_agrees R nowhere = tt
none_agrees R _ = tt

-- all arguments have values, or none is made
both_ready : (values : Option (List Val)) (one : List Val → codes.Later) (other : List Val → plans.Later)
    → ((its : List Val) → IsLater (one its) (other its))
    → AgreeBy IsLater (then_to one (of_option values)) (where_some (λ its. to (other its)) values)
both_ready None one other h = tt
both_ready (Some its) one other h = h its

alike_later : (callee : codes.Callee) (called : plans.Called) → IsCalled callee called → (chain chain' : ℕ) → chain' ≡ chain
    → (its : List Val) → IsLater (calls.later callee chain its) (planned_calls.later called chain' its)
alike_later callee called is chain chain' same its = record { called = is; arguments = refl; chain = same }

-- ---- functions that are known

static_alike : (id : FuncId) (n chain chain' : ℕ) → n ≡ id.number → chain' ≡ chain → (values : Option (List Val))
    → AgreeBy IsLater (then_to (calls.later (codes.of_function id []) chain) (of_option values))
    (where_some (λ its. to (planned_calls.later (plans.of_function n []) chain' its)) values)
static_alike id n chain chain' same p values =
    both_ready values _ _ (alike_later (codes.of_function id []) (plans.of_function n []) (same, refl) chain chain' p)

-- ---- function values

AreCalledWhere : Option codes.Callee → Option plans.Called → Type 0
AreCalledWhere None None = Unit {0}
AreCalledWhere (Some callee) (Some called) = IsCalled callee called
AreCalledWhere _ _ = ⊥

called_alike : (it : Val) → AreCalledWhere (calls.called_value it) (planned_calls.called_value it)
unfolding AreCalledWhere
called_alike vals.nil_function = tt
called_alike (vals.closure id captured) = (refl, refl)
called_alike (vals.bound (target.Function id) receiver) = (refl, refl)
called_alike (vals.bound _ receiver) = tt
called_alike _ = tt

called_where : (it : Option Val)
    → AreCalledWhere (option_and_then calls.called_value it) (option_and_then planned_calls.called_value it)
unfolding AreCalledWhere
called_where None = tt
called_where (Some it) = called_alike it

value_alike : (one : Option codes.Callee) (other : Option plans.Called) → AreCalledWhere one other
    → (values : Option (List Val))
    → AgreeBy IsLater (where_some (λ called. then_to (calls.later called 0) (of_option values)) one)
    (where_some (λ its. where_some (λ called. to (planned_calls.later called 0 its)) other) values)
unfolding AreCalledWhere
value_alike None None h None = tt
value_alike None None h (Some its) = tt
value_alike (Some callee) (Some called) h None = tt
value_alike (Some callee) (Some called) h (Some its) = alike_later callee called h 0 0 refl its
value_alike _ _ h values = absurd h

-- ---- methods

method_alike : (chain chain' : ℕ) → chain' ≡ chain → (arguments : List Val) (found : Option FuncId) (number : Option ℕ)
    → number ≡ option_map (λ id. id.number) found
    → AgreeBy IsLater (then_to (λ id. calls.later (codes.of_function id []) chain arguments) (of_option found))
    (then_to (λ n. planned_calls.later (plans.of_function n []) chain' arguments) (of_option number))
method_alike chain chain' same arguments None None p = tt
method_alike chain chain' same arguments (Some id) (Some n) p =
    alike_later (codes.of_function id []) (plans.of_function n []) (same_Some _ _ p, refl) chain chain' same arguments
method_alike chain chain' same arguments _ _ p = cc

invoked_alike : (k : Known) → IsKnown k → (chain chain' : ℕ) → chain' ≡ chain → (name : NameId) (package_number : ℕ)
    → (arguments : List Val) (it : Val)
    → AgreeBy IsLater (calls.invoked k.code chain name package_number arguments it)
    (planned_calls.invoked k.w chain' (record { name = name; «package» = package_number }) arguments it)
invoked_alike k known chain chain' same name package_number arguments (vals.dynamic of it) =
    method_alike chain chain' same (it ∷ arguments) _ _
    (known.methods (record { receiver = of; method = record { name = name; «package» = package_number } }))
invoked_alike k known chain chain' same name package_number arguments vals.nil_interface = refl
invoked_alike k known chain chain' same name package_number arguments _ = tt

invoke_alike : (k : Known) → IsKnown k → (chain chain' : ℕ) → chain' ≡ chain → (name : NameId) (package_number : ℕ)
    → (receiver : Option Val) (values : Option (List Val))
    → AgreeBy IsLater (where_some (λ arguments. where_some (calls.invoked k.code chain name package_number arguments) receiver) values)
    (where_some (λ it. where_some (λ arguments. planned_calls.invoked k.w chain'
    (record { name = name; «package» = package_number }) arguments it) values) receiver)
invoke_alike k known chain chain' same name package_number None values = tt
invoke_alike k known chain chain' same name package_number (Some it) None = tt
invoke_alike k known chain chain' same name package_number (Some it) (Some arguments) =
    invoked_alike k known chain chain' same name package_number arguments it

-- ---- built-in functions

built_in_alike : (it : Option BuiltIn) (form : BuiltinForm) → option_map with_counted it ≡ Some (meant_by form)
    → (values : Option (List Val))
    → AgreeBy IsLater (where_some (λ called. then_to (calls.later (codes.of_built_in called) 0) (of_option values)) it)
    (where_some (λ its. to (planned_calls.later (plans.of_built_in form) 0 its)) values)
built_in_alike None form p values = cc
built_in_alike (Some it) form p values =
    both_ready values _ _ (alike_later (codes.of_built_in it) (plans.of_built_in form) (same_Some _ _ p) 0 0 refl)

-- ---- calls

with_method : (k : Known) → IsKnown k → (chain chain' : ℕ) → chain' ≡ chain → (name : NameId) (package_number : ℕ)
    → (method : MethodName) → method ≡ record { name = name; «package» = package_number }
    → (receiver receiver' : Option Val) → receiver' ≡ receiver → (values values' : Option (List Val)) → values' ≡ values
    → AgreeBy IsLater (where_some (λ arguments. where_some (calls.invoked k.code chain name package_number arguments) receiver) values)
    (where_some (λ it. where_some (λ arguments. planned_calls.invoked k.w chain' method arguments it) values') receiver')
with_method k known chain chain' same name package_number method p receiver receiver' q values values' r =
    let site : MethodName → Option Val → Option (List Val) → Type 0 =
    λ method it others. AgreeBy IsLater
    (where_some (λ arguments. where_some (calls.invoked k.code chain name package_number arguments) receiver) values)
    (where_some (λ it. where_some (λ arguments. planned_calls.invoked k.w chain' method arguments it) others) it) in
    subst (λ (x : MethodName). site x receiver' values') (sym p)
    (subst (λ (x : Option Val). site (record { name = name; «package» = package_number }) x values') (sym q)
    (subst (λ (x : Option (List Val)). site (record { name = name; «package» = package_number }) receiver x) (sym r)
    (invoke_alike k known chain chain' same name package_number receiver values)))

with_value : (one : Option codes.Callee) (other : Val → Option plans.Called) (it it' : Option Val) → it' ≡ it
    → AreCalledWhere one (option_and_then other it) → (values values' : Option (List Val)) → values' ≡ values
    → AgreeBy IsLater (where_some (λ called. then_to (calls.later called 0) (of_option values)) one)
    (where_some (λ its. where_some (λ called. to (planned_calls.later called 0 its)) (option_and_then other it')) values')
with_value one other it it' p h values values' q =
    subst (λ (x : Option Val). AgreeBy IsLater (where_some (λ called. then_to (calls.later called 0) (of_option values)) one)
    (where_some (λ its. where_some (λ called. to (planned_calls.later called 0 its)) (option_and_then other x)) values')) (sym p)
    (subst (λ (x : Option (List Val)). AgreeBy IsLater (where_some (λ called. then_to (calls.later called 0) (of_option values)) one)
    (where_some (λ its. where_some (λ called. to (planned_calls.later called 0 its)) (option_and_then other it)) x)) (sym q)
    (value_alike one (option_and_then other it) h values))

callee_alike : (k : Known) → IsKnown k → (a : Acting) (step : Step) → IsActing k a step
    → (it : Call) (to_call : Callee) (args : List Arg) → IsCallee (plan_site k a) it to_call
    → AreArgs (plan_site k a) (operands_of it) args
    → AgreeBy IsLater (calls.readied k.code a.function a.frame it)
    (planned_calls.readied k.w (acting_on a) to_call args)
callee_alike k known a step acting (call.Static id operands) (callee.Function n) args is all =
    subst (λ (x : Option (List Val)). AgreeBy IsLater (calls.readied k.code a.function a.frame (call.Static id operands))
    (where_some (λ its. to (planned_calls.later (plans.of_function n [])
    (planned_calls.passed_on (plans.advanced a.planned ∷ a.others)) its)) x))
    (sym (all_values k a step acting operands args all))
    (static_alike id n (calls.passed_on a.function a.frame) (planned_calls.passed_on (plans.advanced a.planned ∷ a.others)) is
    (same_passed_on k known a.function a.frame (top_of a.q.current.slots) a.planned a.others acting.top.is) _)
callee_alike k known a step acting (call.Dynamic value operands) (callee.Value arg) args is all =
    with_value (option_and_then calls.called_value (value_of k.code a.frame value)) planned_calls.called_value _ _
    (one_value k a step acting value arg is) (called_where (value_of k.code a.frame value)) _ _
    (all_values k a step acting operands args all)
callee_alike k known a step acting (call.Invoke receiver name package_number operands) (callee.Method arg method) args is all =
    with_method k known _ _
    (same_passed_by_invoke k known a.function a.frame (top_of a.q.current.slots) a.planned a.others acting.top.is)
    name package_number method is.1 _ _ (one_value k a step acting receiver arg is.0) _ _
    (all_values k a step acting operands args all)
callee_alike k known a step acting (call.Builtin builtin operands) (callee.Builtin form) args is all =
    subst (λ (x : Option (List Val)). AgreeBy IsLater (calls.readied k.code a.function a.frame (call.Builtin builtin operands))
    (where_some (λ its. to (planned_calls.later (plans.of_built_in form) 0 its)) x))
    (sym (all_values k a step acting operands args all))
    (built_in_alike (built_in_of k.code a.function builtin operands) form is _)
callee_alike k known a step acting it to_call args is all = absurd is

-- a call whose operands are known
pub readied_alike : (k : Known) → IsKnown k → (a : Acting) (step : Step) → IsActing k a step
    → (call : Call) (it : PlannedCall) → IsCall (plan_site k a) call it
    → AgreeBy IsLater (calls.readied k.code a.function a.frame call)
    (planned_calls.readied k.w (acting_on a) it.callee it.arguments.items)
readied_alike k known a step acting call it is =
    callee_alike k known a step acting call it.callee it.arguments.items is.callee is.arguments

-- what is made of a call that is readied
pub with_later_alike : (k : Known) → IsKnown k → (a : Acting) (step : Step) → IsActing k a step
    → (one : Comes codes.Later) (other : Comes plans.Later) → AgreeBy IsLater one other
    → (next : codes.Later → codes.Next) (next' : plans.Later → plans.Next)
    → ((later : codes.Later) (it : plans.Later) → IsLater later it → Follows k (next later) (next' it))
    → Follows k (steps.with_later (site_of k a) one next) (planned.goes_with_call k.w (acting_on a) next' other)
with_later_alike k known a step acting (to later) (to it) alike next next' h = h later it alike
with_later_alike k known a step acting (faults one) (faults other) alike next next' h =
    subst (λ x. Follows k (unwinding.meets k.code a.m one) (planned_unwinding.meets k.w x (acting_on a))) (sym alike)
    (faults_alike k known a step acting one)
with_later_alike k known a step acting nowhere other alike next next' h = tt
with_later_alike k known a step acting one nowhere alike next next' h =
    follows_stuck k (steps.with_later (site_of k a) one next)
with_later_alike k known a step acting _ _ alike next next' h = absurd alike
