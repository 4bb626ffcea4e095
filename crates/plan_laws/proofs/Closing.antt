-- Function values that are made: closures over pointers, and methods with their receivers.
use Rattle.std.proofs.Common.{ℕ, ◌≡◌, Bool, true, false, List, [], ◌∷◌, Option, Some, None, refl, sym, ap, subst, ◌∙◌}
use Rattle.std.proofs.Common.{true≢false}
use Rattle.std.proofs.lemmas.Option.{none-some, same_Some}
use Rattle.std.specs.Option.{option_map}
use Rattle.code_plan.specs.Forms.{IsFirstArg, wraps, binds}
use Rattle.code_plan.specs.Operands.{AreArgs, IsTo}
use Rattle.code_plan.specs.Registers.{may_give}
use Rattle.code_plan.specs.declared.steps.Arg.{Arg}
use Rattle.code_plan.specs.declared.steps.Step.{Step}
use Rattle.code_plan.specs.declared.steps.Step.TheVariants as act
use Rattle.go_base.specs.declared.ids.FuncId.{FuncId}
use Rattle.go_type.specs.Table.{Table}
use Rattle.go_value.specs.Values.{Val, closure}
use Rattle.go_value.specs.declared.address.Pointer.{Pointer}
use Rattle.go_value.specs.declared.values.BoundTarget.{BoundTarget}
use Rattle.go_value.specs.declared.values.BoundTarget.TheVariants as target
use Rattle.plan_laws.proofs.Acting.{Acting, IsActing, Agree, site_of, plan_site}
use Rattle.plan_laws.proofs.Agreeing.{one_read, nowhere_agrees, agree_same}
use Rattle.plan_laws.proofs.Alike.{Known, IsKnown, Follows}
use Rattle.plan_laws.proofs.Giving.{plan_at, settled, IsAlikeSettled, alike_from, gives_alike}
use Rattle.plan_laws.proofs.Reading.{all_values}
use Rattle.plan_laws.proofs.Values.{IsAlike}
use Rattle.plan_mean.specs.Operands.{look, look_at_all}
use Rattle.plan_mean.specs.Step as planned
use Rattle.plan_mean.specs.Step.{acts as planned_acts}
use Rattle.ssa_ir.specs.declared.code.Function.{Function}
use Rattle.ssa_ir.specs.declared.code.FunctionKind.{FunctionKind}
use Rattle.ssa_ir.specs.declared.code.FunctionKind.TheVariants as kind
use Rattle.ssa_ir.specs.declared.operands.Operand.{Operand}
use Rattle.ssa_ir.specs.declared.ops.Op.TheVariants as op
use Rattle.ssa_mean.specs.Comes.{to, of_option, then_to, where_some}
use Rattle.ssa_mean.specs.Making.{closed_over, bound_method, binds_interface, pointers_of}
use Rattle.ssa_mean.specs.Operands.{function_at, value_of, values_of, with_value}
use Rattle.ssa_mean.specs.Step as steps
use Rattle.ssa_mean.specs.Step.{acts}
use Rattle.ssa_mean.specs.Unwinding.{is_wrapper_kind}

-- ---- closures

over_pointers : (id : FuncId) (found : Option (List Pointer))
    → Agree (where_some (λ pointers. to (closure id pointers)) found) (then_to (closure id) (of_option found))
over_pointers id None = tt
over_pointers id (Some pointers) = refl

over_agrees : (types : Table) (id : FuncId) (function : Function) (of : FunctionKind) → is_wrapper_kind of ≡ false
    → (captured : List Val)
    → Agree (closed_over types id function of captured) (then_to (closure id) (of_option (pointers_of captured)))
over_agrees types id function kind.Wrapper is captured = absurd (true≢false is)
over_agrees types id function _ is captured = over_pointers id (pointers_of captured)

closure_agrees : (types : Table) (id : FuncId) (found : Option Function)
    → option_map (λ made. is_wrapper_kind made.kind) found ≡ Some false → (captured : Option (List Val))
    → Agree (where_some (λ function. where_some (closed_over types id function function.kind) captured) found)
    (where_some (λ it. then_to (closure id) (of_option (pointers_of it))) captured)
closure_agrees types id None is captured = absurd (none-some false is)
closure_agrees types id (Some function) is None = tt
closure_agrees types id (Some function) is (Some captured) =
    over_agrees types id function function.kind (same_Some (is_wrapper_kind function.kind) false is) captured

-- ---- methods with their receivers

method_agrees : (id : FuncId) (is_interface : Bool) (receiver : Val) (others : List Val)
    → Agree (bound_method id is_interface (receiver ∷ others)) (planned.bind (target.Function id) is_interface receiver)
method_agrees id is_interface receiver [] =
    agree_same (bound_method id is_interface (receiver ∷ []))
    (planned.bind (target.Function id) is_interface receiver) refl
method_agrees id is_interface receiver (other ∷ others) =
    nowhere_agrees (planned.bind (target.Function id) is_interface receiver)

wrapper_agrees : (types : Table) (id : FuncId) (function : Function) (of : FunctionKind) → is_wrapper_kind of ≡ true
    → (is_interface : Bool) → binds_interface types function ≡ is_interface → (receiver : Val) (others : List Val)
    → Agree (closed_over types id function of (receiver ∷ others))
    (planned.bind (target.Function id) is_interface receiver)
wrapper_agrees types id function kind.Wrapper is is_interface binds receiver others =
    subst (λ it. Agree (bound_method id (binds_interface types function) (receiver ∷ others))
    (planned.bind (target.Function id) it receiver)) binds
    (method_agrees id (binds_interface types function) receiver others)
wrapper_agrees types id function _ is is_interface binds receiver others = absurd (true≢false (sym is))

bound_agrees : (types : Table) (id : FuncId) (found : Option Function)
    → option_map (λ made. is_wrapper_kind made.kind) found ≡ Some true → (is_interface : Bool)
    → option_map (binds_interface types) found ≡ Some is_interface → (receiver : Option Val) (others : Option (List Val))
    → Agree
    (where_some (λ function. where_some (closed_over types id function function.kind) (with_value receiver others)) found)
    (where_some (planned.bind (target.Function id) is_interface) receiver)
bound_agrees types id None is is_interface binds receiver others = absurd (none-some true is)
bound_agrees types id (Some function) is is_interface binds None others = tt
bound_agrees types id (Some function) is is_interface binds (Some receiver) None =
    nowhere_agrees (planned.bind (target.Function id) is_interface receiver)
bound_agrees types id (Some function) is is_interface binds (Some receiver) (Some others) =
    wrapper_agrees types id function function.kind (same_Some (is_wrapper_kind function.kind) true is) is_interface
    (same_Some (binds_interface types function) is_interface binds) receiver others

-- ---- the instruction

all_read : (k : Known) (a : Acting) (step : Step) → IsActing k a step → (its : List Operand) (args : List Arg)
    → AreArgs (plan_site k a) its args → look_at_all (plan_at a) args ≡ values_of k.code a.frame its
all_read k a step acting its args are =
    ap (λ m. look_at_all m args) (sym (settled k a step acting)) ∙ all_values k a step acting its args are

-- of what is captured, a method has the first for its receiver
bind_settled : (k : Known) → IsKnown k → (a : Acting) (step : Step) → IsActing k a step → (register : Option ℕ)
    (slot : ℕ) → IsTo (plan_site k a) register slot
    → may_give (k.marks a.frame.function.number) op.Tick register ≡ true
    → (id : FuncId) (captured : List Operand) (bound : BoundTarget) (is_interface : Bool) (receiver : Arg)
    → wraps (plan_site k a) id ≡ Some true → bound ≡ target.Function id → binds (plan_site k a) id ≡ Some is_interface
    → IsFirstArg (plan_site k a) captured receiver
    → Follows k (steps.gives_value (site_of k a) register (steps.make_closure (site_of k a) id captured))
    (planned.gives k.w (plan_at a) slot (where_some (planned.bind bound is_interface) (look (plan_at a) receiver)))
bind_settled k known a step acting register slot same may id [] bound is_interface receiver wraps is binds first =
    absurd first
bind_settled k known a step acting register slot same may id (it ∷ others) bound is_interface receiver wraps is binds
    first =
    gives_alike k known a step acting register slot same may (steps.make_closure (site_of k a) id (it ∷ others))
    (where_some (planned.bind bound is_interface) (look (plan_at a) receiver))
    (subst (λ found. Agree (steps.make_closure (site_of k a) id (it ∷ others))
    (where_some (planned.bind bound is_interface) found)) (sym (one_read k a step acting it receiver first))
    (subst (λ bound. Agree (steps.make_closure (site_of k a) id (it ∷ others))
    (where_some (planned.bind bound is_interface) (value_of k.code a.frame it))) (sym is)
    (bound_agrees k.code.types id (function_at k.code id) wraps is_interface binds (value_of k.code a.frame it)
    (values_of k.code a.frame others))))

close_settled : (k : Known) → IsKnown k → (a : Acting) (step : Step) → IsActing k a step → (register : Option ℕ)
    (slot : ℕ) → IsTo (plan_site k a) register slot
    → may_give (k.marks a.frame.function.number) op.Tick register ≡ true
    → (id made : FuncId) (captured : List Operand) (args : List Arg) → wraps (plan_site k a) id ≡ Some false → made ≡ id
    → AreArgs (plan_site k a) captured args
    → Follows k (steps.gives_value (site_of k a) register (steps.make_closure (site_of k a) id captured))
    (planned.gives k.w (plan_at a) slot (planned.make_closure (plan_at a) made args))
close_settled k known a step acting register slot same may id made captured args wraps is are =
    gives_alike k known a step acting register slot same may (steps.make_closure (site_of k a) id captured)
    (planned.make_closure (plan_at a) made args)
    (subst (λ found. Agree (steps.make_closure (site_of k a) id captured)
    (where_some (λ it. then_to (closure made) (of_option (pointers_of it))) found))
    (sym (all_read k a step acting captured args are))
    (subst (λ made. Agree (steps.make_closure (site_of k a) id captured)
    (where_some (λ it. then_to (closure made) (of_option (pointers_of it))) (values_of k.code a.frame captured)))
    (sym is)
    (closure_agrees k.code.types id (function_at k.code id) wraps (values_of k.code a.frame captured))))

make_closure_settled : (id : FuncId) (captured : List Operand) → IsAlikeSettled (op.MakeClosure id captured)
unfolding acts planned_acts
make_closure_settled id captured k known a register (act.Closure made args slot) may is acting =
    close_settled k known a (act.Closure made args slot) acting register slot is.3 may id made captured args.items is.0
    is.1 is.2
make_closure_settled id captured k known a register (act.Bind bound is_interface receiver slot) may is acting =
    bind_settled k known a (act.Bind bound is_interface receiver slot) acting register slot is.4 may id captured bound
    is_interface receiver is.0 is.1 is.2 is.3
make_closure_settled id captured k known a register _ may is acting = absurd is

pub make_closure_alike : (id : FuncId) (captured : List Operand) → IsAlike (op.MakeClosure id captured)
make_closure_alike id captured = alike_from (op.MakeClosure id captured) (make_closure_settled id captured)
