-- What those get that waited for an operation on a channel, by its instruction and by its step.
use Rattle.std.proofs.Common.{refl, ap, sym, ◌∙◌, subst, ap₂}
use Rattle.std.proofs.lemmas.Option.{none-some, same_Some}
use Rattle.std.specs.Global.{Box}
use Rattle.std.specs.List.{AllZip}
use Rattle.std.specs.Option.{option_map}
use Rattle.std.specs.Prelude.{ℕ, suc, ◌≡◌, Bool, false, List, [], ◌∷◌, Option, Some, None, is_some}
use Rattle.code_plan.specs.Forms.{IsStep, IsCase}
use Rattle.code_plan.specs.Operands.{IsZero}
use Rattle.code_plan.specs.Registers.{Site, register_slot}
use Rattle.code_plan.specs.declared.steps.Arg.{Arg}
use Rattle.code_plan.specs.declared.steps.PlannedCase.{PlannedCase}
use Rattle.code_plan.specs.declared.steps.PlannedCase.TheVariants as planned_case
use Rattle.code_plan.specs.declared.steps.Step.{Step}
use Rattle.code_plan.specs.declared.steps.Step.TheVariants as act
use Rattle.go_base.specs.declared.ids.GoId.{GoId}
use Rattle.go_sched.specs.Operations.{How, Woken, sent, received, send_on_closed}
use Rattle.go_value.specs.Values.{Val, part, truth, number, parts, value_of}
use Rattle.go_value.specs.declared.values.Value.{Value}
use Rattle.plan_mean.specs.Channels as planned_channels
use Rattle.plan_mean.specs.Channels.{Given}
use Rattle.ssa_ir.specs.declared.code.Code.{Code}
use Rattle.ssa_ir.specs.declared.code.Function.{Function}
use Rattle.ssa_ir.specs.declared.operands.Operand.{Operand}
use Rattle.ssa_ir.specs.declared.ops.Op.{Op}
use Rattle.ssa_ir.specs.declared.ops.Op.TheVariants as op
use Rattle.ssa_ir.specs.declared.ops.SelectCase.{SelectCase}
use Rattle.ssa_ir.specs.declared.ops.SelectCase.TheVariants as case
use Rattle.ssa_mean.specs.Channels as channels
use Rattle.ssa_mean.specs.Making.{value_or}
use Rattle.ssa_mean.specs.Operands.{element_type}

-- ---- what is received

-- a receive gives one value
pub one_received : (s : Site) (channel : Operand) (null : Value) (comma_ok : Bool) (it : Option Val)
    → IsZero s (element_type s.code s.function channel) null
    → channels.received s.code s.function channel comma_ok it ≡ Some (value_or comma_ok it (value_of null))
one_received s channel null comma_ok it is = ap (option_map (value_or comma_ok it)) is

one_parts : (s : Site) (cases : List SelectCase) (planned : List PlannedCase) → AllZip (IsCase s) cases planned
    → (index : ℕ) (chosen : Option ℕ) (it : Option Val)
    → channels.received_parts s.code s.function index chosen it cases
    ≡ Some (planned_channels.received_parts index chosen it planned)
one_parts s [] [] is index chosen it = refl
one_parts s (case.Send channel value ∷ cases) (planned_case.Send to value' ∷ planned) is index chosen it =
    one_parts s cases planned is.1 (suc index) chosen it
one_parts s (case.Receive channel ∷ cases) (planned_case.Receive from null ∷ planned) is index chosen it =
    ap₂ channels.with_received
    (one_received s channel null.value false (channels.value_if (channels.is_chosen index chosen) it) is.0.1)
    (one_parts s cases planned is.1 (suc index) chosen it)
one_parts s (case.Send channel value ∷ cases) (planned_case.Receive from null ∷ planned) is index chosen it = absurd is.0
one_parts s (case.Receive channel ∷ cases) (planned_case.Send to value' ∷ planned) is index chosen it = absurd is.0
one_parts s _ _ is index chosen it = absurd is

-- a select gives one tuple
pub one_selected : (s : Site) (cases : List SelectCase) (planned : List PlannedCase) → AllZip (IsCase s) cases planned
    → (chosen : Option ℕ) (it : Option Val)
    → channels.selected s.code s.function cases chosen it ≡ Some (planned_channels.selected planned chosen it)
one_selected s cases planned is chosen it =
    ap (option_map (λ rest. parts (part (number (channels.case_number chosen)) false
    (part (truth (is_some it)) false rest)))) (one_parts s cases planned is 0 chosen it)

-- ---- what those get that go on

-- a register gets a value, and its slot; or none gets one
abbrev pub IsGiven : Function → Option ℕ → Option Val → Given → Type 0
IsGiven function register None given = given ≡ record { slot = None; value = None }
IsGiven function register (Some it) given =
    (slot : ℕ) × (given ≡ record { slot = Some slot; value = Some it })
    × (option_map (register_slot function) register ≡ Some slot)

given_some : (function : Function) (register : Option ℕ) (slot : ℕ) (it : Val) (gives value : Option Val)
    → option_map (register_slot function) register ≡ Some slot → gives ≡ Some it
    → ◌≡◌ {A = Option (Option Val)} (option_map Some gives) (Some value)
    → IsGiven function register value (record { slot = Some slot; value = Some it })
given_some function register slot it gives value to is same =
    subst (λ value. IsGiven function register value (record { slot = Some slot; value = Some it }))
    (same_Some (Some it) value (sym (ap (option_map Some) is) ∙ same)) (slot, refl, to)

given_none : (function : Function) (register : Option ℕ) (value : Option Val)
    → ◌≡◌ {A = Option (Option Val)} (Some None) (Some value)
    → IsGiven function register value (record { slot = None; value = None })
given_none function register value same =
    subst (λ value. IsGiven function register value (record { slot = None; value = None })) (same_Some None value same) refl

-- what a send, a receive or a select and its step give, by how the goroutine goes on
sent_given : (s : Site) (register : Option ℕ) (channel it : Operand) (step : Step)
    → IsStep s register (op.Send channel it) step → (goroutine : GoId) (index : ℕ) (how : How) (value : Option Val)
    → channels.given_by s.code s.function index how (op.Send channel it) ≡ Some value
    → IsGiven s.function register value
    (planned_channels.given_by (record { goroutine = goroutine; index = index; how = how }) step)
sent_given s register channel it (act.Send to arg) is goroutine index sent value gives =
    given_none s.function register value gives
sent_given s register channel it (act.Send to arg) is goroutine index (received got) value gives =
    given_none s.function register value gives
sent_given s register channel it (act.Send to arg) is goroutine index send_on_closed value gives =
    given_none s.function register value gives
sent_given s register channel it _ is goroutine index how value gives = absurd is

receive_done : (s : Site) (register : Option ℕ) (channel : Operand) (comma_ok : Bool) (from : Arg) (null : Box Value)
    → (with_ok : Bool) (slot : ℕ) → IsStep s register (op.Receive channel comma_ok) (act.Receive from null with_ok slot)
    → (got value : Option Val)
    → option_map Some (channels.received s.code s.function channel comma_ok got) ≡ Some value
    → IsGiven s.function register value
    (record { slot = Some slot; value = Some (planned_channels.received null with_ok got) })
receive_done s register channel comma_ok from null with_ok slot is got value gives =
    given_some s.function register slot (planned_channels.received null with_ok got) _ value is.3
    (one_received s channel null.value comma_ok got is.1
    ∙ ap (λ (ok : Bool). Some (value_or ok got (value_of null.value))) (sym is.2)) gives

receive_given : (s : Site) (register : Option ℕ) (channel : Operand) (comma_ok : Bool) (step : Step)
    → IsStep s register (op.Receive channel comma_ok) step → (goroutine : GoId) (index : ℕ) (how : How)
    → (value : Option Val) → channels.given_by s.code s.function index how (op.Receive channel comma_ok) ≡ Some value
    → IsGiven s.function register value
    (planned_channels.given_by (record { goroutine = goroutine; index = index; how = how }) step)
receive_given s register channel comma_ok (act.Receive from null with_ok slot) is goroutine index sent value gives =
    receive_done s register channel comma_ok from null with_ok slot is None value gives
receive_given s register channel comma_ok (act.Receive from null with_ok slot) is goroutine index (received got) value
    gives = receive_done s register channel comma_ok from null with_ok slot is got value gives
receive_given s register channel comma_ok (act.Receive from null with_ok slot) is goroutine index send_on_closed value
    gives = absurd (none-some value gives)
receive_given s register channel comma_ok _ is goroutine index how value gives = absurd is

select_given : (s : Site) (register : Option ℕ) (blocking : Bool) (cases : List SelectCase) (step : Step)
    → IsStep s register (op.Select blocking cases) step → (goroutine : GoId) (index : ℕ) (how : How)
    → (value : Option Val) → channels.given_by s.code s.function index how (op.Select blocking cases) ≡ Some value
    → IsGiven s.function register value
    (planned_channels.given_by (record { goroutine = goroutine; index = index; how = how }) step)
select_given s register blocking cases (act.Select blocks planned slot) is goroutine index sent value gives =
    given_some s.function register slot (planned_channels.selected planned.items (Some index) None) _ value is.2
    (one_selected s cases planned.items is.1 (Some index) None) gives
select_given s register blocking cases (act.Select blocks planned slot) is goroutine index (received got) value gives =
    given_some s.function register slot (planned_channels.selected planned.items (Some index) got) _ value is.2
    (one_selected s cases planned.items is.1 (Some index) got) gives
select_given s register blocking cases (act.Select blocks planned slot) is goroutine index send_on_closed value gives =
    given_none s.function register value gives
select_given s register blocking cases _ is goroutine index how value gives = absurd is

-- where a goroutine may wait
abbrev pub IsWaiting : Op → Type 0
IsWaiting (op.Send channel it) = Unit {0}
IsWaiting (op.Receive channel comma_ok) = Unit {0}
IsWaiting (op.Select blocking cases) = Unit {0}
IsWaiting _ = ⊥

pub given_waits : (code : Code) (function : Function) (index : ℕ) (how : How) (at : Op) (value : Option Val)
    → channels.given_by code function index how at ≡ Some value → IsWaiting at
given_waits code function index how (op.Send channel it) value gives = tt
given_waits code function index how (op.Receive channel comma_ok) value gives = tt
given_waits code function index how (op.Select blocking cases) value gives = tt
given_waits code function index sent _ value gives = absurd (none-some value gives)
given_waits code function index (received got) _ value gives = absurd (none-some value gives)
given_waits code function index send_on_closed _ value gives = absurd (none-some value gives)

pub one_given : (s : Site) (register : Option ℕ) (at : Op) (step : Step) → IsStep s register at step → IsWaiting at
    → (it : Woken) (value : Option Val) → channels.given_by s.code s.function it.index it.how at ≡ Some value
    → IsGiven s.function register value (planned_channels.given_by it step)
one_given s register (op.Send channel arg) step is waits it value gives =
    sent_given s register channel arg step is it.goroutine it.index it.how value gives
one_given s register (op.Receive channel comma_ok) step is waits it value gives =
    receive_given s register channel comma_ok step is it.goroutine it.index it.how value gives
one_given s register (op.Select blocking cases) step is waits it value gives =
    select_given s register blocking cases step is it.goroutine it.index it.how value gives
one_given s register _ step is waits it value gives = absurd waits
