-- Sends, receives, selects and closes. Go specification, "Send statements", "Receive operator", "Select statements" and
-- "Close".
use Rattle.std.specs.Prelude.{ℕ, suc, Bool, false, List, [], ◌∷◌, Option, Some, None, Result, Ok, Err}
use Rattle.std.specs.Prelude.{is_some, slice_get, slice_set, option_map}
use Rattle.std.specs.Global.{Box}
use Rattle.std.specs.Option.{option_and_then}
use Rattle.code_plan.specs.declared.steps.Arg.{Arg}
use Rattle.code_plan.specs.declared.steps.PlannedCase.{PlannedCase}
use Rattle.code_plan.specs.declared.steps.PlannedCase.TheVariants as case
use Rattle.code_plan.specs.declared.steps.Step.{Step}
use Rattle.code_plan.specs.declared.steps.Step.TheVariants as act
use Rattle.go_base.specs.declared.ids.ChanId.{ChanId}
use Rattle.go_sched.specs.Channels as chans
use Rattle.go_sched.specs.Channels.{Case}
use Rattle.go_sched.specs.Goroutines.{State}
use Rattle.go_sched.specs.Operations.{How, Woken, Answer, done, default, blocks}
use Rattle.go_sched.specs.Operations as operations
use Rattle.go_sched.specs.declared.scheduling.Point.TheVariants as point
use Rattle.go_value.specs.Values.{Val, Parts, none, part, truth, number, parts, value_of}
use Rattle.go_value.specs.declared.faults.Fault.{Fault}
use Rattle.go_value.specs.declared.values.Value.{Value}
use Rattle.plan_mean.specs.Operands.{look}
use Rattle.plan_mean.specs.Slots.{with_slot}
use Rattle.plan_mean.specs.State.{World, Frame, Goroutine, Machine, Next, where_there, with_frames}
use Rattle.plan_mean.specs.State.{advanced, back, change_top}
use Rattle.plan_mean.specs.Unwinding.{meets, switches}
use Rattle.ssa_mean.specs.Channels.{chan_in, value_if, is_chosen, case_number, with_case, received_by, fault_of}
use Rattle.ssa_mean.specs.Making.{value_or}

-- ---- what an operation gives

-- what a receive gives: of a channel that is closed and empty the zero value
abbrev pub received : Box Value → Bool → Option Val → Val
received zero comma_ok it = value_or comma_ok it (value_of zero.value)

-- of the cases that receive, the one that was chosen has its value, and the others have zero values
abbrev pub received_parts : ℕ → Option ℕ → Option Val → List PlannedCase → Parts
received_parts index chosen it [] = none
received_parts index chosen it (case.Send channel value ∷ cases) = received_parts (suc index) chosen it cases
received_parts index chosen it (case.Receive channel zero ∷ cases) =
    part (received zero false (value_if (is_chosen index chosen) it)) false
    (received_parts (suc index) chosen it cases)

-- the tuple of a select: the case that was chosen, -1 for the default; whether a value was received; and a value for
-- each case that receives
abbrev pub selected : List PlannedCase → Option ℕ → Option Val → Val
selected cases chosen it =
    parts (part (number (case_number chosen)) false (part (truth (is_some it)) false
    (received_parts 0 chosen it cases)))

-- ---- those that waited go on, behind the step at which they waited

pub record Given : Type 0 where
  pub slot : Option ℕ
  pub value : Option Val

-- what the step gives when a case of it is done: nothing for a send
abbrev pub gives_done : ℕ → Option Val → Step → Given
gives_done index it (act.Receive channel zero comma_ok slot) =
    record { slot = Some slot; value = Some (received zero comma_ok it) }
gives_done index it (act.Select blocking cases slot) =
    record { slot = Some slot; value = Some (selected cases.items (Some index) it) }
gives_done index it _ = record { slot = None; value = None }

abbrev pub with_given : Given → List (List (Option Val)) → List (List (Option Val))
with_given given slots = put given.slot given.value
  where
    put : Option ℕ → Option Val → List (List (Option Val))
    put (Some slot) (Some it) = with_slot slot it slots
    put _ _ = slots

abbrev pub step_at : List Frame → Option Step
step_at [] = None
step_at (top ∷ below) = slice_get top.steps top.step

-- one whose channel was closed while it sent gets nothing, and meets a fault as it goes on
abbrev pub given_by : Woken → Step → Given
given_by it at = given it.how
  where
    given : How → Given
    given operations.send_on_closed = record { slot = None; value = None }
    given how = gives_done it.index (received_by how) at

abbrev pub fault_after : How → Option Fault → Option Fault
fault_after operations.send_on_closed before = fault_of operations.send_on_closed
fault_after _ before = before

abbrev pub gone_behind : Woken → Goroutine → Step → Goroutine
gone_behind it g at =
    record g {
      frames = change_top advanced g.frames;
      slots = with_given (given_by it at) g.slots;
      fault = fault_after it.how g.fault;
    }

abbrev pub woken_goroutine : Woken → Goroutine → Option Goroutine
woken_goroutine it g = option_map (gone_behind it g) (step_at g.frames)

abbrev pub woken : Woken → Machine → Option Machine
woken it m =
    option_map (λ g. record m { others = slice_set m.others it.goroutine.number g })
    (option_and_then (woken_goroutine it) (slice_get m.others it.goroutine.number))

abbrev pub all_woken : List Woken → Machine → Option Machine
all_woken [] m = Some m
all_woken (it ∷ others) m = option_and_then (all_woken others) (woken it m)

-- ---- the outcome of an operation of the current goroutine

abbrev pub with_sched : State → Machine → Machine
with_sched sched m = record m { sched = sched }

-- the operation is done: those that waited for it go on, and then there is a switch point
abbrev pub completed : World → List Woken → Machine → Next
completed w others m = where_there (switches w point.After) (all_woken others m)

-- a goroutine that blocks stays at its step
abbrev pub stays : Machine → Machine
stays m = with_frames (change_top back m.current.frames) m

abbrev pub answered : World → Machine → (ℕ → Option Val → Machine) → Machine → Answer → Next
answered w m next otherwise (done index it others) = completed w others (next index it)
answered w m next otherwise default = switches w point.After otherwise
answered w m next otherwise blocks = switches w point.Blocked (stays m)

abbrev pub came_to : World → Machine → (ℕ → Option Val → Machine) → Machine → Result Answer Fault → Next
came_to w m next otherwise (Ok answer) = answered w m next otherwise answer
came_to w m next otherwise (Err fault) = meets w fault m

-- ---- operands

abbrev pub channel_of : Machine → Arg → Option (Option ChanId)
channel_of m it = option_and_then chan_in (look m it)

-- the channels and the values to be sent, each once, in source order
abbrev pub case_of : Machine → PlannedCase → Option Case
case_of m (case.Send channel value) =
    option_and_then (λ id. option_map (chans.send id) (look m value)) (channel_of m channel)
case_of m (case.Receive channel zero) = option_map chans.receive (channel_of m channel)

abbrev pub cases_of : Machine → List PlannedCase → Option (List Case)
cases_of m [] = Some []
cases_of m (first ∷ others) = with_case (case_of m first) (cases_of m others)
