-- What operations on channels come to, and what those get that waited for them.
use Rattle.std.specs.Prelude.{ℕ, Bool, List, ◌≡◌, Option, Some, None, Result, Ok, Err, option_map, slice_get, slice_set}
use Rattle.go_sched.specs.Choices.{next_at, switched}
use Rattle.go_sched.specs.Operations.{Outcome, Woken}
use Rattle.go_sched.specs.declared.scheduling.Point.{Point}
use Rattle.go_value.specs.Values.{Val, value_of}
use Rattle.go_value.specs.declared.values.Value.{Value}
use Rattle.interp_state.specs.Machines.{machine_of}
use Rattle.interp_state.specs.Turns.{Steps}
use Rattle.interp_state.specs.declared.machine.Machine as state
use Rattle.interp_state.specs.declared.machine.Turn.{Turn}
use Rattle.interp_state.specs.declared.machine.Turn.TheVariants as turn
use Rattle.plan_mean.specs.Channels.{Given, came_to, completed, with_given, with_sched}
use Rattle.plan_mean.specs.State.{World, Goroutine, Machine, Next, advanced, change_top, with_value}
use Rattle.plan_mean.specs.Unwinding.{runs_on}
use Rattle.ssa_mean.specs.Making.{value_or}

-- a goroutine is chosen, and goes on
abbrev pub chooses : World → Point → Machine → Next
chooses w point m =
    runs_on w m.sched.current.number (next_at point m.sched) (record m { sched = switched point m.sched })

-- a register gets what is received, or the zero value
abbrev pub receives_as : World → Machine → ℕ → Val → Bool → Outcome → Next
receives_as w m slot zero comma_ok outcome =
    came_to w (with_sched outcome.after m)
    (λ index it. with_value slot (value_or comma_ok it zero) (with_sched outcome.after m)) m outcome.answer

-- a register gets what an operation gave, and those that waited go on; or memory is wanted
abbrev pub Completes : {E : Type 0} → ℕ → Result Value E → List Woken → Turn → state.Machine → state.Machine → Type 0
Completes slot (Ok it) others result old new =
    Steps result old new (λ w. completed w others (with_value slot (value_of it) (machine_of old)))
Completes slot (Err e) others result old new = result ≡ turn.WantsMemory

-- a register with its value, where one gets a value
abbrev pub given_of : Option (ℕ × Value) → Given
given_of None = record { slot = None; value = None }
given_of (Some it) = record { slot = Some it.0; value = Some (value_of it.1) }

-- a goroutine goes on behind its step, with what a register gets
abbrev pub gone_with : Given → Goroutine → Goroutine
gone_with given g =
    record g { frames = change_top advanced g.frames; slots = with_given given g.slots }

-- the goroutine at a number is changed, where there is one
abbrev pub gone_at : ℕ → (Goroutine → Goroutine) → List Goroutine → Option (List Goroutine)
gone_at place change them = option_map (λ g. slice_set them place (change g)) (slice_get them place)
