-- What a machine's operands are, what a write of one of its slots and a tick change, and the frames of a goroutine.
use Rattle.std.specs.Prelude.{ℕ, suc, min, List, [], ◌∷◌, ◌++◌, ◌≡◌, Option, Some, reverse, if◌then◌else◌}
use Rattle.std.specs.Option.{option_map_or}
use Rattle.code_plan.specs.declared.steps.Arg.{Arg}
use Rattle.code_plan.specs.declared.steps.Role.{Role}
use Rattle.go_store.specs.Stores.{stored}
use Rattle.go_value.specs.Values.{Val, value_of}
use Rattle.go_value.specs.declared.values.Value.{Value}
use Rattle.interp_state.specs.Frames.{frames_of}
use Rattle.interp_state.specs.declared.frames.Frame.{Frame}
use Rattle.interp_state.specs.declared.frames.Goroutine.{Goroutine}
use Rattle.interp_state.specs.declared.frames.Left.{Left}
use Rattle.interp_state.specs.declared.machine.Machine.{Machine}
use Rattle.plan_mean.specs.Operands.{look_in}
use Rattle.plan_mean.specs.Slots.{with_slot}
use Rattle.plan_mean.specs.Unwinding.{is_source}

-- the slots of the goroutine that runs, the top frame first
abbrev pub slots_of : Machine → List (List (Option Val))
slots_of m = frames_of m.current.stack

-- the value of an operand
abbrev pub looked : Machine → Arg → Option Val
looked m it = look_in (stored m.store) (slots_of m) it

-- the value of an operand was put behind others
pub record PushesRead (m : Machine) (it : Arg) (before after : List Value) : Type 0 where
  pub value : Value
  pub read : looked m it ≡ Some (value_of value)
  pub pushed : after ≡ before ++ value ∷ []

-- a slot of the top frame got a value, and all else is as it was
pub record Wrote (slot : ℕ) (it : Val) (old new : Machine) : Type 0 where
  pub slots : slots_of new ≡ with_slot slot it (slots_of old)
  pub others : new ≡ record old { current = record (old.current) { stack = new.current.stack } }

-- a tick is spent, and all else is as it was
pub record Spent (old new : Machine) : Type 0 where
  pub ticks : old.ticks ≡ suc new.ticks
  pub others : new ≡ record old { ticks = new.ticks }

-- the frames of a goroutine, the top one first. Without a top frame there are none
abbrev pub frames_in : Goroutine → List Frame
frames_in g = option_map_or (λ top. top ∷ reverse g.below.items) g.top []

-- how many frames of source functions there are with one more frame; more than fit 32 bits are told as so many
abbrev pub counted : Role → ℕ → ℕ
counted role sources = if is_source role then min (suc sources) 4294967295 else sources

-- what is told of a frame that goes
abbrev pub left_by : Frame → Left
left_by it = record { role = it.function.now.role; to = it.to }
