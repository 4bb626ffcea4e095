-- What operations make of a machine besides a value and the store: channels, and turns of ranges.
use Rattle.std.specs.Prelude.{◌≡◌, ℕ, ℤ, pos, List, true, false, Option, Some, None, option_map, Result, Ok, Err}
use Rattle.code_plan.specs.declared.steps.Arg.{Arg}
use Rattle.go_base.specs.declared.ids.MapId.{MapId}
use Rattle.go_maps.specs.Entries.{entry_at}
use Rattle.go_maps.specs.Maps.{Map}
use Rattle.go_sched.specs.Goroutines.{State, state_of}
use Rattle.go_store.specs.Stores.{Stored}
use Rattle.go_value.specs.Values.{Val, number, map_range, value_of}
use Rattle.go_value.specs.declared.values.Value.{Value}
use Rattle.interp_state.specs.States.{looked, slots_of}
use Rattle.interp_state.specs.declared.machine.Machine.{Machine}
use Rattle.interp_state.specs.declared.machine.Met.{Met}
use Rattle.interp_state.specs.declared.machine.Met.TheVariants as met
use Rattle.plan_mean.specs.Ranges.{drawn, sched_after}
use Rattle.plan_mean.specs.Slots.{with_slot}
use Rattle.ssa_mean.specs.Comes.{Comes, to, faults}
use Rattle.ssa_mean.specs.Making.{Channels}
use Rattle.ssa_mean.specs.MapCalls.{entries_of}
use Rattle.ssa_mean.specs.Ranges.{Turn, turn_of}

-- an operation that makes a channel, and changes no more than the channels; want of memory is free
abbrev pub IsMadeChannel : Result Value Met → Machine → Machine → Comes Channels → Type 0
IsMadeChannel (Ok it) old new wanted =
    (wanted ≡ to (record { value = value_of it; sched = state_of new.sched }))
    × (new ≡ record old { sched = new.sched })
IsMadeChannel (Err (met.Fault it)) old new wanted = (wanted ≡ faults it) × (new ≡ old)
IsMadeChannel (Err met.Memory) old new wanted = Unit {0}

-- the place that a slice expression has, where it is not left out
abbrev pub IsPlace : Machine → Option Arg → Option ℤ → Type 0
IsPlace m None it = it ≡ None
IsPlace m (Some arg) it = (n : ℤ) × ((it ≡ Some n) × (looked m arg ≡ Some (number n)))

-- ---- turns of ranges

-- a turn gives a value; the range stands in its slot as it is after the turn
pub record IsTurn (range : ℕ) (it : Value) (old new : Machine) (wanted : Option Turn) : Type 0 where
  pub state : Val
  pub turn : wanted ≡ Some (record { value = value_of it; range = state; sched = state_of new.sched })
  pub slots : slots_of new ≡ with_slot range state (slots_of old)
  pub others : new ≡ record old { current = record (old.current) { stack = new.current.stack }; sched = new.sched }

-- the turn of a code point, with the place where it begins; where there is none, the last turn
abbrev pub character_turn : Option (ℕ × ℕ) → Val
character_turn (Some (at, point)) = turn_of true (number (pos at)) (number (pos point))
character_turn None = turn_of false (number (pos 0)) (number (pos 0))

-- the turn of an entry of a map; where there is none, the last turn, with a key and a value
abbrev pub entry_turn : Map → Val → Val → Option ℕ → Option Val
entry_turn entries key it None = Some (turn_of false key it)
entry_turn entries key it (Some n) = option_map (λ entry. turn_of true entry.key entry.value) (entry_at entries n)

-- a range over a map, and the choices, as an entry is drawn
pub record Draws (store : Stored) (sched : State) (left : List ℕ) (id : Option MapId) (entry : Option ℕ) (state : Val)
    (after : State) : Type 0 where
  pub entry_is : entry ≡ (drawn sched (entries_of store id) left).entry
  pub state_is : state ≡ map_range id (drawn sched (entries_of store id) left).left
  pub after_is : after ≡ sched_after sched (entries_of store id) left

abbrev pub IsDrawn : Stored → State → Val → Option MapId → Option ℕ → Val → State → Type 0
IsDrawn store sched (map_range id left) map entry state after = (map ≡ id) × Draws store sched left id entry state after
IsDrawn store sched _ map entry state after = ⊥
