-- What a built-in function does to a machine, and what a register gets of it.
use Rattle.std.specs.Prelude.{ℕ, List, [], ◌++◌, ◌≡◌, Option, option_map, Result, Ok, Err}
use Rattle.go_store.specs.Stores.{Stored, stored}
use Rattle.go_value.specs.Values.{value_of}
use Rattle.go_value.specs.declared.values.Value.{Value}
use Rattle.interp_state.specs.Machines.{machine_of}
use Rattle.interp_state.specs.Turns.{IsIn, Meets}
use Rattle.interp_state.specs.declared.machine.Machine.{Machine}
use Rattle.interp_state.specs.declared.machine.Met.{Met}
use Rattle.interp_state.specs.declared.machine.Met.TheVariants as met
use Rattle.interp_state.specs.declared.machine.Turn.{Turn}
use Rattle.interp_state.specs.declared.machine.Turn.TheVariants as turn
use Rattle.plan_mean.specs.State.{World, with_result}
use Rattle.ssa_mean.specs.BuiltIns.{Done}
use Rattle.ssa_mean.specs.Comes.{Comes, to, faults}

-- it gives what it is to give, and the store and the output are as they are to be; want of memory is free
abbrev pub IsDone : Result (Option Value) Met → Machine → Machine → Comes Done → Type 0
IsDone (Ok it) old new wanted =
    (written : List ℕ) × ((new.output.items ≡ old.output.items ++ written)
    × (wanted ≡ to (record { value = option_map value_of it; store = stored new.store; written = written })))
IsDone (Err (met.Fault it)) old new wanted = (wanted ≡ faults it) × (machine_of new ≡ machine_of old)
IsDone (Err met.Memory) old new wanted = Unit {0}

-- the same of one that writes nothing
abbrev pub IsDoneIn : Result (Option Value) Met → Stored → Stored → Comes Done → Type 0
IsDoneIn (Ok it) old new wanted = wanted ≡ to (record { value = option_map value_of it; store = new; written = [] })
IsDoneIn (Err (met.Fault it)) old new wanted = (wanted ≡ faults it) × (new ≡ old)
IsDoneIn (Err met.Memory) old new wanted = Unit {0}

-- a register gets what it gives, where it gives a value and a register wants it; or its fault is met
abbrev pub Finishes : Option ℕ → Result (Option Value) Met → Turn → Machine → Machine → Type 0
Finishes slot (Ok it) result old new =
    (result ≡ turn.Goes) × ((machine_of new ≡ with_result slot (option_map value_of it) (machine_of old))
    × ((w : World) → IsIn w old → IsIn w new))
Finishes slot (Err it) result old new = Meets it result old new
