-- What a step of the machine comes to, by the definition of runs of planned code.
use Rattle.std.specs.Prelude.{ℕ, ◌≡◌, Some, Result, Ok, Err}
use Rattle.go_base.specs.declared.ending.Ending.{Ending}
use Rattle.go_store.specs.Stores.{Stored, stored}
use Rattle.go_value.specs.Values.{Val, value_of}
use Rattle.go_value.specs.declared.values.Value.{Value}
use Rattle.interp_state.specs.Asked.{AreAsked}
use Rattle.interp_state.specs.Machines.{machine_of}
use Rattle.interp_state.specs.States.{Wrote}
use Rattle.interp_state.specs.declared.machine.Machine.{Machine}
use Rattle.interp_state.specs.declared.machine.Met.{Met}
use Rattle.interp_state.specs.declared.machine.Met.TheVariants as met
use Rattle.interp_state.specs.declared.machine.Turn.{Turn}
use Rattle.interp_state.specs.declared.machine.Turn.TheVariants as turn
use Rattle.plan_mean.specs.State.{World, Next, goes, ends}
use Rattle.plan_mean.specs.Unwinding.{meets}
use Rattle.ssa_mean.specs.Answers.{AreAnswers}
use Rattle.ssa_mean.specs.Comes.{Comes, to, faults}
use Rattle.ssa_mean.specs.Conversions.{Stores}
use Rattle.ssa_mean.specs.Faults.{naming_of}

-- the machine runs in a world: by its plan, names and types, and what was asked of the types has the answers that are
-- true
pub record IsIn (w : World) (m : Machine) : Type 0 where
  pub plan : m.plan.now ≡ w.plan
  pub naming : naming_of m.code.now ≡ w.naming
  pub answers : AreAnswers w.naming.types w.answers
  pub asked : AreAsked w.answers.implements m.implemented

-- a step that the definition lets come to this: it goes on; or the run ends, with its ending and its output. Want of
-- memory is free
abbrev pub ComesTo : World → Turn → Machine → Next → Type 0
ComesTo w turn.Goes new next = (IsIn w new) × (next ≡ goes (machine_of new))
ComesTo w turn.Ends new next = (it : Ending) × ((new.ending ≡ Some it) × (next ≡ ends it new.output.items))
ComesTo w turn.WantsMemory new next = Unit {0}

-- a step leads from one machine to another, in each world of the first
pub record Steps (result : Turn) (old new : Machine) (next : World → Next) : Type 0 where
  pub comes : (w : World) → IsIn w old → ComesTo w result new (next w)

-- nothing changed that the definition of runs sees
pub record IsUnseen (old new : Machine) : Type 0 where
  pub machine : machine_of new ≡ machine_of old
  pub world : (w : World) → IsIn w old → IsIn w new

-- a fault is met, or want of memory
abbrev pub Meets : Met → Turn → Machine → Machine → Type 0
Meets (met.Fault it) result old new = Steps result old new (λ w. meets w it (machine_of old))
Meets met.Memory result old new = result ≡ turn.WantsMemory

-- a register gets what an operation gave, or its fault is met
abbrev pub Gives : ℕ → Result Value Met → Turn → Machine → Machine → Type 0
Gives slot (Ok it) result old new = (result ≡ turn.Goes) × Wrote slot (value_of it) old new
Gives slot (Err it) result old new = Meets it result old new

-- where an operation without a register is done the run goes on, and else its fault is met
abbrev pub Does : Result Unit Met → Turn → Machine → Machine → Type 0
Does (Ok it) result old new = (result ≡ turn.Goes) × (new ≡ old)
Does (Err it) result old new = Meets it result old new

-- what an operation gives is what it comes to; want of memory is free
abbrev pub IsGiven : Result Value Met → Comes Val → Type 0
IsGiven (Ok it) wanted = wanted ≡ to (value_of it)
IsGiven (Err (met.Fault it)) wanted = wanted ≡ faults it
IsGiven (Err met.Memory) wanted = Unit {0}

-- the same of one that changes the store alone, and gives a value
abbrev pub IsMade : Result Value Met → Machine → Machine → Comes Stores → Type 0
IsMade (Ok it) old new wanted =
    (wanted ≡ to (record { value = value_of it; store = stored new.store })) × (new ≡ record old { store = new.store })
IsMade (Err (met.Fault it)) old new wanted =
    (wanted ≡ faults it) × ((stored new.store ≡ stored old.store) × (new ≡ record old { store = new.store }))
IsMade (Err met.Memory) old new wanted = Unit {0}

-- of one that changes the store, and gives no value
abbrev pub IsChanged : Result Unit Met → Machine → Machine → Comes Stored → Type 0
IsChanged (Ok it) old new wanted = (wanted ≡ to (stored new.store)) × (new ≡ record old { store = new.store })
IsChanged (Err (met.Fault it)) old new wanted =
    (wanted ≡ faults it) × ((stored new.store ≡ stored old.store) × (new ≡ record old { store = new.store }))
IsChanged (Err met.Memory) old new wanted = Unit {0}
