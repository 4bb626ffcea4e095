-- What steps come to, by what their parts do.
use Rattle.std.proofs.Common.{◌≡◌, ◌∙◌, ℕ, sym, ap, subst, refl}
use Rattle.std.specs.Prelude.{Result, Ok, Err}
use Rattle.go_store.specs.Stores.{Stored, stored}
use Rattle.go_value.specs.Values.{Val, value_of}
use Rattle.go_value.specs.declared.values.Value.{Value}
use Rattle.interp_state.specs.Machines.{machine_of}
use Rattle.interp_state.specs.States.{Wrote}
use Rattle.interp_state.specs.Turns.{IsIn, ComesTo, Steps, IsUnseen, Gives, Does, IsGiven, IsMade, IsChanged}
use Rattle.interp_state.specs.declared.machine.Machine.{Machine}
use Rattle.interp_state.specs.declared.machine.Met.{Met}
use Rattle.interp_state.specs.declared.machine.Met.TheVariants as met
use Rattle.interp_state.specs.declared.machine.Turn.{Turn}
use Rattle.interp_state.specs.declared.machine.Turn.TheVariants as turn
use Rattle.plan_mean.specs.State.{World, Next, goes, with_slots, with_value}
use Rattle.plan_mean.specs.Step.{gives, gives_stored, changes}
use Rattle.plan_mean.specs.Unwinding.{meets}
use Rattle.ssa_mean.specs.Comes.{Comes, to}
use Rattle.ssa_mean.specs.Conversions.{Stores}

-- ---- want of memory

pub wants : (result : Turn) (old new : Machine) (next : World → Next) → result ≡ turn.WantsMemory → Steps result old new next
wants result old new next is =
    record { comes = λ w within. subst (λ (r : Turn). ComesTo w r new (next w)) (sym is) tt }

-- ---- a slot is written

-- a write of a slot, as the definition of runs has it
pub wrote_is : (slot : ℕ) (it : Val) (old new : Machine) → Wrote slot it old new
    → machine_of new ≡ with_value slot it (machine_of old)
wrote_is slot it old new wrote =
    ap machine_of wrote.others ∙ ap (λ slots. with_slots slots (machine_of old)) wrote.slots

pub wrote_in : (w : World) (slot : ℕ) (it : Val) (old new : Machine) → Wrote slot it old new → IsIn w old → IsIn w new
wrote_in w slot it old new wrote within =
    subst (λ (m : Machine). IsIn w m) (sym wrote.others)
    (record { plan = within.plan; naming = within.naming; answers = within.answers; asked = within.asked })

-- the run goes on with a machine
pub goes_to : (w : World) (result : Turn) (new : Machine) (next : Next) → result ≡ turn.Goes → IsIn w new
    → next ≡ goes (machine_of new) → ComesTo w result new next
goes_to w result new next is within leads = subst (λ (r : Turn). ComesTo w r new next) (sym is) (within, leads)

pub sets : (result : Turn) (slot : ℕ) (it : Val) (old new : Machine) → result ≡ turn.Goes → Wrote slot it old new
    → Steps result old new (λ w. gives w (machine_of old) slot (to it))
sets result slot it old new is wrote =
    record {
      comes = λ w within. goes_to w result new (gives w (machine_of old) slot (to it)) is
          (wrote_in w slot it old new wrote within) (ap goes (sym (wrote_is slot it old new wrote)));
    }

-- ---- a machine that is as another for the definition

pub unseen : (m : Machine) → IsUnseen m m
unseen m = record { machine = refl; world = λ w within. within }

-- a step from a machine that is as another is one from the other
pub from_unseen : (result : Turn) (old mid new : Machine) (next : World → Next) → IsUnseen old mid
    → Steps result mid new next → Steps result old new next
from_unseen result old mid new next same step = record { comes = λ w within. step.comes w (same.world w within) }

-- ---- what operations give

-- a register gets what an operation gives in the world
pub given_in : (slot : ℕ) (outcome : Result Value Met) (comes : World → Comes Val) (result : Turn) (old new : Machine)
    → Gives slot outcome result old new → ((w : World) → IsIn w old → IsGiven outcome (comes w))
    → Steps result old new (λ w. gives w (machine_of old) slot (comes w))
given_in slot (Ok it) comes result old new gave is =
    record {
      comes = λ w within. subst (λ (c : Comes Val). ComesTo w result new (gives w (machine_of old) slot c))
          (sym (is w within)) ((sets result slot (value_of it) old new gave.0 gave.1).comes w within);
    }
given_in slot (Err (met.Fault it)) comes result old new gave is =
    record {
      comes = λ w within. subst (λ (c : Comes Val). ComesTo w result new (gives w (machine_of old) slot c))
          (sym (is w within)) (gave.comes w within);
    }
given_in slot (Err met.Memory) comes result old new gave is =
    wants result old new (λ w. gives w (machine_of old) slot (comes w)) gave

pub given : (slot : ℕ) (outcome : Result Value Met) (comes : Comes Val) (result : Turn) (old new : Machine)
    → Gives slot outcome result old new → IsGiven outcome comes
    → Steps result old new (λ w. gives w (machine_of old) slot comes)
given slot outcome comes result old new gave is =
    given_in slot outcome (λ w. comes) result old new gave (λ w within. is)

-- ---- operations that change the store

-- a machine with another store
pub stored_is : (old new : Machine) → new ≡ record old { store = new.store }
    → machine_of new ≡ record (machine_of old) { store = stored new.store }
stored_is old new is = ap machine_of is

pub stored_in : (w : World) (old new : Machine) → new ≡ record old { store = new.store } → IsIn w old → IsIn w new
stored_in w old new is within =
    subst (λ (m : Machine). IsIn w m) (sym is)
    (record { plan = within.plan; naming = within.naming; answers = within.answers; asked = within.asked })

same_stored : (old new : Machine) → stored new.store ≡ stored old.store → new ≡ record old { store = new.store }
    → machine_of new ≡ machine_of old
same_stored old new same is =
    stored_is old new is ∙ ap (λ (store : Stored). record (machine_of old) { store = store }) same

pub made : (slot : ℕ) (outcome : Result Value Met) (comes : Comes Stores) (result : Turn) (old mid new : Machine)
    → Gives slot outcome result mid new → IsMade outcome old mid comes
    → Steps result old new (λ w. gives_stored w (machine_of old) slot comes)
made slot (Ok it) comes result old mid new gave is =
    let one : machine_of new ≡ with_value slot (value_of it) (record (machine_of old) { store = stored mid.store }) =
    wrote_is slot (value_of it) mid new gave.1 ∙ ap (with_value slot (value_of it)) (stored_is old mid is.1) in
    record {
      comes = λ w within. goes_to w result new (gives_stored w (machine_of old) slot comes) gave.0
          (wrote_in w slot (value_of it) mid new gave.1 (stored_in w old mid is.1 within))
          (ap (gives_stored w (machine_of old) slot) is.0 ∙ ap goes (sym one));
    }
made slot (Err (met.Fault it)) comes result old mid new gave is =
    record {
      comes = λ w within. subst (λ (n : Next). ComesTo w result new n)
          (ap (meets w it) (same_stored old mid is.1.0 is.1.1) ∙ sym (ap (gives_stored w (machine_of old) slot) is.0))
          (gave.comes w (stored_in w old mid is.1.1 within));
    }
made slot (Err met.Memory) comes result old mid new gave is =
    wants result old new (λ w. gives_stored w (machine_of old) slot comes) gave

pub changed : (outcome : Result Unit Met) (comes : Comes Stored) (result : Turn) (old mid new : Machine)
    → Does outcome result mid new → IsChanged outcome old mid comes
    → Steps result old new (λ w. changes w (machine_of old) comes)
changed (Ok it) comes result old mid new done is =
    record {
      comes = λ w within. goes_to w result new (changes w (machine_of old) comes) done.0
          (subst (λ (m : Machine). IsIn w m) (sym done.1) (stored_in w old mid is.1 within))
          (ap (changes w (machine_of old)) is.0 ∙ ap goes (sym (ap machine_of done.1 ∙ stored_is old mid is.1)));
    }
changed (Err (met.Fault it)) comes result old mid new done is =
    record {
      comes = λ w within. subst (λ (n : Next). ComesTo w result new n)
          (ap (meets w it) (same_stored old mid is.1.0 is.1.1) ∙ sym (ap (changes w (machine_of old)) is.0))
          (done.comes w (stored_in w old mid is.1.1 within));
    }
changed (Err met.Memory) comes result old mid new done is =
    wants result old new (λ w. changes w (machine_of old) comes) done
