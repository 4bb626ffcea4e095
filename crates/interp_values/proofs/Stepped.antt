-- Steps that give a register a value without a call of `give`.
use Rattle.std.proofs.Common.{◌≡◌, ◌∙◌, ap, ℕ, ℤ, Err, sym, subst}
use Rattle.std.proofs.lemmas.Int.{to_z-of_z}
use Rattle.std.specs.Int.{cast_signed, cast_unsigned, w128}
use Rattle.std.specs.Int.RustNames.{FitsSigned}
use Rattle.go_value.specs.Values.{Val, number}
use Rattle.interp_state.proofs.Turns.{sets}
use Rattle.interp_state.specs.Machines.{machine_of}
use Rattle.interp_state.specs.States.{Wrote}
use Rattle.interp_state.specs.Turns.{IsGiven, IsIn, Steps}
use Rattle.interp_state.specs.declared.machine.Machine.{Machine}
use Rattle.interp_state.specs.declared.machine.Met.{Met}
use Rattle.interp_state.specs.declared.machine.Met.TheVariants as met
use Rattle.interp_state.specs.declared.machine.Turn.{Turn}
use Rattle.interp_state.specs.declared.machine.Turn.TheVariants as turn
use Rattle.interp_values.specs.Given.{IsGivenAs}
use Rattle.plan_mean.specs.State.{World}
use Rattle.plan_mean.specs.Step.{gives}
use Rattle.ssa_mean.specs.Comes.{Comes, to}

-- a register gets the value that an operation comes to
pub sets_to : (result : Turn) (slot : ℕ) (it : Val) (old new : Machine) (comes : Comes Val) → result ≡ turn.Goes
    → Wrote slot it old new → comes ≡ to it → Steps result old new (λ w. gives w (machine_of old) slot comes)
sets_to result slot it old new comes goes wrote is =
    subst (λ (c : Comes Val). Steps result old new (λ w. gives w (machine_of old) slot c)) (sym is)
    (sets result slot it old new goes wrote)

-- the same in each world
pub sets_in : (result : Turn) (slot : ℕ) (it : Val) (old new : Machine) (comes : World → Comes Val)
    → result ≡ turn.Goes → Wrote slot it old new → ((w : World) → IsIn w old → comes w ≡ to it)
    → Steps result old new (λ w. gives w (machine_of old) slot (comes w))
sets_in result slot it old new comes goes wrote is =
    record { comes = λ w within. (sets_to result slot it old new (comes w) goes wrote (is w within)).comes w within }

-- a register gets an integer of 128 bits
pub sets_number : (result : Turn) (slot : ℕ) (n : ℤ) (old new : Machine) (comes : Comes Val) → FitsSigned w128 n
    → result ≡ turn.Goes → Wrote slot (number (cast_signed w128 (cast_unsigned w128 n))) old new → comes ≡ to (number n)
    → Steps result old new (λ w. gives w (machine_of old) slot comes)
sets_number result slot n old new comes fits goes wrote is =
    sets_to result slot (number (cast_signed w128 (cast_unsigned w128 n))) old new comes goes wrote
    (is ∙ ap (λ n. to (number n)) (sym (to_z-of_z w128 n fits)))

-- what is met does not depend on what would have been given
pub met_as : {A : Type 0} (seen : A → Val) (it : Met) (wanted : Comes Val) → IsGivenAs seen (Err it) wanted
    → IsGiven (Err it) wanted
met_as seen (met.Fault it) wanted is = is
met_as seen met.Memory wanted is = tt
