-- Outcomes of operations that met something, and addresses that are followed.
use Rattle.std.proofs.Common.{◌≡◌, None, Option, Some, Err, Ok, Result, refl, sym, subst}
use Rattle.std.specs.Prelude.{is_none, if◌then◌else◌}
use Rattle.std.specs.Result.{IsErrAnd}
use Rattle.go_base.specs.declared.ids.CellId.{CellId}
use Rattle.go_value.specs.declared.address.Pointer.{Pointer}
use Rattle.go_value.specs.declared.faults.Fault.{Fault}
use Rattle.go_value.specs.declared.faults.Fault.TheVariants as fault
use Rattle.interp_state.specs.Errors.{met_of_fault}
use Rattle.interp_state.specs.declared.machine.Met.{Met}
use Rattle.interp_state.specs.declared.machine.Met.TheVariants as met
use Rattle.ssa_mean.specs.Comes.{Comes, faults}
use Rattle.ssa_mean.specs.Places.{followed}

-- a fault that goes on to the caller
pub fault_met : {A : Type 0} (P : Result A Met → Type 0) (outcome : Result A Met) (it : Fault)
    → IsErrAnd outcome (λ e. e ≡ met_of_fault it) → P (Err (met.Fault it)) → P outcome
fault_met P (Ok value) it is given = absurd is
fault_met P (Err e) it is given = subst (λ (e : Met). P (Err e)) (sym is) given

at_some : {A : Type 0} (cell : Option CellId) (it : Comes A) → (cell ≡ None → ⊥)
    → (if is_none cell then faults fault.NilPointer else it) ≡ it
at_some None it some = absurd (some refl)
at_some (Some cell) it some = refl

-- an address that is not nil is followed
pub followed_is : {A : Type 0} (at : Pointer) (it : Comes A) → (at.cell ≡ None → ⊥) → followed at it ≡ it
followed_is at it some = at_some at.cell it some
