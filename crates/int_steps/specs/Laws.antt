-- One instruction on integers is one of the machine.
use Rattle.std.specs.Prelude.{◌≡◌, ℕ, List, ◌∷◌, Option, length}
use Rattle.go_value.specs.Values.{Val}
use Rattle.go_value.specs.declared.faults.Fault.{Fault}
use Rattle.int_steps.specs.Steps.{State, int_does}
use Rattle.ssa_ir.specs.declared.code.Function.{Function}
use Rattle.ssa_ir.specs.declared.ops.Op.{Op}
use Rattle.ssa_mean.specs.Comes.{to, faults}
use Rattle.ssa_mean.specs.Slots.{slots_of}
use Rattle.ssa_mean.specs.State.{Frame, with_result}
use Rattle.ssa_mean.specs.Step.{Site, acts, goes_behind}
use Rattle.ssa_mean.specs.Unwinding.{meets}

abbrev pub IsFrameOf : Function → Frame → Type 0
IsFrameOf function frame =
    (length frame.parameters ≡ length function.params) × (length frame.free ≡ length function.free)

-- the slots and the store where a step is made, above those of other frames
abbrev pub state_at : Site → List (List (Option Val)) → State
state_at s below = record { slots = slots_of s.frame ∷ below; store = s.machine.store }

-- where the instruction goes on, so does the machine, behind it: with this store, and with slots in which its register
-- has got what it gets
pub record GoesOn (s : Site) (below : List (List (Option Val))) (register : Option ℕ) (o : Op) (new : State)
    : Type 0 where
  pub value : Option Val
  pub slots : new.slots ≡ slots_of (with_result register value s.frame) ∷ below
  pub acts_so : acts s register o ≡ goes_behind s register value (record (s.machine) { store = new.store })

pub record IntsAct : Type 0 where
  pub goes : (s : Site) (below : List (List (Option Val))) (register : Option ℕ) (o : Op) (new : State)
      → IsFrameOf s.function s.frame
      → int_does s.code.types s.function register o (state_at s below) ≡ to new → GoesOn s below register o new
  pub met : (s : Site) (below : List (List (Option Val))) (register : Option ℕ) (o : Op) (fault : Fault)
      → IsFrameOf s.function s.frame
      → int_does s.code.types s.function register o (state_at s below) ≡ faults fault
      → acts s register o ≡ meets s.code s.machine fault
