-- Runs, as they are made: what is written to a sink, with the ending.
use Rattle.std.specs.Prelude.{◌≡◌, ◌⊎◌, ℕ, List, [], ◌++◌, Option, None}
use Rattle.std.specs.Io.KnownBytes.{Appends}
use Rattle.code_plan.specs.declared.steps.Plan.{Plan}
use Rattle.go_base.specs.declared.ending.Ending.{Ending}
use Rattle.go_sched.specs.Goroutines.{State, state_of}
use Rattle.go_store.specs.Stores.{Stored, stored}
use Rattle.go_value.specs.Values.{Val}
use Rattle.interp_state.specs.Machines.{goroutine_of, machine_of}
use Rattle.interp_state.specs.Turns.{IsIn}
use Rattle.interp_state.specs.declared.machine.Machine.{Machine}
use Rattle.plan_mean.specs.Calls.{new_goroutine}
use Rattle.plan_mean.specs.Runs.{IsPlannedRun, first_machine, steps}
use Rattle.plan_mean.specs.State.{World, ends}
use Rattle.ssa_ir.specs.declared.code.Code.{Code}
use Rattle.ssa_mean.specs.Answers.{Answers, AreAnswers}
use Rattle.ssa_mean.specs.Faults.{naming_of}
use Rattle.ssa_mean.specs.Runs.{IsRunOf, IsStuck}

-- a world of a code and its plan
pub record IsWorldOf (code : Code) (plan : Plan) (w : World) : Type 0 where
  pub plan_is : plan ≡ w.plan
  pub naming : naming_of code ≡ w.naming
  pub answers : AreAnswers w.naming.types w.answers

-- in each such world, what was appended to the sink is the output of a run with this ending
abbrev pub HasRun : Code → Plan → List ℕ → ℕ → Ending → Option (List ℕ) → Option (List ℕ) → Type 0
HasRun code plan choices bound ending before after =
    (w : World) → IsWorldOf code plan w
    → (output : List ℕ) × (IsPlannedRun w choices bound output ending × Appends before after output)

-- from a machine, some steps lead to this ending, and all output was appended
abbrev pub LeadsTo : Machine → Ending → Option (List ℕ) → Option (List ℕ) → Type 0
LeadsTo m ending before after =
    (w : World) → IsIn w m
    → (n : ℕ) × ((output : List ℕ) × ((steps n w (machine_of m) ≡ ends ending output) × Appends before after output))

-- the machine before the first step
abbrev pub IsFirst : Code → Plan → List ℕ → ℕ → Machine → Type 0
IsFirst code plan choices bound m =
    (w : World) → IsWorldOf code plan w → (machine_of m ≡ first_machine w choices bound) × IsIn w m

-- a machine without cells and goroutines
pub record IsBare (code : Code) (plan : Plan) (sched : State) (bound : ℕ) (m : Machine) : Type 0 where
  pub code_is : m.code.now ≡ code
  pub plan_is : m.plan.now ≡ plan
  pub store : stored m.store ≡ record { cells = []; maps = [] }
  pub sched_is : state_of m.sched ≡ sched
  pub none : m.goroutines.items ≡ []
  pub current : goroutine_of m.current ≡ new_goroutine None
  pub begun : m.started ≡ 0
  pub ticks : m.ticks ≡ bound
  pub output : m.output.items ≡ []
  pub asked : m.implemented.entries ≡ []

-- more cells behind those that there are
abbrev pub with_cells : List Val → Stored → Stored
with_cells its store = record store { cells = store.cells ++ its }

-- what was appended and the ending are those of a run of the code, but where the code is stuck, as typed code never is
abbrev pub TellsRun : Code → List ℕ → ℕ → Ending → Option (List ℕ) → Option (List ℕ) → Type 0
TellsRun code choices bound ending before after =
    (answers : Answers) → AreAnswers code.types answers
    → (output : List ℕ)
    × ((IsRunOf code choices bound output ending ⊎ IsStuck code choices bound answers) × Appends before after output)
