-- Runs of planned code.
use Rattle.std.specs.Prelude.{◌≡◌, ℕ, zero, suc, ◌+◌, List, [], ◌∷◌, ◌++◌, map, false, None}
use Rattle.go_base.specs.declared.ending.Ending.{Ending}
use Rattle.go_sched.specs.Goroutines.{started}
use Rattle.go_value.specs.Values.{value_of}
use Rattle.plan_mean.specs.Calls.{new_goroutine}
use Rattle.plan_mean.specs.State.{World, Machine, Next, goes, ends, stuck}
use Rattle.plan_mean.specs.Step.{step}

-- a cell with the zero value for each package variable, and goroutine 0 with nothing called yet
unfoldable pub first_machine : World → List ℕ → ℕ → Machine
first_machine w choices bound =
    record {
      others = new_goroutine None ∷ [];
      current = new_goroutine None;
      started = 0;
      store = record { cells = map value_of w.plan.variables.items; maps = [] };
      sched = started choices false;
      ticks = bound;
      output = [];
    }

-- a further step, where the run goes on
abbrev pub then_step : (Machine → Next) → Next → Next
then_step next (goes m) = next m
then_step next (ends ending output) = ends ending output
then_step next stuck = stuck

-- what at most n steps lead to
abbrev pub steps : ℕ → World → Machine → Next
steps zero w m = goes m
steps (suc n) w m = then_step (steps n w) (step w m)

-- with a list of choices and a bound a run of planned code writes this output, and ends so
pub record IsPlannedRun (w : World) (choices : List ℕ) (bound : ℕ) (output : List ℕ) (ending : Ending) : Type 0 where
  pub count : ℕ
  pub leads : steps count w (first_machine w choices bound) ≡ ends ending output

-- the definition allows one outcome
abbrev pub OneOutcome : Type 0
OneOutcome =
    (w : World) (choices : List ℕ) (bound : ℕ) (output output' : List ℕ) (ending ending' : Ending) →
    IsPlannedRun w choices bound output ending → IsPlannedRun w choices bound output' ending' →
    (output ≡ output') × (ending ≡ ending')

-- ---- what was written before a run stands in front, and changes nothing

abbrev pub behind : List ℕ → Machine → Machine
behind front m = record m { output = front ++ m.output }

abbrev pub next_behind : List ℕ → Next → Next
next_behind front (goes m) = goes (behind front m)
next_behind front (ends ending output) = ends ending (front ++ output)
next_behind front stuck = stuck

abbrev pub FrontsStand : Type 0
FrontsStand =
    (w : World) (front : List ℕ) (n : ℕ) (m : Machine) → steps n w (behind front m) ≡ next_behind front (steps n w m)

-- some steps, and then more
abbrev pub StepsFollow : Type 0
StepsFollow = (w : World) (n k : ℕ) (m : Machine) → steps (n + k) w m ≡ then_step (steps k w) (steps n w m)
