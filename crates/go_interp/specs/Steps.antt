-- What some steps of a machine come to.
use Rattle.std.specs.Prelude.{ℕ, List, [], ◌∷◌, slice_get}
use Rattle.interp_state.specs.Machines.{machine_of}
use Rattle.interp_state.specs.Turns.{ComesTo, IsIn}
use Rattle.interp_state.specs.declared.machine.Machine.{Machine}
use Rattle.interp_state.specs.declared.machine.Turn.{Turn}
use Rattle.plan_mean.specs.Runs.{steps}
use Rattle.plan_mean.specs.State as meant
use Rattle.plan_mean.specs.State.{World, Next, stuck}
use Rattle.plan_mean.specs.Step.{does}

-- what the top frame does that runs
abbrev pub runs : World → meant.Machine → List meant.Frame → Next
runs w m [] = stuck
runs w m (top ∷ below) = does w m top below (slice_get top.steps top.step)

-- in each world of the first machine, some steps lead to the second, or to the ending that stands in it
pub record HasSteps (result : Turn) (old new : Machine) : Type 0 where
  pub comes : (w : World) → IsIn w old → (n : ℕ) × ComesTo w result new (steps n w (machine_of old))
