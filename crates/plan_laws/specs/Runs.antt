-- A run of a code, and the run of its plan.
use Rattle.std.specs.Prelude.{ℕ, ◌≡◌, ◌⊎◌, List}
use Rattle.code_plan.specs.Plans.{IsPlanOf}
use Rattle.go_base.specs.declared.ending.Ending.{Ending}
use Rattle.plan_mean.specs.Runs.{IsPlannedRun}
use Rattle.plan_mean.specs.State.{World}
use Rattle.ssa_ir.specs.declared.code.Code.{Code}
use Rattle.ssa_mean.specs.Answers.{AreAnswers}
use Rattle.ssa_mean.specs.Faults.{naming_of}
use Rattle.ssa_mean.specs.Runs.{IsRunOf, IsStuck}

-- a world of a plan of a code
pub record IsWorldOf (code : Code) (w : World) : Type 0 where
  pub plan : IsPlanOf code w.plan
  pub naming : naming_of code ≡ w.naming
  pub answers : AreAnswers code.types w.answers

-- the run of a plan is one of its code, but where the code is stuck
abbrev pub OneRun : Type 0
OneRun =
    (code : Code) (w : World) (choices : List ℕ) (bound : ℕ) (output : List ℕ) (ending : Ending) →
    IsWorldOf code w → IsPlannedRun w choices bound output ending →
    IsRunOf code choices bound output ending ⊎ IsStuck code choices bound w.answers
