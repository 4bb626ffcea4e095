-- The run of a code is that of its plan.
use Rattle.std.proofs.Common.{ℕ, List, Option, Result, Ok, Err, refl}
use Rattle.std.specs.Prelude.{IfOk}
use Rattle.code_plan.specs.Plans.{IsPlanOf}
use Rattle.code_plan.specs.declared.steps.Plan.{Plan}
use Rattle.go_base.specs.declared.ending.Ending.{Ending}
use Rattle.go_interp.specs.Ran.{HasRun, TellsRun}
use Rattle.go_interp.specs.declared.error.RunError.{RunError}
use Rattle.plan_laws.proofs.Ends.{one_run_lem}
use Rattle.plan_mean.specs.State.{World}
use Rattle.ssa_ir.specs.declared.code.Code.{Code}
use Rattle.ssa_mean.specs.Faults.{naming_of}

tells : (code : Code) (plan : Plan) (choices : List ℕ) (bound : ℕ) → IsPlanOf code plan → (ending : Ending)
    → (before after : Option (List ℕ)) → HasRun code plan choices bound ending before after
    → TellsRun code choices bound ending before after
tells code plan choices bound planned ending before after has answers told =
    let w : World = record { plan = plan; naming = naming_of code; answers = answers } in
    let made = has w (record { plan_is = refl; naming = refl; answers = told }) in (
      made.0,
      (
        one_run_lem code w choices bound made.0 ending (record { plan = planned; naming = refl; answers = told }) made.1.0,
        made.1.1,
      ),
    )

pub told : (code : Code) (plan : Plan) (choices : List ℕ) (bound : ℕ) → IsPlanOf code plan → (result : Result Ending RunError)
    → (before after : Option (List ℕ)) → IfOk result (λ ending. HasRun code plan choices bound ending before after)
    → IfOk result (λ ending. TellsRun code choices bound ending before after)
told code plan choices bound planned (Ok ending) before after has =
    tells code plan choices bound planned ending before after has
told code plan choices bound planned (Err e) before after has = tt
