use Rattle.driver.specs.Generating.{IsRunBehind}
use Rattle.driver.proofs.Generated.{behind_stops_in, run_does}
use Rattle.program_work.proofs.Written.{does_stop}
use Rattle.driver.proofs.generating.write_and_run.Goals as goal

pub returns-in_err-write-clause-does : goal.returns-in_err-write-clause-does
returns-in_err-write-clause-does g c =
    does_stop (λ whole. IsRunBehind whole c.args.code.now c.args.text.now) c.from_residual.result _ _ c.from_residual.ensures.0 (behind_stops_in c.args.code.now c.args.text.now _ _ c.in_err-write.ensures.err)

pub returns-clause-does : goal.returns-clause-does
returns-clause-does g c =
    run_does c.args.code.now c.args.text.now c.run_code.result _ _ _ c.in_ok-write.ensures.ok c.run_code.ensures.ran c.run_code.ensures.written
