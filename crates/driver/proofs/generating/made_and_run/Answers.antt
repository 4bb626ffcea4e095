use Rattle.std.specs.Prelude.{false}
use Rattle.driver.specs.Generating.{IsGeneratedRun}
use Rattle.driver.proofs.Generated.{counted_does}
use Rattle.program_work.proofs.Written.{does_stop, nothing_yet}
use Rattle.driver.proofs.generating.made_and_run.Goals as goal

pub returns-in_err-code-clause-does : goal.returns-in_err-code-clause-does
returns-in_err-code-clause-does g c =
    does_stop (λ whole. IsGeneratedRun whole c.args.count) c.from_residual-in_err-code.result _ _ c.from_residual-in_err-code.ensures.0 (nothing_yet (IsGeneratedRun false c.args.count) _)

pub returns-in_err-counts-clause-does : goal.returns-in_err-counts-clause-does
returns-in_err-counts-clause-does g c =
    does_stop (λ whole. IsGeneratedRun whole c.args.count) c.from_residual-in_err-counts.result _ _ c.from_residual-in_err-counts.ensures.0 (nothing_yet (IsGeneratedRun false c.args.count) _)

pub returns-clause-does : goal.returns-clause-does
returns-clause-does g c =
    counted_does c.args.count c.in_ok-program.program c.in_ok-code.code c.in_ok-counts.counts.items c.as_slice-2.result.now c.write_and_run.result _ _ c.in_ok-program.ensures.typed c.in_ok-code.ensures.sound c.in_ok-counts.ensures c.as_slice-2.ensures.value c.write_and_run.ensures.does
