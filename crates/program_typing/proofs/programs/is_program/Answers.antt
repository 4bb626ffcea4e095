use Rattle.std.proofs.Common.{sym, ◌∙◌}
use Rattle.std.specs.Prelude.{◌&&◌}
use Rattle.expr_typing.specs.Telling.{Told}
use Rattle.program_typing.proofs.programs.is_program.Goals as goal

pub returns-clause-typed : goal.returns-clause-typed
returns-clause-typed c = λ e tests told. let t : Told c.args.program.now.types = record { tests = tests; told = told } in sym (λ i. c.in_ok-functions.ensures t i && (c.in_ok-steps.ensures t i && c.fits_main.ensures tests i)) ∙ e

pub returns-clause-exact : goal.returns-clause-exact
returns-clause-exact c = λ tests told. let t : Told c.args.program.now.types = record { tests = tests; told = told } in λ i. c.in_ok-functions.ensures t i && (c.in_ok-steps.ensures t i && c.fits_main.ensures tests i)
