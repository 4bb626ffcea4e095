use Rattle.std.proofs.Common.{◌≡◌, drop}
use Rattle.std.specs.List.{list_all}
use Rattle.expr_typing.specs.Telling.{Told}
use Rattle.typed_trees.specs.Programs.{fits_step}
use Rattle.program_typing.specs.Initialisers.{Initialise}
use Rattle.program_typing.proofs.initialisers.fit_each.Given as goal

abbrev pub invariant-loop-step : goal.invariant-loop-step
invariant-loop-step l =
    (told : Told l.program.types) → Initialise l.program told.tests l.numbers → list_all (fits_step l.program told.tests) (drop l.step-index l.steps) ≡ list_all (fits_step l.program told.tests) l.steps
