use Rattle.std.proofs.Common.{◌≡◌, drop}
use Rattle.std.specs.List.{list_all}
use Rattle.expr_typing.specs.Telling.{Told, at_tests}
use Rattle.program_typing.specs.Walk.{is_of_a_package}
use Rattle.program_typing.proofs.initialisers.are_of_packages.Given as goal

abbrev pub invariant-loop-id : goal.invariant-loop-id
invariant-loop-id l =
    (told : Told l.around.program.now.types) → list_all (is_of_a_package (at_tests l.around told.tests)) (drop l.id-index l.ids) ≡ list_all (is_of_a_package (at_tests l.around told.tests)) l.ids
