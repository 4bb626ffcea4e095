use Rattle.std.proofs.Common.{◌≡◌, drop}
use Rattle.std.specs.List.{list_all}
use Rattle.expr_typing.specs.Telling.{Told, at_tests}
use Rattle.program_typing.specs.Walk.{is_one_of_own}
use Rattle.program_typing.proofs.expressions.own_variables.Given as goal

abbrev pub invariant-loop-id : goal.invariant-loop-id
invariant-loop-id l =
    (told : Told l.around.program.now.types) → list_all (is_one_of_own (at_tests l.around told.tests)) (drop l.id-index l.ids) ≡ list_all (is_one_of_own (at_tests l.around told.tests)) l.ids
