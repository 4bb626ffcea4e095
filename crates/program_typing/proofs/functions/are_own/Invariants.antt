use Rattle.std.proofs.Common.{◌≡◌, drop}
use Rattle.std.specs.Cmp.Lexicographic.{pointwise}
use Rattle.expr_typing.specs.Telling.{Told, at_tests}
use Rattle.typed_trees.specs.Around.{is_own_variable}
use Rattle.program_typing.proofs.functions.are_own.Given as goal

abbrev pub invariant-loop-index : goal.invariant-loop-index
invariant-loop-index l =
    (told : Told l.around.program.now.types) → pointwise (is_own_variable (at_tests l.around told.tests)) (drop l.index l.ids) (drop l.index l.types) ≡ pointwise (is_own_variable (at_tests l.around told.tests)) l.ids l.types
