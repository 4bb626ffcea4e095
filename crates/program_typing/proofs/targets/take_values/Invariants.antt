use Rattle.std.proofs.Common.{◌≡◌, drop}
use Rattle.std.specs.Cmp.Lexicographic.{pointwise}
use Rattle.expr_typing.specs.Telling.{Told, at_tests}
use Rattle.typed_trees.specs.Targets.{takes_value}
use Rattle.program_typing.proofs.targets.take_values.Given as goal

abbrev pub invariant-loop-index : goal.invariant-loop-index
invariant-loop-index l =
    (told : Told l.around.program.now.types) → pointwise (takes_value (at_tests l.around told.tests)) (drop l.index l.targets) (drop l.index l.types) ≡ pointwise (takes_value (at_tests l.around told.tests)) l.targets l.types
