use Rattle.std.proofs.Common.{◌≡◌, drop}
use Rattle.std.specs.Cmp.Lexicographic.{pointwise}
use Rattle.expr_typing.specs.Telling.{Told, at_tests}
use Rattle.typed_trees.specs.Targets.{defines}
use Rattle.program_typing.proofs.targets.define_all.Given as goal

abbrev pub invariant-loop-index : goal.invariant-loop-index
invariant-loop-index l =
    (told : Told l.around.program.now.types) → pointwise (defines (at_tests l.around told.tests)) (drop l.index l.targets) (drop l.index l.types) ≡ pointwise (defines (at_tests l.around told.tests)) l.targets l.types
