use Rattle.std.proofs.Common.{◌≡◌, ◌++◌, drop}
use Rattle.expr_typing.specs.Telling.{Told, at_tests}
use Rattle.typed_trees.specs.Targets.{part_types}
use Rattle.program_typing.proofs.targets.part_types.Given as goal

abbrev pub invariant-loop-part : goal.invariant-loop-part
invariant-loop-part l =
    (told : Told l.around.program.now.types) → l.types.items ++ part_types (at_tests l.around told.tests) (drop l.part-index l.parts) ≡ part_types (at_tests l.around told.tests) l.parts
