use Rattle.std.proofs.Common.{◌≡◌, drop}
use Rattle.expr_typing.specs.Telling.{Told, at_tests}
use Rattle.typed_trees.specs.Targets.{are_part_of}
use Rattle.program_typing.proofs.targets.are_part_of.Given as goal

abbrev pub invariant-loop-part : goal.invariant-loop-part
invariant-loop-part l =
    (told : Told l.around.program.now.types) → are_part_of (at_tests l.around told.tests) l.given (drop l.part-index l.parts) ≡ are_part_of (at_tests l.around told.tests) l.given l.parts
