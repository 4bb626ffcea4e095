use Rattle.std.proofs.Common.{◌≡◌, drop}
use Rattle.expr_typing.specs.Telling.{Told}
use Rattle.typed_trees.specs.Programs.{fit_bodies}
use Rattle.program_typing.proofs.functions.fit_bodies.Given as goal

abbrev pub invariant-loop-number : goal.invariant-loop-number
invariant-loop-number l =
    (told : Told l.program.types) → fit_bodies l.program told.tests l.number (drop l.number l.decls) (drop l.number l.bodies) ≡ fit_bodies l.program told.tests 0 l.decls l.bodies
