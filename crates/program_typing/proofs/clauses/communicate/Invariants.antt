use Rattle.std.proofs.Common.{◌≡◌, drop}
use Rattle.std.specs.List.{list_all}
use Rattle.expr_typing.specs.Telling.{Told, at_tests}
use Rattle.typed_trees.specs.Statements.{communicates}
use Rattle.program_typing.proofs.clauses.communicate.Given as goal

abbrev pub invariant-loop-clause : goal.invariant-loop-clause
invariant-loop-clause l =
    (told : Told l.around.program.now.types) → list_all (λ it. communicates (at_tests l.around told.tests) it.comm) (drop l.clause-index l.clauses) ≡ list_all (λ it. communicates (at_tests l.around told.tests) it.comm) l.clauses
