use Rattle.std.proofs.Common.{◌≡◌, drop}
use Rattle.std.specs.List.{list_all}
use Rattle.expr_typing.specs.Telling.{Told, at_tests}
use Rattle.program_typing.specs.Walk.{has_cases}
use Rattle.program_typing.proofs.clauses.have_cases.Given as goal

abbrev pub invariant-loop-clause : goal.invariant-loop-clause
invariant-loop-clause l =
    (told : Told l.around.program.now.types) → list_all (has_cases (at_tests l.around told.tests) l.tag) (drop l.clause-index l.clauses) ≡ list_all (has_cases (at_tests l.around told.tests) l.tag) l.clauses
