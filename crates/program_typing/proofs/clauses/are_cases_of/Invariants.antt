use Rattle.std.proofs.Common.{◌≡◌, drop}
use Rattle.std.specs.List.{list_all}
use Rattle.expr_typing.specs.Telling.{Told, at_tests}
use Rattle.typed_trees.specs.Statements.{is_case_of}
use Rattle.program_typing.proofs.clauses.are_cases_of.Given as goal

abbrev pub invariant-loop-case : goal.invariant-loop-case
invariant-loop-case l =
    (told : Told l.around.program.now.types) → list_all (is_case_of (at_tests l.around told.tests) l.tag) (drop l.case-index l.cases) ≡ list_all (is_case_of (at_tests l.around told.tests) l.tag) l.cases
