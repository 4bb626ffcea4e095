use Rattle.std.proofs.Common.{◌≡◌, drop}
use Rattle.std.specs.List.{list_all}
use Rattle.expr_typing.specs.Telling.{Told, at_tests}
use Rattle.typed_trees.specs.Statements.{is_type_case}
use Rattle.program_typing.proofs.clauses.are_type_cases.Given as goal

abbrev pub invariant-loop-case : goal.invariant-loop-case
invariant-loop-case l =
    (told : Told l.around.program.now.types) → list_all (is_type_case (at_tests l.around told.tests) l.operand) (drop l.case-index l.cases) ≡ list_all (is_type_case (at_tests l.around told.tests) l.operand) l.cases
