use Rattle.std.proofs.Common.{ap, List}
use Rattle.expr_typing.specs.Telling.{at_tests}
use Rattle.program_typing.proofs.Both.{told_as}
use Rattle.std.specs.List.{list_all}
use Rattle.go_tree.specs.declared.stmts.TypedCase.{TypedCase}
use Rattle.typed_trees.specs.Statements.{is_case_of}
use Rattle.program_typing.proofs.clauses.has_cases.Goals as goal

pub returns : goal.returns
returns c = λ told. told_as _ _ _ (c.are_cases_of.ensures told) (ap (λ (xs : List TypedCase). list_all (is_case_of (at_tests c.args.around told.tests) c.args.tag) xs) c.deref.ensures.value)
