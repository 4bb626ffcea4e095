use Rattle.std.specs.Prelude.{◌&&◌}
use Rattle.std.proofs.Common.{◌∙◌, ap, List}
use Rattle.expr_typing.specs.Telling.{at_tests}
use Rattle.typed_trees.specs.Statements.{is_type_case, binds}
use Rattle.std.specs.List.{list_all}
use Rattle.go_tree.specs.declared.stmts.TypeCase.{TypeCase}
use Rattle.program_typing.proofs.clauses.has_type_cases.Goals as goal

pub returns : goal.returns
returns c = λ told. λ i. (c.are_type_cases.ensures told ∙ ap (λ (xs : List TypeCase). list_all (is_type_case (at_tests c.args.around told.tests) c.args.operand) xs) c.deref.ensures.value) i && (c.binds.ensures told ∙ ap (λ (xs : List TypeCase). binds (at_tests c.args.around told.tests) c.args.operand xs c.args.clause.now.variable) c.deref-2.ensures.value) i
