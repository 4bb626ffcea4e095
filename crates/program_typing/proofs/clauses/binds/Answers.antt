use Rattle.std.proofs.Common.{◌∙◌, ap, sym, Option}
use Rattle.go_base.specs.declared.ids.TypeId.{TypeId}
use Rattle.go_base.specs.declared.ids.VarId.{VarId}
use Rattle.expr_typing.specs.Telling.{at_tests}
use Rattle.typed_trees.specs.Statements.{binds}
use Rattle.typed_trees.specs.Around.{is_own_variable}
use Rattle.program_typing.proofs.clauses.binds.Goals as goal

pub returns-in-Some : goal.returns-in-Some
returns-in-Some c = λ told. (c.is_own_variable.ensures told.tests ∙ ap (λ (of : TypeId). is_own_variable (at_tests c.args.around told.tests) c.in-Some.variable of) (c.clause_type.ensures (at_tests c.args.around told.tests))) ∙ ap (λ (v : Option VarId). binds (at_tests c.args.around told.tests) c.args.operand c.args.cases.now v) (sym c.in-Some.is)
