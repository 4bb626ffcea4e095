use Rattle.std.proofs.Common.{◌≡◌, ◌++◌, drop}
use Rattle.expr_typing.specs.Telling.{at_tests}
use Rattle.typed_trees.specs.Tests.{Tests}
use Rattle.typed_trees.specs.Statements.{variable_types}
use Rattle.program_typing.proofs.expressions.variable_types.Given as goal

abbrev pub invariant-loop-id : goal.invariant-loop-id
invariant-loop-id l =
    (tests : Tests) → l.types.items ++ variable_types (at_tests l.around tests) (drop l.id-index l.ids) ≡ variable_types (at_tests l.around tests) l.ids
