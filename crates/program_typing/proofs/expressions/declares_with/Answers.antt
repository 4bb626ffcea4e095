use Rattle.std.specs.Prelude.{◌&&◌}
use Rattle.std.proofs.Common.{◌∙◌, ap, List}
use Rattle.go_base.specs.declared.ids.TypeId.{TypeId}
use Rattle.expr_typing.specs.Telling.{at_tests}
use Rattle.typed_trees.specs.Statements.{values_are}
use Rattle.typed_trees.specs.Expressions.{seen_values}
use Rattle.program_typing.proofs.expressions.declares_with.Goals as goal

pub returns : goal.returns
returns c = λ told. λ i. c.own_variables.ensures told i && (c.in_ok-are.ensures told ∙ ap (λ (ts : List TypeId). values_are (at_tests c.args.around told.tests) (seen_values (at_tests c.args.around told.tests) c.args.values.now) ts) (c.as_slice.ensures.value ∙ c.in_ok-types.ensures told.tests)) i
