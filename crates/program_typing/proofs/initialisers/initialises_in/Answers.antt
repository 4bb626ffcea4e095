use Rattle.std.specs.Prelude.{◌&&◌}
use Rattle.std.proofs.Common.{◌∙◌, ap, List}
use Rattle.go_base.specs.declared.ids.TypeId.{TypeId}
use Rattle.expr_typing.specs.Telling.{at_tests}
use Rattle.typed_trees.specs.Statements.{values_are, variable_types}
use Rattle.program_typing.specs.Walk.{is_of_a_package}
use Rattle.std.specs.List.{list_all}
use Rattle.go_base.specs.declared.ids.VarId.{VarId}
use Rattle.typed_trees.specs.Expressions.{seen_values}
use Rattle.program_typing.proofs.initialisers.initialises_in.Goals as goal

pub returns : goal.returns
returns c = λ told. λ i. (c.are_of_packages.ensures told ∙ ap (λ (ids : List VarId). list_all (is_of_a_package (at_tests c.args.around told.tests)) ids) c.as_slice-3.ensures) i && (c.in_ok-are.ensures told ∙ ap (λ (ts : List TypeId). values_are (at_tests c.args.around told.tests) (seen_values (at_tests c.args.around told.tests) c.args.step.now.values) ts) (c.as_slice-2.ensures.value ∙ (c.in_ok-types.ensures told.tests ∙ ap (variable_types (at_tests c.args.around told.tests)) c.as_slice.ensures))) i
