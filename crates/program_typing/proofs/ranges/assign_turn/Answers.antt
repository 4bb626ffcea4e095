use Rattle.std.specs.Prelude.{◌&&◌}
use Rattle.std.proofs.Common.{◌∙◌, ap}
use Rattle.expr_typing.specs.Telling.{at_tests}
use Rattle.typed_trees.specs.Targets.{take_values, listed_targets}
use Rattle.program_typing.proofs.ranges.assign_turn.Goals as goal

pub returns : goal.returns
returns c = λ told. λ i. c.in_ok-fit.ensures told i && (c.in_ok-taken.ensures told ∙ ap (take_values (at_tests c.args.around told.tests) (listed_targets (at_tests c.args.around told.tests) c.args.key.now c.args.value.now)) (c.as_slice.ensures.value ∙ c.in_ok-types.ensures told)) i
