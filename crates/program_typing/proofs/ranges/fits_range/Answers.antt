use Rattle.std.specs.Prelude.{◌&&◌}
use Rattle.std.proofs.Common.{◌∙◌, ap}
use Rattle.expr_typing.specs.Telling.{at_tests}
use Rattle.program_typing.specs.Walk.{sets_turns}
use Rattle.typed_trees.specs.Targets.{turns_of}
use Rattle.program_typing.proofs.ranges.fits_range.Goals as goal

pub returns : goal.returns
returns c = λ told. λ i. c.in_ok-operand.ensures.fits told.tests told.told i && (c.suits.ensures told i && (c.in_ok-set.ensures told ∙ ap (sets_turns (at_tests c.args.around told.tests) c.args.targets.now) (c.turns_of.ensures told.tests ∙ ap (turns_of (at_tests c.args.around told.tests) c.args.over) (c.in_ok-operand.ensures.of told.tests told.told))) i)
