use Rattle.std.specs.Prelude.{◌&&◌}
use Rattle.std.proofs.Common.{◌∙◌, ap}
use Rattle.expr_typing.specs.Telling.{at_tests}
use Rattle.typed_trees.specs.Nodes.{can_be_set, fits_binary}
use Rattle.program_typing.proofs.expressions.operates_on.Goals as goal

pub returns : goal.returns
returns c = λ told. λ i. (c.can_be_set.ensures ∙ ap can_be_set (c.in_ok-place.ensures.form told.tests told.told)) i && (c.in_ok-place.ensures.fits told.tests told.told i && (c.in_ok-value.ensures.fits told.tests told.told i && (c.fits_binary-fits.ensures told.tests ∙ λ j. fits_binary (at_tests c.args.around told.tests) c.args.op (c.in_ok-place.ensures.of told.tests told.told j) (c.in_ok-value.ensures.of told.tests told.told j) (c.in_ok-place.ensures.of told.tests told.told j)) i))
