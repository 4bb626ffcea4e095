use Rattle.std.specs.Prelude.{◌&&◌}
use Rattle.std.proofs.Common.{◌∙◌, ap}
use Rattle.typed_trees.specs.Nodes.{is_call}
use Rattle.program_typing.proofs.expressions.is_call_of.Goals as goal

pub returns : goal.returns
returns c = λ told. λ i. (c.is_call.ensures ∙ ap is_call (c.in_ok-seen.ensures.form told.tests told.told)) i && c.in_ok-seen.ensures.fits told.tests told.told i
