use Rattle.std.specs.Prelude.{◌&&◌}
use Rattle.std.proofs.Common.{◌∙◌, ap}
use Rattle.std.specs.Prelude.{◌||◌}
use Rattle.type_shapes.specs.Shapes.{is_id}
use Rattle.typed_trees.specs.Nodes.{is_nothing}
use Rattle.program_typing.proofs.clauses.is_compared.Goals as goal

pub returns : goal.returns
returns c = λ told. λ i. (c.in_ok-seen.ensures.fits told.tests told.told i && ((c.comparable.ensures told.tests told.told ∙ ap told.tests.answers.comparable (c.in_ok-seen.ensures.of told.tests told.told)) i || (c.is_nothing.ensures ∙ ap is_nothing (c.in_ok-seen.ensures.form told.tests told.told)) i)) && (c.is_id.ensures ∙ λ j. is_id (c.tag_type-tag.ensures told j) (c.in_ok-seen.ensures.of told.tests told.told j)) i
