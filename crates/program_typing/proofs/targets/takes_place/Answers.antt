use Rattle.std.specs.Prelude.{◌&&◌}
use Rattle.std.proofs.Common.{◌∙◌, ap}
use Rattle.go_base.specs.declared.ids.TypeId.{TypeId}
use Rattle.typed_trees.specs.Nodes.{can_be_set}
use Rattle.go_type.specs.Same.{same_id}
use Rattle.program_typing.proofs.targets.takes_place.Goals as goal

pub returns : goal.returns
returns c = λ told. λ i. (c.can_be_set.ensures ∙ ap can_be_set (c.in_ok-seen.ensures.form told.tests told.told)) i && ((c.is.ensures ∙ ap (λ (of : TypeId). same_id of c.args.of) (c.in_ok-seen.ensures.of told.tests told.told)) i && c.in_ok-seen.ensures.fits told.tests told.told i)
