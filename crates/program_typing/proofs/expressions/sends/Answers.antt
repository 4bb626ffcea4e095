use Rattle.std.specs.Prelude.{◌&&◌}
use Rattle.std.proofs.Common.{◌∙◌, ap}
use Rattle.go_base.specs.declared.ids.TypeId.{TypeId}
use Rattle.go_type.specs.Assignable.{underlying_term_of}
use Rattle.type_shapes.specs.Shapes.{sent_elem, is_id}
use Rattle.program_typing.proofs.expressions.sends.Goals as goal

pub returns : goal.returns
returns c = λ told. λ i. c.in_ok-channel.ensures.fits told.tests told.told i && (c.in_ok-value.ensures.fits told.tests told.told i && (c.is_id.ensures ∙ λ j. is_id ((c.sent_elem-elem.ensures ∙ ap (λ (of : TypeId). sent_elem (underlying_term_of c.args.around.program.now.types of)) (c.in_ok-channel.ensures.of told.tests told.told)) j) (c.in_ok-value.ensures.of told.tests told.told j)) i)
