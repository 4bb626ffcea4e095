use Rattle.std.specs.Prelude.{◌&&◌}
use Rattle.std.proofs.Common.{◌∙◌, ap}
use Rattle.go_base.specs.declared.ids.TypeId.{TypeId}
use Rattle.go_type.specs.Assignable.{underlying_term_of}
use Rattle.type_shapes.specs.Shapes.{is_truth}
use Rattle.program_typing.proofs.expressions.is_condition.Goals as goal

pub returns : goal.returns
returns c = λ told. λ i. c.in_ok-seen.ensures.fits told.tests told.told i && (c.is_truth.ensures ∙ ap (λ (of : TypeId). is_truth (underlying_term_of c.args.around.program.now.types of)) (c.in_ok-seen.ensures.of told.tests told.told)) i
