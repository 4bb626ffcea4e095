use Rattle.std.specs.Prelude.{◌&&◌}
use Rattle.std.proofs.Common.{◌∙◌, ap, List}
use Rattle.go_base.specs.declared.ids.TypeId.{TypeId}
use Rattle.go_type.specs.Same.{same_ids}
use Rattle.program_typing.proofs.expressions.values_are.Goals as goal

pub returns : goal.returns
returns c = λ told. λ i. c.in_ok-seen.ensures.fits told.tests told.told i && (c.are_same.ensures ∙ ap (λ (ts : List TypeId). same_ids ts c.args.types.now) (c.as_slice.ensures.value ∙ c.in_ok-seen.ensures.types told.tests told.told)) i
