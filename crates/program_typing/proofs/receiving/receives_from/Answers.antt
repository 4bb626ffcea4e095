use Rattle.std.specs.Prelude.{◌&&◌}
use Rattle.std.proofs.Common.{◌∙◌, ap}
use Rattle.go_base.specs.declared.ids.TypeId.{TypeId}
use Rattle.expr_typing.specs.Telling.{at_tests}
use Rattle.typed_trees.specs.Targets.{receives}
use Rattle.program_typing.proofs.receiving.receives_from.Goals as goal

pub returns : goal.returns
returns c = λ told. λ i. c.in_ok-channel.ensures.fits told.tests told.told i && (c.in_ok-received.ensures told ∙ ap (λ (of : TypeId). receives (at_tests c.args.around told.tests) of c.args.into.now) (c.in_ok-channel.ensures.of told.tests told.told)) i
