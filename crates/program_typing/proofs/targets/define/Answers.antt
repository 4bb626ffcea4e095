use Rattle.std.specs.Prelude.{◌&&◌}
use Rattle.std.proofs.Common.{◌∙◌, ap}
use Rattle.expr_typing.specs.Telling.{at_tests}
use Rattle.typed_trees.specs.Targets.{define_all}
use Rattle.program_typing.proofs.targets.define.Goals as goal

pub returns : goal.returns
returns c = λ told. λ i. c.in_ok-seen.ensures.fits told.tests told.told i && (c.define_all.ensures told ∙ ap (define_all (at_tests c.args.around told.tests) c.args.targets.now) (c.as_slice.ensures.value ∙ c.in_ok-seen.ensures.types told.tests told.told)) i
