use Rattle.std.proofs.Common.{◌∙◌, ap, List}
use Rattle.go_base.specs.declared.ids.TypeId.{TypeId}
use Rattle.expr_typing.specs.Telling.{at_tests}
use Rattle.program_typing.specs.Walk.{are_own}
use Rattle.program_typing.proofs.functions.has_params.Goals as goal

pub returns : goal.returns
returns c = λ told. c.are_own.ensures told ∙ ap (λ (ts : List TypeId). are_own (at_tests c.args.around told.tests) c.args.ids.now ts) (c.as_slice.ensures.value ∙ c.in_ok-types.ensures)
