use Rattle.program_typing.specs.Walk.{is_of_other}
use Rattle.expr_typing.specs.Telling.{at_tests}
use Rattle.program_typing.proofs.Lists.{all-kept, all-ended, all-done}
use Rattle.std.proofs.Common.{refl}
use Rattle.program_typing.proofs.functions.are_of_others.Goals as goal

pub returns-then-not-is_of_other : goal.returns-then-not-is_of_other
returns-then-not-is_of_other c = λ told. all-ended (is_of_other (at_tests c.args.around told.tests)) c.args.ids.now c.loop-id.id-index _ _ c.is_of_other.result _ c.loop-id-test.true refl (c.is_of_other.ensures told) c.if-not-is_of_other.true (c.loop-id.invariant told)

pub loop-id-preserved : goal.loop-id-preserved
loop-id-preserved c = λ told. all-kept (is_of_other (at_tests c.args.around told.tests)) c.args.ids.now c.loop-id.id-index _ _ c.is_of_other.result _ c.loop-id-test.true refl (c.is_of_other.ensures told) c.if-not-is_of_other.false (c.loop-id.invariant told)

pub returns : goal.returns
returns c = λ told. all-done (is_of_other (at_tests c.args.around told.tests)) c.args.ids.now c.loop-id.id-index _ c.loop-id-test.false (c.loop-id.invariant told)
