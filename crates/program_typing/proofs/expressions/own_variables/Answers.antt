use Rattle.program_typing.specs.Walk.{is_one_of_own}
use Rattle.expr_typing.specs.Telling.{at_tests}
use Rattle.program_typing.proofs.Lists.{all-kept, all-ended, all-done}
use Rattle.std.proofs.Common.{refl}
use Rattle.program_typing.proofs.expressions.own_variables.Goals as goal

pub returns-then-not-is_one_of_own : goal.returns-then-not-is_one_of_own
returns-then-not-is_one_of_own c = λ told. all-ended (is_one_of_own (at_tests c.args.around told.tests)) c.args.ids.now c.loop-id.id-index _ _ c.is_one_of_own.result _ c.loop-id-test.true refl (c.is_one_of_own.ensures told) c.if-not-is_one_of_own.true (c.loop-id.invariant told)

pub loop-id-preserved : goal.loop-id-preserved
loop-id-preserved c = λ told. all-kept (is_one_of_own (at_tests c.args.around told.tests)) c.args.ids.now c.loop-id.id-index _ _ c.is_one_of_own.result _ c.loop-id-test.true refl (c.is_one_of_own.ensures told) c.if-not-is_one_of_own.false (c.loop-id.invariant told)

pub returns : goal.returns
returns c = λ told. all-done (is_one_of_own (at_tests c.args.around told.tests)) c.args.ids.now c.loop-id.id-index _ c.loop-id-test.false (c.loop-id.invariant told)
