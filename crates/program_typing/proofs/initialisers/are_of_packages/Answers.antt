use Rattle.program_typing.specs.Walk.{is_of_a_package}
use Rattle.expr_typing.specs.Telling.{at_tests}
use Rattle.program_typing.proofs.Lists.{all-kept, all-ended, all-done}
use Rattle.std.proofs.Common.{refl}
use Rattle.program_typing.proofs.initialisers.are_of_packages.Goals as goal

pub returns-then-not-is_of_a_package : goal.returns-then-not-is_of_a_package
returns-then-not-is_of_a_package c = λ told. all-ended (is_of_a_package (at_tests c.args.around told.tests)) c.args.ids.now c.loop-id.id-index _ _ c.is_of_a_package.result _ c.loop-id-test.true refl (c.is_of_a_package.ensures told) c.if-not-is_of_a_package.true (c.loop-id.invariant told)

pub loop-id-preserved : goal.loop-id-preserved
loop-id-preserved c = λ told. all-kept (is_of_a_package (at_tests c.args.around told.tests)) c.args.ids.now c.loop-id.id-index _ _ c.is_of_a_package.result _ c.loop-id-test.true refl (c.is_of_a_package.ensures told) c.if-not-is_of_a_package.false (c.loop-id.invariant told)

pub returns : goal.returns
returns c = λ told. all-done (is_of_a_package (at_tests c.args.around told.tests)) c.args.ids.now c.loop-id.id-index _ c.loop-id-test.false (c.loop-id.invariant told)
