use Rattle.program_typing.proofs.Lists.{all-kept, all-ended, all-done}
use Rattle.typed_trees.specs.Programs.{fits_step}
use Rattle.program_typing.proofs.initialisers.fit_each.Goals as goal

pub returns-then-not-branch : goal.returns-then-not-branch
returns-then-not-branch c = λ told ini. all-ended (fits_step c.args.program.now told.tests) c.args.steps.now c.loop-step.step-index c.step-item.result _ _ _ c.loop-step-test.true c.step-item.is (c.in_ok-fits_step.ensures told ini) c.if-not-branch.true (c.loop-step.invariant told ini)

pub loop-step-preserved : goal.loop-step-preserved
loop-step-preserved c = λ told ini. all-kept (fits_step c.args.program.now told.tests) c.args.steps.now c.loop-step.step-index c.step-item.result _ _ _ c.loop-step-test.true c.step-item.is (c.in_ok-fits_step.ensures told ini) c.if-not-branch.false (c.loop-step.invariant told ini)

pub returns : goal.returns
returns c = λ told ini. all-done (fits_step c.args.program.now told.tests) c.args.steps.now c.loop-step.step-index _ c.loop-step-test.false (c.loop-step.invariant told ini)
