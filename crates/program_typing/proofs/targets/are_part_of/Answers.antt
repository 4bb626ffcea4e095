use Rattle.go_tree.specs.declared.exprs.TypedExpr.{TypedExpr}
use Rattle.typed_trees.specs.Expressions.{seen}
use Rattle.expr_typing.specs.Telling.{at_tests}
use Rattle.program_typing.proofs.Lists.{all-kept, all-ended, all-done}
use Rattle.program_typing.proofs.targets.are_part_of.Goals as goal

pub returns-then-not-branch : goal.returns-then-not-branch
returns-then-not-branch c = λ told. all-ended (λ (x : TypedExpr). (seen (at_tests c.args.around told.tests) x).fits_part c.args.given.now) c.args.parts.now c.loop-part.part-index c.part-item.result _ _ _ c.loop-part-test.true c.part-item.is (c.in_ok-fits_part.ensures told.tests told.told) c.if-not-branch.true (c.loop-part.invariant told)

pub loop-part-preserved : goal.loop-part-preserved
loop-part-preserved c = λ told. all-kept (λ (x : TypedExpr). (seen (at_tests c.args.around told.tests) x).fits_part c.args.given.now) c.args.parts.now c.loop-part.part-index c.part-item.result _ _ _ c.loop-part-test.true c.part-item.is (c.in_ok-fits_part.ensures told.tests told.told) c.if-not-branch.false (c.loop-part.invariant told)

pub returns : goal.returns
returns c = λ told. all-done (λ (x : TypedExpr). (seen (at_tests c.args.around told.tests) x).fits_part c.args.given.now) c.args.parts.now c.loop-part.part-index _ c.loop-part-test.false (c.loop-part.invariant told)
