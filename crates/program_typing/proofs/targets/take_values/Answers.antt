use Rattle.typed_trees.specs.Targets.{takes_value}
use Rattle.expr_typing.specs.Telling.{at_tests}
use Rattle.program_typing.proofs.Pairs.{pairs-kept, pairs-ended, pairs-done}
use Rattle.std.specs.Cmp.Lexicographic.{unequal}
use Rattle.std.proofs.Common.{arith, sym, refl}
use Rattle.program_typing.proofs.targets.take_values.Goals as goal

pub returns-then-targets-types : goal.returns-then-targets-types
returns-then-targets-types c = λ told. sym (unequal (takes_value (at_tests c.args.around told.tests)) c.args.targets.now c.args.types.now c.if-targets-types.true)

pub returns-then-not-branch : goal.returns-then-not-branch
returns-then-not-branch c = λ told. pairs-ended (takes_value (at_tests c.args.around told.tests)) c.args.targets.now c.args.types.now c.loop-index.index c.index-targets-index.result _ _ _ _ _ (omega arith) (omega arith) c.index-targets-index.is refl (c.in_ok-takes_value.ensures told) c.if-not-branch.true (c.loop-index.invariant told)

pub loop-index-preserved : goal.loop-index-preserved
loop-index-preserved c = λ told. pairs-kept (takes_value (at_tests c.args.around told.tests)) c.args.targets.now c.args.types.now c.loop-index.index c.index-targets-index.result _ _ _ _ _ (omega arith) (omega arith) c.index-targets-index.is refl (c.in_ok-takes_value.ensures told) c.if-not-branch.false (c.loop-index.invariant told)

pub returns : goal.returns
returns c = λ told. pairs-done (takes_value (at_tests c.args.around told.tests)) c.args.targets.now c.args.types.now c.loop-index.index _ (omega arith) (omega arith) (c.loop-index.invariant told)
