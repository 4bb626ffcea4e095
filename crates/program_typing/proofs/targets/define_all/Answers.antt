use Rattle.typed_trees.specs.Targets.{defines}
use Rattle.expr_typing.specs.Telling.{at_tests}
use Rattle.program_typing.proofs.Pairs.{pairs-kept, pairs-ended, pairs-done}
use Rattle.std.specs.Cmp.Lexicographic.{unequal}
use Rattle.std.proofs.Common.{arith, sym, refl}
use Rattle.program_typing.proofs.targets.define_all.Goals as goal

pub returns-then-targets-types : goal.returns-then-targets-types
returns-then-targets-types c = λ told. sym (unequal (defines (at_tests c.args.around told.tests)) c.args.targets.now c.args.types.now c.if-targets-types.true)

pub returns-then-not-defines : goal.returns-then-not-defines
returns-then-not-defines c = λ told. pairs-ended (defines (at_tests c.args.around told.tests)) c.args.targets.now c.args.types.now c.loop-index.index _ _ _ _ c.defines.result _ (omega arith) (omega arith) refl refl (c.defines.ensures told) c.if-not-defines.true (c.loop-index.invariant told)

pub loop-index-preserved : goal.loop-index-preserved
loop-index-preserved c = λ told. pairs-kept (defines (at_tests c.args.around told.tests)) c.args.targets.now c.args.types.now c.loop-index.index _ _ _ _ c.defines.result _ (omega arith) (omega arith) refl refl (c.defines.ensures told) c.if-not-defines.false (c.loop-index.invariant told)

pub returns : goal.returns
returns c = λ told. pairs-done (defines (at_tests c.args.around told.tests)) c.args.targets.now c.args.types.now c.loop-index.index _ (omega arith) (omega arith) (c.loop-index.invariant told)
