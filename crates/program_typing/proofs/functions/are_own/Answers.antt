use Rattle.typed_trees.specs.Around.{is_own_variable}
use Rattle.program_typing.proofs.Pairs.{own_pairs}
use Rattle.expr_typing.specs.Telling.{at_tests}
use Rattle.program_typing.proofs.Pairs.{pairs-kept, pairs-ended, pairs-done}
use Rattle.std.specs.Cmp.Lexicographic.{unequal}
use Rattle.std.proofs.Common.{arith, sym, refl, ◌∙◌}
use Rattle.program_typing.proofs.functions.are_own.Goals as goal

pub returns-then-ids-types : goal.returns-then-ids-types
returns-then-ids-types c = λ told. sym (unequal (is_own_variable (at_tests c.args.around told.tests)) c.args.ids.now c.args.types.now c.if-ids-types.true) ∙ own_pairs (at_tests c.args.around told.tests) c.args.ids.now c.args.types.now

pub returns-then-not-is_own_variable : goal.returns-then-not-is_own_variable
returns-then-not-is_own_variable c = λ told. pairs-ended (is_own_variable (at_tests c.args.around told.tests)) c.args.ids.now c.args.types.now c.loop-index.index _ _ _ _ c.is_own_variable.result _ (omega arith) (omega arith) refl refl (c.is_own_variable.ensures told.tests) c.if-not-is_own_variable.true (c.loop-index.invariant told) ∙ own_pairs (at_tests c.args.around told.tests) c.args.ids.now c.args.types.now

pub loop-index-preserved : goal.loop-index-preserved
loop-index-preserved c = λ told. pairs-kept (is_own_variable (at_tests c.args.around told.tests)) c.args.ids.now c.args.types.now c.loop-index.index _ _ _ _ c.is_own_variable.result _ (omega arith) (omega arith) refl refl (c.is_own_variable.ensures told.tests) c.if-not-is_own_variable.false (c.loop-index.invariant told)

pub returns : goal.returns
returns c = λ told. pairs-done (is_own_variable (at_tests c.args.around told.tests)) c.args.ids.now c.args.types.now c.loop-index.index _ (omega arith) (omega arith) (c.loop-index.invariant told) ∙ own_pairs (at_tests c.args.around told.tests) c.args.ids.now c.args.types.now
