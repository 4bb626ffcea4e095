use Rattle.program_typing.proofs.Lists.{made-kept, made-done, variable_types-more}
use Rattle.expr_typing.specs.Telling.{at_tests}
use Rattle.typed_trees.specs.Statements.{variable_types}
use Rattle.std.proofs.Common.{refl}
use Rattle.program_typing.proofs.expressions.variable_types.Goals as goal

pub loop-id-preserved : goal.loop-id-preserved
loop-id-preserved c = λ tests. made-kept (variable_types (at_tests c.args.around tests)) (variable_types-more (at_tests c.args.around tests)) refl c.args.ids.now c.loop-id.id-index _ _ c.loop-id.types.items c.push_type.new.types.items _ c.loop-id-test.true refl (c.in_ok-push_type.ensures tests) (c.loop-id.invariant tests)

pub returns : goal.returns
returns c = λ tests. made-done (variable_types (at_tests c.args.around tests)) (variable_types-more (at_tests c.args.around tests)) refl c.args.ids.now c.loop-id.id-index c.loop-id.types.items _ c.loop-id-test.false (c.loop-id.invariant tests)
