use Rattle.typed_trees.specs.Statements.{is_type_case}
use Rattle.expr_typing.specs.Telling.{at_tests}
use Rattle.program_typing.proofs.Lists.{all-kept, all-ended, all-done}
use Rattle.std.proofs.Common.{refl}
use Rattle.program_typing.proofs.clauses.are_type_cases.Goals as goal

pub returns-then-not-is_type_case : goal.returns-then-not-is_type_case
returns-then-not-is_type_case c = λ told. all-ended (is_type_case (at_tests c.args.around told.tests) c.args.operand) c.args.cases.now c.loop-case.case-index _ _ c.is_type_case.result _ c.loop-case-test.true refl (c.is_type_case.ensures told) c.if-not-is_type_case.true (c.loop-case.invariant told)

pub loop-case-preserved : goal.loop-case-preserved
loop-case-preserved c = λ told. all-kept (is_type_case (at_tests c.args.around told.tests) c.args.operand) c.args.cases.now c.loop-case.case-index _ _ c.is_type_case.result _ c.loop-case-test.true refl (c.is_type_case.ensures told) c.if-not-is_type_case.false (c.loop-case.invariant told)

pub returns : goal.returns
returns c = λ told. all-done (is_type_case (at_tests c.args.around told.tests) c.args.operand) c.args.cases.now c.loop-case.case-index _ c.loop-case-test.false (c.loop-case.invariant told)
