use Rattle.program_typing.specs.Walk.{has_type_cases}
use Rattle.expr_typing.specs.Telling.{at_tests}
use Rattle.program_typing.proofs.Lists.{all-kept, all-ended, all-done}
use Rattle.program_typing.proofs.clauses.have_type_cases.Goals as goal

pub returns-then-not-has_type_cases : goal.returns-then-not-has_type_cases
returns-then-not-has_type_cases c = λ told. all-ended (has_type_cases (at_tests c.args.around told.tests) c.args.operand) c.args.clauses.now c.loop-clause.clause-index c.clause-item.result _ c.has_type_cases.result _ c.loop-clause-test.true c.clause-item.is (c.has_type_cases.ensures told) c.if-not-has_type_cases.true (c.loop-clause.invariant told)

pub loop-clause-preserved : goal.loop-clause-preserved
loop-clause-preserved c = λ told. all-kept (has_type_cases (at_tests c.args.around told.tests) c.args.operand) c.args.clauses.now c.loop-clause.clause-index c.clause-item.result _ c.has_type_cases.result _ c.loop-clause-test.true c.clause-item.is (c.has_type_cases.ensures told) c.if-not-has_type_cases.false (c.loop-clause.invariant told)

pub returns : goal.returns
returns c = λ told. all-done (has_type_cases (at_tests c.args.around told.tests) c.args.operand) c.args.clauses.now c.loop-clause.clause-index _ c.loop-clause-test.false (c.loop-clause.invariant told)
