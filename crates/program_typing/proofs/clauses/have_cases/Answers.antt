use Rattle.program_typing.specs.Walk.{has_cases}
use Rattle.expr_typing.specs.Telling.{at_tests}
use Rattle.program_typing.proofs.Lists.{all-kept, all-ended, all-done}
use Rattle.program_typing.proofs.clauses.have_cases.Goals as goal

pub returns-then-not-branch : goal.returns-then-not-branch
returns-then-not-branch c = λ told. all-ended (has_cases (at_tests c.args.around told.tests) c.args.tag) c.args.clauses.now c.loop-clause.clause-index c.clause-item.result _ _ _ c.loop-clause-test.true c.clause-item.is (c.in_ok-has_cases.ensures told) c.if-not-branch.true (c.loop-clause.invariant told)

pub loop-clause-preserved : goal.loop-clause-preserved
loop-clause-preserved c = λ told. all-kept (has_cases (at_tests c.args.around told.tests) c.args.tag) c.args.clauses.now c.loop-clause.clause-index c.clause-item.result _ _ _ c.loop-clause-test.true c.clause-item.is (c.in_ok-has_cases.ensures told) c.if-not-branch.false (c.loop-clause.invariant told)

pub returns : goal.returns
returns c = λ told. all-done (has_cases (at_tests c.args.around told.tests) c.args.tag) c.args.clauses.now c.loop-clause.clause-index _ c.loop-clause-test.false (c.loop-clause.invariant told)
