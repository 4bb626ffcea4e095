use Rattle.typed_trees.specs.Statements.{is_case_of}
use Rattle.expr_typing.specs.Telling.{at_tests}
use Rattle.program_typing.proofs.Lists.{all-kept, all-ended, all-done}
use Rattle.program_typing.proofs.clauses.are_cases_of.Goals as goal

pub returns-then-not-branch : goal.returns-then-not-branch
returns-then-not-branch c = λ told. all-ended (is_case_of (at_tests c.args.around told.tests) c.args.tag) c.args.cases.now c.loop-case.case-index c.case-item.result _ _ _ c.loop-case-test.true c.case-item.is (c.in_ok-is_case_of.ensures told) c.if-not-branch.true (c.loop-case.invariant told)

pub loop-case-preserved : goal.loop-case-preserved
loop-case-preserved c = λ told. all-kept (is_case_of (at_tests c.args.around told.tests) c.args.tag) c.args.cases.now c.loop-case.case-index c.case-item.result _ _ _ c.loop-case-test.true c.case-item.is (c.in_ok-is_case_of.ensures told) c.if-not-branch.false (c.loop-case.invariant told)

pub returns : goal.returns
returns c = λ told. all-done (is_case_of (at_tests c.args.around told.tests) c.args.tag) c.args.cases.now c.loop-case.case-index _ c.loop-case-test.false (c.loop-case.invariant told)
