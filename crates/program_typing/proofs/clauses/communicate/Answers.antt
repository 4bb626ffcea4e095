use Rattle.typed_trees.specs.Statements.{communicates}
use Rattle.go_tree.specs.declared.stmts.SelectClause.{SelectClause}
use Rattle.expr_typing.specs.Telling.{at_tests}
use Rattle.program_typing.proofs.Lists.{all-kept, all-ended, all-done}
use Rattle.program_typing.proofs.clauses.communicate.Goals as goal

pub returns-then-not-branch : goal.returns-then-not-branch
returns-then-not-branch c = λ told. all-ended (λ (it : SelectClause). communicates (at_tests c.args.around told.tests) it.comm) c.args.clauses.now c.loop-clause.clause-index c.clause-item.result _ _ _ c.loop-clause-test.true c.clause-item.is (c.in_ok-communicates.ensures told) c.if-not-branch.true (c.loop-clause.invariant told)

pub loop-clause-preserved : goal.loop-clause-preserved
loop-clause-preserved c = λ told. all-kept (λ (it : SelectClause). communicates (at_tests c.args.around told.tests) it.comm) c.args.clauses.now c.loop-clause.clause-index c.clause-item.result _ _ _ c.loop-clause-test.true c.clause-item.is (c.in_ok-communicates.ensures told) c.if-not-branch.false (c.loop-clause.invariant told)

pub returns : goal.returns
returns c = λ told. all-done (λ (it : SelectClause). communicates (at_tests c.args.around told.tests) it.comm) c.args.clauses.now c.loop-clause.clause-index _ c.loop-clause-test.false (c.loop-clause.invariant told)
