use Rattle.go_tree.specs.declared.stmts.TypedCase.{TypedCase}
use Rattle.tree_facts.specs.Roots.{taken}
use Rattle.tree_facts.proofs.Searching.{turn}
use Rattle.tree_facts.proofs.roots.Roots.in_cases.Goals as goal

pub loop-case-preserved : goal.loop-case-preserved
loop-case-preserved c = turn (λ (x : TypedCase). taken x.value) c.args.self.now c.loop-case.self c.in_expr.new.self c.args.cases.now c.loop-case.case-index _ c.case-item.result c.loop-case-test.true c.loop-case.invariant c.case-item.is c.in_ok-in_expr.ensures.ok
