use Rattle.tree_facts.specs.Statements.{in_target}
use Rattle.tree_facts.proofs.Searching.{turn}
use Rattle.tree_facts.proofs.roots.Roots.in_targets.Goals as goal

pub loop-target-preserved : goal.loop-target-preserved
loop-target-preserved c = turn (in_target) c.args.self.now c.loop-target.self c.in_target.new.self c.args.targets.now c.loop-target.target-index _ c.target-item.result c.loop-target-test.true c.loop-target.invariant c.target-item.is c.in_ok-in_target.ensures.ok
