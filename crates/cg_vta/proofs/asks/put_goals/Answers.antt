use Rattle.std.proofs.Common.{List, subst}
use Rattle.std.proofs.lemmas.List.{take_all}
use Rattle.cg_sets.specs.declared.candidates.Goal.{Goal}
use Rattle.cg_solve.specs.Lists.{Has}
use Rattle.cg_vta.specs.Asks.{PutsGoals}
use Rattle.cg_sets.specs.declared.candidates.Goal.TheVariants as goal_of
use Rattle.cg_vta.proofs.Gathering.{puts_more, puts_none}
use Rattle.cg_vta.proofs.asks.put_goals.Goals as goal

pub loop-goal-init : goal.loop-goal-init
loop-goal-init c = puts_none c.args.nothing c.args.number c.args.ask c.args.asks.now.list.keys c.args.rules.now.items

pub loop-goal-preserved : goal.loop-goal-preserved
loop-goal-preserved c =
    let put = c.in_ok-put_goal.ensures in
    puts_more c.args.nothing c.args.number c.args.ask c.args.goals.now c.loop-goal.goal-index (goal_of.Function (record { number = 0 })) c.args.asks.now.list.keys c.loop-goal.asks.list.keys c.put_goal.new.asks.list.keys
    c.args.rules.now.items c.loop-goal.rules.items c.put_goal.new.rules.items c.loop-goal-test.true put.rules put.grows c.loop-goal.invariant

pub returns : goal.returns
returns c =
    subst (λ (l : List Goal). PutsGoals c.args.nothing c.args.number c.args.ask (Has l) c.args.asks.now.list.keys c.loop-goal.asks.list.keys c.args.rules.now.items c.loop-goal.rules.items)
    (take_all c.loop-goal.goal-index c.args.goals.now c.loop-goal-test.false) c.loop-goal.invariant
