use Rattle.std.proofs.Common.{take}
use Rattle.cg_solve.specs.Lists.{Has}
use Rattle.cg_vta.specs.Asks.{PutsGoals}
use Rattle.cg_vta.proofs.asks.put_goals.Given as goal

abbrev pub invariant-loop-goal : goal.invariant-loop-goal
invariant-loop-goal l = PutsGoals l.nothing l.number l.ask (Has (take l.goal-index l.goals)) l.fn.asks.list.keys l.asks.list.keys l.fn.rules.items l.rules.items
