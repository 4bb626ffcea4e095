use Rattle.std.proofs.Common.{◌≡◌, ◌++◌, take}
use Rattle.cg_vta.proofs.asks.put_found.Given as goal

abbrev pub invariant-loop-goal : goal.invariant-loop-goal
invariant-loop-goal l = l.found.items ≡ l.fn.found.items ++ take l.goal-index l.goals
