use Rattle.std.proofs.Common.{◌≡◌, ◌++◌, map, take}
use Rattle.cg_sets.specs.Reaching.{candidate_rule}
use Rattle.cg_sets.proofs.by_reach.put_row.Given as goal

abbrev pub invariant-loop-candidate : goal.invariant-loop-candidate
invariant-loop-candidate l = l.rules.items ≡ l.fn.rules.items ++ map (candidate_rule l.group) (take l.candidate-index l.candidates)
