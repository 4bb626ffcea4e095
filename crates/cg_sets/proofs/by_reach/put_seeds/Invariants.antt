use Rattle.std.proofs.Common.{◌≡◌, ◌++◌, map, take}
use Rattle.cg_sets.specs.Reaching.{seed_rule}
use Rattle.cg_sets.proofs.by_reach.put_seeds.Given as goal

abbrev pub invariant-loop-seed : goal.invariant-loop-seed
invariant-loop-seed l = l.rules.items ≡ l.fn.rules.items ++ map seed_rule (take l.seed-index l.seeds)
