use Rattle.std.proofs.Common.{◌≡◌, ◌++◌, map, take}
use Rattle.cg_sets.specs.Reaching.{site_rule}
use Rattle.cg_sets.proofs.by_reach.put_sites.Given as goal

abbrev pub invariant-loop-site : goal.invariant-loop-site
invariant-loop-site l = l.rules.items ≡ l.fn.rules.items ++ map site_rule (take l.site-index l.sites)
