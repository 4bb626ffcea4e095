use Rattle.std.proofs.Common.{◌≡◌, ◌++◌, flat_map, take}
use Rattle.cg_vta.specs.Choosing.{chosen_group}
use Rattle.cg_vta.proofs.called.with_sites.Given as goal

abbrev pub invariant-loop-site : goal.invariant-loop-site
invariant-loop-site l = l.starts.items ≡ l.fn.bound.items ++ flat_map chosen_group (take l.site-index l.sites)
