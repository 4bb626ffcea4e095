use Rattle.std.proofs.Common.{◌≡◌, ◌++◌, flat_map, take}
use Rattle.cg_vta.specs.Facts.{site_nodes}
use Rattle.cg_vta.proofs.facts.put_sites.Given as goal

abbrev pub invariant-loop-site : goal.invariant-loop-site
invariant-loop-site l = l.nodes.items ≡ l.fn.nodes.items ++ flat_map site_nodes (take l.site-index l.sites)
