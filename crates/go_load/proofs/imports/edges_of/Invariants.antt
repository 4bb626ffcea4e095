use Rattle.std.proofs.Common.{◌≡◌, map, take}
use Rattle.go_load.proofs.imports.edges_of.Given as goal

abbrev pub invariant-links : goal.invariant-links
invariant-links l = l.edges.items ≡ map (λ link. link.edge) (take l.link-index l.links)
