use Rattle.std.proofs.Common.{◌≡◌, map, take, string_bytes}
use Rattle.go_finding.specs.Paths.{path_in}
use Rattle.go_finding.proofs.listing.paths_in.Given as goal

abbrev pub invariant-names : goal.invariant-names
invariant-names l = map string_bytes l.paths.items ≡ map (path_in l.dir) (map string_bytes (take l.name-index l.names))
