use Rattle.std.proofs.Common.{◌≡◌, ◌++◌, take}
use Rattle.go_finding.specs.Finding.{listed}
use Rattle.go_finding.specs.Linking.{kept_links}
use Rattle.go_finding.proofs.links.push_links.Given as goal

abbrev pub invariant-files : goal.invariant-files
invariant-files l = l.links.items ≡ l.initial.links.items ++ kept_links l.number l.first (listed (take l.index l.fn.imports))
