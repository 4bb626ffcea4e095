use Rattle.std.proofs.Common.{◌≡◌, ◌++◌, take}
use Rattle.go_finding.specs.Linking.{kept_in_file}
use Rattle.go_finding.proofs.links.push_file_links.Given as goal

abbrev pub invariant-imports : goal.invariant-imports
invariant-imports l = l.links.items ≡ l.initial.links.items ++ kept_in_file l.number l.file (take l.import-index l.imports)
