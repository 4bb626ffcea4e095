use Rattle.std.proofs.Common.{◌≡◌, [], map, take}
use Rattle.go_finding.specs.Finding.{listed}
use Rattle.go_finding.proofs.found.no_imports.Given as goal

abbrev pub invariant-files : goal.invariant-files
invariant-files l = listed l.imports.items ≡ map (λ file. []) (take l._file-index l.files)
