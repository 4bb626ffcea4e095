use Rattle.std.proofs.Common.{◌≡◌, min, map, length, take}
use Rattle.std.specs.List.{sum_by}
use Rattle.go_finding.specs.Finding.{view_file}
use Rattle.go_load.proofs.loader.total_size.Given as goal

abbrev pub invariant-files : goal.invariant-files
invariant-files l = min (sum_by (λ file. length file.bytes) (map view_file (take l.source-index l.sources))) 18446744073709551615 ≡ l.total
