use Rattle.std.proofs.Common.{◌≡◌, map, drop}
use Rattle.go_finding.specs.Finding.{view_file}
use Rattle.go_finding.specs.Programs.{name_of, other_name}
use Rattle.go_load.proofs.loader.check_names.Given as goal

abbrev pub invariant-files : goal.invariant-files
invariant-files l = other_name (name_of (view_file l.head)) (map view_file l.others) ≡ other_name (name_of (view_file l.head)) (map view_file (drop l.file-index l.others))
