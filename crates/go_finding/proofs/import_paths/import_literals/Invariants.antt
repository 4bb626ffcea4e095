use Rattle.std.proofs.Common.{◌≡◌, take}
use Rattle.std.specs.List.{flat_map}
use Rattle.go_finding.proofs.ImportLists.{literals_of_decl}
use Rattle.go_finding.proofs.import_paths.import_literals.Given as goal

abbrev pub invariant-imports : goal.invariant-imports
invariant-imports l = l.literals.items ≡ flat_map literals_of_decl (take l.import-index l.tree.imports.items)
