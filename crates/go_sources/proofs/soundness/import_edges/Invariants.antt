use Rattle.std.proofs.Common.{◌≡◌, ◌++◌, drop}
use Rattle.go_sources.specs.Soundness.{edges_from, import_edges}
use Rattle.go_sources.proofs.soundness.import_edges.Given as goal

abbrev pub invariant-files : goal.invariant-files
invariant-files l = l.edges.items ++ edges_from l.index (drop l.index l.files) l.imports ≡ import_edges l.files l.imports
