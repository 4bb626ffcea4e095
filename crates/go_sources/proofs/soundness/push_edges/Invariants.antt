use Rattle.std.proofs.Common.{◌≡◌, ◌++◌, take}
use Rattle.go_sources.specs.Soundness.{edges_of_file}
use Rattle.go_sources.proofs.soundness.push_edges.Given as goal

abbrev pub invariant-imports : goal.invariant-imports
invariant-imports l = l.edges.items ≡ l.initial.edges.items ++ edges_of_file l.number (take l.import-index l.imports)
