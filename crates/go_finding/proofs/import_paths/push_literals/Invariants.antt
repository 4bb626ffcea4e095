use Rattle.std.proofs.Common.{◌≡◌, ◌++◌, map, take}
use Rattle.go_finding.proofs.import_paths.push_literals.Given as goal

abbrev pub invariant-specs : goal.invariant-specs
invariant-specs l = l.literals.items ≡ l.initial.literals.items ++ map (λ spec. spec.path) (take l.spec-index l.specs)
