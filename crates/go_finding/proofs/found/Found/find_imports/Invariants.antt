use Rattle.std.proofs.Common.{◌≡◌, ◌≤◌, take}
use Rattle.go_finding.proofs.FindingSteps.{FindsFront}
use Rattle.go_finding.proofs.found.Found.find_imports.Given as goal

abbrev pub invariant-literals : goal.invariant-literals
invariant-literals g l =
    (g.F.Files.faults l.initial.files ≤ g.F.Files.faults l.files)
    × (g.F.Files.tree l.files ≡ g.F.Files.tree l.initial.files)
    × FindsFront (g.F.Files.tree l.initial.files) l.initial.self l.self l.source (take l.literal-index l.literal-items) l.imports.items
