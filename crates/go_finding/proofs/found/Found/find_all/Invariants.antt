use Rattle.std.proofs.Common.{◌≡◌, ◌≤◌, take}
use Rattle.go_finding.proofs.FindingSteps.{FindsFrontFiles}
use Rattle.go_finding.proofs.found.Found.find_all.Given as goal

abbrev pub invariant-files : goal.invariant-files
invariant-files g l =
    (g.F.Files.faults l.initial.files ≤ g.F.Files.faults l.files)
    × (g.F.Files.tree l.files ≡ g.F.Files.tree l.initial.files)
    × FindsFrontFiles (g.F.Files.tree l.initial.files) l.initial.self l.self (take l.index l.sources) l.all.items
