use Rattle.std.proofs.Common.{◌≡◌, ◌≤◌, Option, IfSome, Result}
use denote.Text.{Utf8}
use denote.Shadow.{shadow}
use Rattle.go_finding.specs.Modules.{Broken, Module, Governs}
use Rattle.go_finding.specs.Paths.{depth}
use Rattle.go_finding.proofs.find_module.find_module.Given as goal

abbrev pub invariant-dirs : goal.invariant-dirs
invariant-dirs g l =
    shadow (Utf8 l.nearest)
    × (g.F.Files.faults l.initial.files ≤ g.F.Files.faults l.files)
    × (g.F.Files.tree l.files ≡ g.F.Files.tree l.initial.files)
    × IfSome (g.F.Files.tree l.initial.files) (λ tree. (said : Option (Result Module Broken)) → Governs tree l.nearest said → Governs tree l.fn.dir said)

-- the directories above
abbrev pub decreases-dirs : goal.decreases-dirs
decreases-dirs g l = depth l.nearest
