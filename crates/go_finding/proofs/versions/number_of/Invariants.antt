use Rattle.std.proofs.Common.{◌≡◌, take}
use Rattle.go_finding.specs.Versions.{number_of}
use Rattle.go_finding.proofs.versions.number_of.Given as goal

abbrev pub invariant-loop-digit : goal.invariant-loop-digit
invariant-loop-digit l = l.number ≡ number_of (take l.digit-index l.digits)
