use Rattle.std.proofs.Common.{◌≡◌, true, drop}
use Rattle.go_finding.specs.Words.{ends_in_opening}
use Rattle.go_finding.proofs.words.ends_in_opening.Given as goal

abbrev pub invariant-loop-index : goal.invariant-loop-index
invariant-loop-index l = ends_in_opening true l.text ≡ ends_in_opening l.start (drop l.index l.text)
