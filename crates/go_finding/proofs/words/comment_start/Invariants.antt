use Rattle.std.proofs.Common.{◌≡◌, ◌+◌, drop}
use Rattle.go_finding.specs.Words.{comment_start}
use Rattle.go_finding.proofs.words.comment_start.Given as goal

abbrev pub invariant-loop-index : goal.invariant-loop-index
invariant-loop-index l = comment_start l.line ≡ l.index + comment_start (drop l.index l.line)
