use Rattle.std.proofs.Common.{◌≡◌, ◌+◌, drop}
use Rattle.std.specs.List.{position_or_len}
use Rattle.go_finding.specs.Words.{is_newline}
use Rattle.go_finding.proofs.words.line_length.Given as goal

abbrev pub invariant-loop-index : goal.invariant-loop-index
invariant-loop-index l = position_or_len is_newline l.text ≡ l.index + position_or_len is_newline (drop l.index l.text)
