use Rattle.std.proofs.Common.{◌≡◌, ◌+◌, drop}
use Rattle.std.specs.List.{prefix_len}
use Rattle.go_finding.specs.Words.{is_space}
use Rattle.go_finding.proofs.words.space_length.Given as goal

abbrev pub invariant-loop-index : goal.invariant-loop-index
invariant-loop-index l = prefix_len is_space l.text ≡ l.index + prefix_len is_space (drop l.index l.text)
