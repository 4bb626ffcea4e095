use Rattle.std.proofs.Common.{◌≡◌, ◌+◌, drop}
use Rattle.std.specs.List.{prefix_len}
use Rattle.go_finding.specs.Words.{is_word_byte}
use Rattle.go_finding.proofs.words.word_length.Given as goal

abbrev pub invariant-loop-index : goal.invariant-loop-index
invariant-loop-index l = prefix_len is_word_byte l.text ≡ l.index + prefix_len is_word_byte (drop l.index l.text)
