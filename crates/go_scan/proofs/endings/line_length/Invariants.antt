use Rattle.std.proofs.Common.{◌≡◌, ◌+◌, drop}
use Rattle.go_scan.specs.Reach.{line_length}
use Rattle.go_scan.proofs.endings.line_length.Given as goal

abbrev pub invariant-loop-index : goal.invariant-loop-index
invariant-loop-index l = line_length l.text ≡ l.index + line_length (drop l.index l.text)
