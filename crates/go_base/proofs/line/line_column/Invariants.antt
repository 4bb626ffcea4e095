use Rattle.std.proofs.Common.{◌≡◌}
use Rattle.go_base.specs.Lines.{line_at, column_at}
use Rattle.go_base.proofs.line.line_column.Given as goal

abbrev pub invariant-loop-byte : goal.invariant-loop-byte
invariant-loop-byte l = (l.line ≡ line_at l.bytes l.byte-index) × (l.column ≡ column_at l.bytes l.byte-index)
