use Rattle.std.proofs.Common.{◌≡◌, ◌++◌, take}
use Rattle.go_text.specs.Quoted.{quoted_bytes}
use Rattle.go_text.proofs.scalars.push_bytes.Given as goal

abbrev pub invariant-loop-byte : goal.invariant-loop-byte
invariant-loop-byte l = l.text.items ≡ l.initial.text.items ++ quoted_bytes (take l.byte-index l.bytes)
