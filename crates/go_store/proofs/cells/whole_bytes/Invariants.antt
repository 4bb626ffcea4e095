use Rattle.std.proofs.Common.{◌≡◌, map, take}
use Rattle.go_store.proofs.Held.{plain_byte}
use Rattle.go_store.proofs.cells.whole_bytes.Given as goal

abbrev pub invariant-loop-byte : goal.invariant-loop-byte
invariant-loop-byte l = l.parts.items ≡ map plain_byte (take l.byte-index l.bytes)
