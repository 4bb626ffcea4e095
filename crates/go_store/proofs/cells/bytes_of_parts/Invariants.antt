use Rattle.std.proofs.Common.{◌≡◌, map, take}
use Rattle.go_store.proofs.Held.{plain_byte}
use Rattle.go_store.proofs.cells.bytes_of_parts.Given as goal

abbrev pub invariant-loop-part : goal.invariant-loop-part
invariant-loop-part l = map plain_byte l.bytes.items ≡ take l.part-index l.parts
