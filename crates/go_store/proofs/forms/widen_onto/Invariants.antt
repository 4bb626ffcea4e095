use Rattle.std.proofs.Common.{◌≡◌, ◌++◌, map, pos, drop}
use Rattle.go_store.proofs.forms.widen_onto.Given as goal

abbrev pub invariant-loop-byte : goal.invariant-loop-byte
invariant-loop-byte l = l.ints.items ++ map pos (drop l.byte-index l.bytes) ≡ l.initial.ints.items ++ map pos l.bytes
