use Rattle.std.proofs.Common.{◌≡◌, map, take}
use Rattle.go_store.specs.Conversions.{numbers_of}
use Rattle.go_value.specs.Values as vals
use Rattle.go_value.specs.Values.{value_of}
use Rattle.interp_builtins.proofs.elements.byte_values.Given as goal

abbrev pub invariant-loop-byte : goal.invariant-loop-byte
invariant-loop-byte l = map value_of l.items.items ≡ map vals.number (numbers_of (take l.byte-index l.bytes))
