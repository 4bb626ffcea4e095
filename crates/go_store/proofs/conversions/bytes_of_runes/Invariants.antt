use Rattle.std.proofs.Common.{◌≡◌, ◌++◌, map, drop}
use Rattle.std.specs.List.{flat_map}
use Rattle.go_value.specs.Values.{number}
use Rattle.go_store.specs.Conversions.{rune_bytes}
use Rattle.go_store.proofs.conversions.bytes_of_runes.Given as goal

abbrev pub invariant-loop-rune : goal.invariant-loop-rune
invariant-loop-rune l =
    l.bytes.items ++ flat_map rune_bytes (map number (drop l.rune-index l.runes)) ≡ flat_map rune_bytes (map number l.runes)
