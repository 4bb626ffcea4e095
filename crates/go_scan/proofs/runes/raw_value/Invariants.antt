use Rattle.std.proofs.Common.{drop, ◌≡◌, ◌++◌}
use Rattle.std.specs.Prelude.{filter, not, ◌==◌}
use Rattle.go_scan.proofs.runes.raw_value.Given as goal

abbrev pub invariant-loop-byte : goal.invariant-loop-byte
invariant-loop-byte l = filter (λ byte. not (byte == 13)) l.inner ≡ l.value.items ++ filter (λ byte. not (byte == 13)) (drop l.byte-index l.inner)
