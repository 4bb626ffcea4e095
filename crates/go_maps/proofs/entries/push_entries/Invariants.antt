use Rattle.std.proofs.Common.{◌≡◌, ◌++◌, map, drop}
use Rattle.go_maps.specs.Entries.{entries_of, entries_from, entries_in, pair_made}
use Rattle.go_maps.proofs.entries.push_entries.Given as goal

abbrev pub invariant-loop-number : goal.invariant-loop-number
invariant-loop-number l = map pair_made l.all ++ entries_from l.number (entries_of (drop l.number l.slots)) ≡ entries_in (entries_of l.slots)
