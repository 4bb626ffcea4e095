use Rattle.std.proofs.Common.{◌≡◌, ◌++◌, drop}
use Rattle.go_maps.specs.Entries.{entries_of, numbers_from, numbers_in}
use Rattle.go_maps.proofs.entries.push_numbers.Given as goal

abbrev pub invariant-loop-number : goal.invariant-loop-number
invariant-loop-number l = l.numbers.items ++ numbers_from l.number (entries_of (drop l.number l.slots)) ≡ numbers_in (entries_of l.slots)
