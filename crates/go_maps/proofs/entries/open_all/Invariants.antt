use Rattle.std.proofs.Common.{◌≡◌}
use Rattle.go_maps.proofs.Kept.{opened}
use Rattle.go_maps.proofs.entries.open_all.Given as goal

abbrev pub invariant-loop-slot : goal.invariant-loop-slot
invariant-loop-slot l = l.slots ≡ opened l.slot-index l.initial.slots
