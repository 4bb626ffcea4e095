use Rattle.std.proofs.Common.{◌≤◌, ◌-◌, length}
use Rattle.go_store.proofs.Spelled.{Follows}
use Rattle.go_store.proofs.conversions.code_points.Given as goal

abbrev pub invariant-loop-at : goal.invariant-loop-at
invariant-loop-at l = (l.at ≤ length l.bytes) × Follows l.bytes l.at l.runes.items

abbrev pub decreases-loop-at : goal.decreases-loop-at
decreases-loop-at l = length l.bytes - l.at
