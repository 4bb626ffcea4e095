use Rattle.std.proofs.Common.{◌≡◌, length, reverse}
use Rattle.go_store.specs.Stores.{stored}
use Rattle.plan_mean.specs.Ranges.{first_drawn}
use Rattle.ssa_mean.specs.MapCalls.{entries_of}
use Rattle.interp_values.proofs.ranging.first_entry.Given as goal

abbrev pub invariant-loop-number : goal.invariant-loop-number
invariant-loop-number l =
    first_drawn (entries_of (stored l.machine.store) l.map) (reverse l.left.items)
    ≡ first_drawn (entries_of (stored l.machine.store) l.map) (reverse l.initial.left.items)

abbrev pub decreases-loop-number : goal.decreases-loop-number
decreases-loop-number l = length l.left.items
