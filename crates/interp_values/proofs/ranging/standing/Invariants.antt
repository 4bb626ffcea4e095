use Rattle.std.proofs.Common.{◌≡◌, ◌++◌, drop}
use Rattle.std.specs.List.{filter}
use Rattle.go_store.specs.Stores.{stored}
use Rattle.plan_mean.specs.Ranges.{is_standing}
use Rattle.ssa_mean.specs.MapCalls.{entries_of}
use Rattle.interp_values.proofs.ranging.standing.Given as goal

abbrev pub invariant-loop-number : goal.invariant-loop-number
invariant-loop-number l =
    l.standing.items ++ filter (is_standing (entries_of (stored l.machine.store) l.map)) (drop l.number-index l.left)
    ≡ filter (is_standing (entries_of (stored l.machine.store) l.map)) l.left
