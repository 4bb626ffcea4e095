use Rattle.std.proofs.Common.{◌≡◌, List, Some, map, take}
use Rattle.go_value.specs.Values.{Val}
use Rattle.interp_calls.specs.Ways.{plain}
use Rattle.interp_state.specs.Machines.{machine_of}
use Rattle.plan_mean.specs.Operands.{look_at_all}
use Rattle.interp_calls.proofs.calling.tuple.Given as goal

abbrev pub invariant-loop-value : goal.invariant-loop-value
invariant-loop-value l =
    (its : List Val)
    × ((look_at_all (machine_of l.machine) (take l.value-index l.values) ≡ Some its)
    × (l.parts.items ≡ map plain its))
