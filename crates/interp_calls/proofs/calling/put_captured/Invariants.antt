use Rattle.std.proofs.Common.{◌≡◌, ◌+◌, map, take}
use Rattle.go_value.specs.Values.{pointer}
use Rattle.interp_state.specs.States.{slots_of}
use Rattle.plan_mean.specs.Slots.{with_slots_from}
use Rattle.interp_calls.proofs.calling.put_captured.Given as goal

abbrev pub invariant-loop-address : goal.invariant-loop-address
invariant-loop-address l =
    (slots_of l.machine
    ≡ with_slots_from l.first (map pointer (take l.address-index l.captured)) (slots_of l.initial.machine))
    × ((l.slot ≡ l.first + l.address-index)
    × (l.machine ≡ record (l.initial.machine) {
      current = record (l.initial.machine.current) { stack = l.machine.current.stack };
    }))
