use Rattle.std.proofs.Common.{◌≡◌, ◌+◌, length}
use Rattle.interp_calls.specs.Ways.{on_way}
use Rattle.interp_state.specs.States.{slots_of}
use Rattle.plan_mean.specs.Slots.{with_slots_from}
use Rattle.interp_calls.proofs.calling.put_arguments.Given as goal

-- those on their way, put into the slots as they are now, are those that were
abbrev pub invariant-loop : goal.invariant-loop
invariant-loop l =
    (with_slots_from 0 (on_way l.machine) (slots_of l.machine)
    ≡ with_slots_from 0 (on_way l.initial.machine) (slots_of l.initial.machine))
    × ((l.slot ≡ length l.machine.waiting.items)
    × ((length l.machine.waiting.items + l.counter ≡ length l.initial.machine.waiting.items)
    × (l.machine ≡ record (l.initial.machine) {
      current = record (l.initial.machine.current) { stack = l.machine.current.stack };
      waiting = l.machine.waiting;
    })))
