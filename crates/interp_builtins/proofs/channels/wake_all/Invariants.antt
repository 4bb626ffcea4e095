use Rattle.std.proofs.Common.{◌≡◌, length, map}
use Rattle.std.specs.Vec.Iter.{into_iter_items, into_iter_len}
use Rattle.go_sched.specs.Operations.{woken_of}
use Rattle.interp_state.specs.Machines.{machine_of}
use Rattle.plan_mean.specs.Channels.{all_woken}
use Rattle.interp_builtins.proofs.channels.wake_all.Given as goal

abbrev pub invariant-loop-wake : goal.invariant-loop-wake
invariant-loop-wake l = record {
  woken : all_woken (map woken_of (into_iter_items l.wake-iterator)) (machine_of l.machine)
      ≡ all_woken (map woken_of (into_iter_items l.initial.wake-iterator)) (machine_of l.initial.machine);
  others : l.machine ≡ record l.initial.machine { goroutines = l.machine.goroutines };
  counted : into_iter_len l.wake-iterator ≡ length (into_iter_items l.wake-iterator);
}
