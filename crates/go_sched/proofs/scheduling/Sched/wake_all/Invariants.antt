use Rattle.std.proofs.Common.{◌≡◌, map, drop}
use Rattle.go_sched.specs.Goroutines.{state_of}
use Rattle.go_sched.specs.Operations.{all_gone_on, woken_of}
use Rattle.go_sched.proofs.scheduling.Sched.wake_all.Given as goal

abbrev pub invariant-loop-wake : goal.invariant-loop-wake
invariant-loop-wake l =
    (all_gone_on (map woken_of (drop l.wake-index l.wakes)) (state_of l.self) ≡ all_gone_on (map woken_of l.wakes) (state_of l.initial.self))
    × ((state_of l.self).goroutines ≡ (state_of l.initial.self).goroutines)
