use Rattle.std.proofs.Common.{◌≡◌, map, drop}
use Rattle.go_sched.specs.Operations.{goes_on, woken_of}
use Rattle.go_sched.proofs.serving.is_woken.Given as goal

abbrev pub invariant-loop-wake : goal.invariant-loop-wake
invariant-loop-wake l = goes_on l.goroutine (map woken_of (drop l.wake-index l.wakes)) ≡ goes_on l.goroutine (map woken_of l.wakes)
