use Rattle.std.proofs.Common.{◌≡◌, ◌+◌, ◌≤◌, map, drop, length}
use Rattle.go_sched.specs.Channels.{case_of}
use Rattle.go_sched.specs.Goroutines.{state_of}
use Rattle.go_sched.specs.Operations.{ready_from}
use Rattle.go_sched.proofs.scheduling.Sched.count_ready.Given as goal

abbrev pub invariant-loop-op : goal.invariant-loop-op
invariant-loop-op l =
    (l.count + length (ready_from l.op-index (state_of l.self) (map case_of (drop l.op-index l.ops))) ≡ length (ready_from 0 (state_of l.self) (map case_of l.ops)))
    × (l.count ≤ l.op-index)
