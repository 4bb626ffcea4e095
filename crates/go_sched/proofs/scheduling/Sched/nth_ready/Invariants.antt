use Rattle.std.proofs.Common.{◌≡◌, map, drop}
use Rattle.std.specs.Prelude.{slice_get}
use Rattle.go_sched.specs.Channels.{case_of}
use Rattle.go_sched.specs.Goroutines.{state_of}
use Rattle.go_sched.specs.Operations.{ready_from}
use Rattle.go_sched.proofs.scheduling.Sched.nth_ready.Given as goal

abbrev pub invariant-loop-index : goal.invariant-loop-index
invariant-loop-index l = slice_get (ready_from l.index (state_of l.self) (map case_of (drop l.index l.ops))) l.left ≡ slice_get (ready_from 0 (state_of l.self) (map case_of l.ops)) l.before
