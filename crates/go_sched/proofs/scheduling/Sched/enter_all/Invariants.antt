use Rattle.std.proofs.Common.{◌≡◌, map, drop}
use Rattle.go_sched.specs.Channels.{case_of}
use Rattle.go_sched.specs.Goroutines.{state_of, left_lists}
use Rattle.go_sched.specs.Operations.{all_entered}
use Rattle.go_sched.proofs.scheduling.Sched.enter_all.Given as goal

abbrev pub invariant-loop-index : goal.invariant-loop-index
invariant-loop-index l =
    (all_entered l.index (map case_of (drop l.index l.ops)) (state_of l.self) ≡ all_entered 0 (map case_of l.ops) (state_of l.initial.self))
    × ((left_lists (state_of l.initial.self).current (state_of l.self) ≡ left_lists (state_of l.initial.self).current (state_of l.initial.self))
    × ((state_of l.self).current ≡ (state_of l.initial.self).current))
