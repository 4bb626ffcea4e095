use Rattle.std.proofs.Common.{◌≡◌, map, drop}
use Rattle.go_sched.specs.Operations.{closed_receiver, with_firsts, woken_of}
use Rattle.go_sched.proofs.serving.push_receivers.Given as goal

abbrev pub invariant-loop-receiver : goal.invariant-loop-receiver
invariant-loop-receiver l = with_firsts (map closed_receiver (drop l.receiver-index l.receivers)) (map woken_of l.wakes) ≡ with_firsts (map closed_receiver l.receivers) (map woken_of l.initial.wakes)
