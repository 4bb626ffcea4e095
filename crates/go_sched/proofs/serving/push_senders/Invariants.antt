use Rattle.std.proofs.Common.{◌≡◌, map, drop}
use Rattle.go_sched.specs.Channels.{sending_of}
use Rattle.go_sched.specs.Operations.{closed_sender, with_firsts, woken_of}
use Rattle.go_sched.proofs.serving.push_senders.Given as goal

abbrev pub invariant-loop-sender : goal.invariant-loop-sender
invariant-loop-sender l = with_firsts (map closed_sender (map sending_of (drop l.sender-index l.senders))) (map woken_of l.wakes) ≡ with_firsts (map closed_sender (map sending_of l.senders)) (map woken_of l.initial.wakes)
