use Rattle.std.proofs.Common.{◌≡◌, map, drop}
use Rattle.go_sched.specs.Channels.{chan_of}
use Rattle.go_sched.specs.Goroutines.{left_at}
use Rattle.go_sched.proofs.serving.forget_in.Given as goal

abbrev pub invariant-loop-chan : goal.invariant-loop-chan
invariant-loop-chan l = left_at l.goroutine.number (drop l.chan-index l.chans) (map chan_of l.channels) ≡ left_at l.goroutine.number l.chans (map chan_of l.initial.channels)
