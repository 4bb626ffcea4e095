use Rattle.std.proofs.Common.{◌≤◌}
use Rattle.go_interp.proofs.Driven.{Goes}
use Rattle.go_interp.specs.Output.{HasWritten}
use Rattle.go_interp.proofs.running.drive.Given as goal

-- what was written so far, and where the machine has come
abbrev pub invariant-loop : goal.invariant-loop
invariant-loop g l =
    HasWritten (g.O.Sink.written l.initial.out) (g.O.Sink.written l.out)
    × ((g.O.Sink.faults l.initial.out ≤ g.O.Sink.faults l.out)
    × Goes l.initial.machine l.machine (g.O.Sink.written l.initial.out) (g.O.Sink.written l.out))
