use Rattle.std.proofs.Common.{◌≤◌, drop, length}
use Rattle.interp_builtins.specs.Recovered.{AreWrappers}
use Rattle.interp_builtins.proofs.recovering.first_below.Given as goal

abbrev pub invariant-loop-place : goal.invariant-loop-place
invariant-loop-place l = record { within : l.place ≤ length l.frames; passed : AreWrappers (drop l.place l.frames) }

abbrev pub decreases-loop-place : goal.decreases-loop-place
decreases-loop-place l = l.place
