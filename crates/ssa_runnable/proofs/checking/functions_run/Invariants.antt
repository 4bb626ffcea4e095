use Rattle.std.proofs.Common.{◌≡◌, true, take}
use Rattle.ssa_runnable.specs.Tests.{functions_run}
use Rattle.ssa_runnable.proofs.checking.functions_run.Given as goal

abbrev pub invariant-loop-function : goal.invariant-loop-function
invariant-loop-function l = functions_run l.code (take l.function-index l.function-items) ≡ true
