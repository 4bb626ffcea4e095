use Rattle.std.proofs.Common.{◌≡◌, true, take}
use Rattle.ssa_runnable.specs.Tests.{externals_fit}
use Rattle.ssa_runnable.proofs.externals.externals_fit.Given as goal

abbrev pub invariant-loop-function : goal.invariant-loop-function
invariant-loop-function l = externals_fit l.types (take l.function-index l.functions) ≡ true
