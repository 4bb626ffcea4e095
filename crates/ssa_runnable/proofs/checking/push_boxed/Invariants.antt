use Rattle.std.proofs.Common.{◌≡◌, ◌++◌, take}
use Rattle.ssa_runnable.specs.Boxed.{boxed_functions}
use Rattle.ssa_runnable.proofs.checking.push_boxed.Given as goal

abbrev pub invariant-loop-function : goal.invariant-loop-function
invariant-loop-function l =
    l.boxed.items ≡ l.initial.boxed.items ++ boxed_functions l.code (take l.function-index l.function-items)
