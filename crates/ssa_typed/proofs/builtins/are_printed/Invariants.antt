use Rattle.std.proofs.Common.{◌≡◌, true, take}
use Rattle.std.specs.List.{list_all}
use Rattle.ssa_typed.specs.Calls.{is_printed}
use Rattle.ssa_typed.proofs.builtins.are_printed.Given as goal

abbrev pub invariant-loop-argument : goal.invariant-loop-argument
invariant-loop-argument l = list_all (is_printed l.frame.code.now l.frame.function.now) (take l.argument-index l.arguments) ≡ true
