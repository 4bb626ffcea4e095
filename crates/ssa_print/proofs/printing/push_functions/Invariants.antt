use Rattle.std.proofs.Common.{take}
use Rattle.ssa_print.specs.Codes.{Shows}
use Rattle.ssa_print.proofs.printing.push_functions.Given as goal

abbrev pub invariant-loop-function : goal.invariant-loop-function
invariant-loop-function l = Shows l.setting l.show.functions l.show.available (take l.function-index l.functions) l.initial.text.items l.text.items
