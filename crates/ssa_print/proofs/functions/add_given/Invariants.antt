use Rattle.std.proofs.Common.{◌≡◌, take}
use Rattle.ssa_print.specs.Functions.{numbering_in}
use Rattle.ssa_print.proofs.functions.add_given.Given as goal

abbrev pub invariant-loop-instr : goal.invariant-loop-instr
invariant-loop-instr l = l.given.keys ≡ numbering_in l.fn.given.keys (take l.instr-index l.instrs)
