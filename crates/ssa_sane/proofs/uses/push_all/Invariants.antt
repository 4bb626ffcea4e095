use Rattle.std.proofs.Common.{◌≡◌, ◌++◌, take}
use Rattle.ssa_ir.specs.Uses.{registers_in_all}
use Rattle.ssa_sane.proofs.uses.push_all.Given as goal

abbrev pub invariant-loop-operand : goal.invariant-loop-operand
invariant-loop-operand l = l.used.items ≡ l.initial.used.items ++ registers_in_all (take l.operand-index l.operands)
