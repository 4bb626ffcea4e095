use Rattle.std.proofs.Common.{◌≡◌, true, take}
use Rattle.std.specs.List.{list_all}
use Rattle.ssa_typed.specs.Operands.{is_operand}
use Rattle.ssa_typed.proofs.pairs.are_of.Given as goal

abbrev pub invariant-loop-operand : goal.invariant-loop-operand
invariant-loop-operand l = list_all (λ operand. is_operand l.frame.code.now l.frame.function.now operand l.of) (take l.operand-index l.operands) ≡ true
