use Rattle.std.proofs.Common.{◌≡◌, true, take}
use Rattle.std.specs.Cmp.Lexicographic.{pointwise}
use Rattle.ssa_typed.specs.Operands.{is_operand}
use Rattle.ssa_typed.proofs.pairs.are.Given as goal

abbrev pub invariant-loop-index : goal.invariant-loop-index
invariant-loop-index l = pointwise (is_operand l.frame.code.now l.frame.function.now) (take l.index l.operands) (take l.index l.types) ≡ true
