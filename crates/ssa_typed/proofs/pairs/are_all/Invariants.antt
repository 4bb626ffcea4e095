use Rattle.std.proofs.Common.{◌≡◌, true, take}
use Rattle.std.specs.List.{list_all}
use Rattle.ssa_typed.specs.Operands.{is_operand}
use Rattle.ssa_typed.proofs.pairs.are_all.Given as goal

abbrev pub invariant-loop-edge : goal.invariant-loop-edge
invariant-loop-edge l = list_all (λ edge. is_operand l.frame.code.now l.frame.function.now edge.value l.of) (take l.edge-index l.edges) ≡ true
