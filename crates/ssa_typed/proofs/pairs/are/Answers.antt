use Rattle.std.proofs.Common.{arith, refl, sym, ◌∙◌}
use Rattle.ssa_typed.specs.Operands.{is_operand}
use Rattle.ssa_typed.proofs.Pairwise.{pairs-turn, pairs-fail}
use Rattle.ssa_typed.proofs.pairs.are.Goals as goal

pub returns-then-not-is : goal.returns-then-not-is
returns-then-not-is c =
    sym (pairs-fail (is_operand c.args.frame.code.now c.args.frame.function.now) c.args.operands.now c.args.types.now c.loop-index.index c.index-operands-index.result _ _ _
    (omega arith) (omega arith) c.index-operands-index.is refl (sym c.is.ensures ∙ c.if-not-is.true))

pub loop-index-preserved : goal.loop-index-preserved
loop-index-preserved c =
    pairs-turn (is_operand c.args.frame.code.now c.args.frame.function.now) c.args.operands.now c.args.types.now c.loop-index.index c.index-operands-index.result _ _ _
    (omega arith) (omega arith) c.index-operands-index.is refl (sym c.is.ensures ∙ c.if-not-is.false) c.loop-index.invariant
