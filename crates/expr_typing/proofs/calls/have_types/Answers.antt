use Rattle.std.proofs.Common.{arith, refl, sym, ◌∙◌}
use Rattle.expr_typing.specs.Trees.{has_type}
use Rattle.expr_typing.proofs.Pairwise.{pairs-turn, pairs-fail}
use Rattle.expr_typing.proofs.calls.have_types.Goals as goal

pub returns-then-not-has_type : goal.returns-then-not-has_type
returns-then-not-has_type c =
    sym (pairs-fail has_type c.args.exprs.now c.args.types.now c.loop-index.index c.index-exprs-index.result _ _ _
    (omega arith) (omega arith) c.index-exprs-index.is refl (sym c.has_type.ensures ∙ c.if-not-has_type.true))

pub loop-index-preserved : goal.loop-index-preserved
loop-index-preserved c =
    pairs-turn has_type c.args.exprs.now c.args.types.now c.loop-index.index c.index-exprs-index.result _ _ _
    (omega arith) (omega arith) c.index-exprs-index.is refl (sym c.has_type.ensures ∙ c.if-not-has_type.false) c.loop-index.invariant
