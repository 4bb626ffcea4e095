use Rattle.std.proofs.Common.{get_or, below_more, refl, arith}
use Rattle.ssa_sane.specs.Sane.{IsAvailable}
use Rattle.ssa_sane.proofs.Checked.{all_index}
use Rattle.ssa_sane.proofs.blocks.Check.has_all.Goals as goal

pub loop-register-preserved : goal.loop-register-preserved
loop-register-preserved c = λ index seen.
    below_more (λ k. IsAvailable c.args.self.now.function.now c.args.block index (get_or c.args.used.now k 0)) c.loop-register.register-index (c.loop-register.invariant index seen)
    ((c.is_available.ensures index seen).0 c.if-not-is_available.false)

pub returns : goal.returns
returns c = λ index seen. (
  λ h. all_index (IsAvailable c.args.self.now.function.now c.args.block index) c.args.used.now (λ k l. c.loop-register.invariant index seen k (omega arith)),
  λ all. refl,
)
