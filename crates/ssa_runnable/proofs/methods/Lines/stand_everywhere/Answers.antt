use Rattle.std.proofs.Common.{arith, below_more, refl, sym, ◌∙◌, true≢false}
use Rattle.ssa_runnable.specs.Methods.{AllHave}
use Rattle.ssa_runnable.proofs.Runnable.{everywhere}
use Rattle.ssa_runnable.proofs.methods.Lines.stand_everywhere.Goals as goal

pub returns-then-not-stand_at : goal.returns-then-not-stand_at
returns-then-not-stand_at c = (
  λ h. absurd (true≢false (sym h)),
  λ all. sym c.if-not-stand_at.true ∙ c.stand_at.ensures.1 (all (record { number = c.loop-number.number })),
)

pub loop-number-preserved : goal.loop-number-preserved
loop-number-preserved c =
    below_more (λ k. AllHave c.args.self.now.code.now c.args.types.now (record { number = k })) c.loop-number.number
    c.loop-number.invariant (c.stand_at.ensures.0 c.if-not-stand_at.false)

pub returns : goal.returns
returns c = (
  λ h. everywhere c.args.self.now.code.now c.args.types.now c.loop-number.number
      (omega (arith, c.len-number-end.ensures.value, c.loop-number-test.false)) c.len-number-end.ensures.counts
      c.loop-number.invariant,
  λ all. refl,
)
