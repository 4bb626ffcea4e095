use Rattle.std.proofs.Common.{sym, ◌∙◌, true≢false}
use Rattle.ssa_runnable.proofs.checking.interfaces_fit.Goals as goal

pub returns-then-not-fits_interface : goal.returns-then-not-fits_interface
returns-then-not-fits_interface c = (
  λ h. absurd (true≢false (sym h)),
  λ all. sym c.if-not-fits_interface.true ∙ c.fits_interface.ensures ∙ all (record { number = c.loop-number.number }),
)
