use Rattle.std.proofs.Common.{sym, ◌∙◌}
use Rattle.ssa_sane.proofs.Checked.{same_test}
use Rattle.ssa_sane.proofs.blocks.Check.fits_end.Goals as goal

pub returns-then-is_end-is_last : goal.returns-then-is_end-is_last
returns-then-is_end-is_last c = (λ h. (sym c.is_end.ensures ∙ same_test c.is_end.result c.args.is_last c.if-is_end-is_last.true, c.has_targets.ensures.0 h), λ p. c.has_targets.ensures.1 p.1)
