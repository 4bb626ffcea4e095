use Rattle.ssa_sane.proofs.Checked.{instr_iff, end_wrong}
use Rattle.ssa_sane.proofs.blocks.Check.fits.Goals as goal

pub returns : goal.returns
returns c = λ index seen phis last.
    instr_iff c.args.self.now.function.now c.args.block index c.args.instr.now c.args.is_last c.in_ok-fits.fits (c.fits_end.ensures.0 c.if-not-fits_end.false) last (c.in_ok-fits.ensures index seen phis)

pub returns-then-not-fits_end : goal.returns-then-not-fits_end
returns-then-not-fits_end c = λ index seen phis last.
    end_wrong c.args.self.now.function.now c.args.block index c.args.instr.now c.args.is_last c.fits_end.result c.fits_end.ensures last c.if-not-fits_end.true
