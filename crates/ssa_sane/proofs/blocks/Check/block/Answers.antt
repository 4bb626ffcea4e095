use Rattle.std.proofs.Common.{sym, ap, ◌∙◌, length, Option}
use Rattle.ssa_ir.specs.Blocks.{instrs_in}
use Rattle.ssa_ir.specs.declared.code.Block.{Block}
use Rattle.ssa_sane.proofs.Checked.{first_at_block, found_in, seen_next}
use Rattle.ssa_sane.proofs.blocks.Check.block.Goals as goal

pub returns-then-not-fits-clause-first : goal.returns-then-not-fits-clause-first
returns-then-not-fits-clause-first c =
    first_at_block c.args.self.now.function.now c.args.number c.args.block.now c.requires.stands c.in_ok-fits.fits c.in_ok-fits.ensures c.if-not-fits.true

pub returns-clause-first : goal.returns-clause-first
returns-clause-first c =
    found_in c.args.self.now.function.now c.requires.check.recovers c.args.number c.args.block.now c.requires.stands (c.in_ok-fits.ensures.0 c.if-not-fits.false)
    (length c.as_slice.result.now) (ap length (c.as_slice.ensures ∙ sym (ap (λ (o : Option Block). instrs_in o) c.requires.stands))) c.in_ok-found.found c.in_ok-found.ensures.first

pub returns-clause-seen : goal.returns-clause-seen
returns-clause-seen c = λ e. seen_next c.args.self.now.function.now c.args.number (length c.as_slice.result.now) c.first_in.new.seen (c.in_ok-found.ensures.seen e)
