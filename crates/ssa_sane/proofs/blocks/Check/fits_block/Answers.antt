use Rattle.std.proofs.Common.{◌≡◌, ◌↔◌, ◌∙◌, sym, true, List, subst}
use Rattle.go_base.specs.declared.ids.BlockId.{BlockId}
use Rattle.ssa_sane.specs.Sane.{ArePreds, numbers_of}
use Rattle.ssa_sane.proofs.Checked.{block_iff, block_never}
use Rattle.ssa_sane.proofs.blocks.Check.fits_block.Goals as goal

pub returns-then-not-may_stand : goal.returns-then-not-may_stand
returns-then-not-may_stand c =
    block_never c.args.self.now.function.now c.args.self.now.preds.now c.args.self.now.places.now c.requires c.args.number c.args.block.now c.may_stand.result c.may_stand.ensures c.if-not-may_stand.true

pub returns : goal.returns
returns c =
    block_iff c.args.self.now.function.now c.args.self.now.preds.now c.args.self.now.places.now c.requires c.args.number c.args.block.now c.in_ok-fits.fits
    (sym c.may_stand.ensures ∙ c.if-not-may_stand.false)
    (subst (λ (l : List BlockId). (c.in_ok-fits.fits ≡ true) ↔ ArePreds c.args.self.now.function.now c.args.number (numbers_of l)) c.as_slice.ensures c.in_ok-fits.ensures)
