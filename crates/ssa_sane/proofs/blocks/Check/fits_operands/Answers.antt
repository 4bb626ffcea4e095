use Rattle.std.proofs.Common.{◌++◌, ◌∙◌, sym, ap, List, ℕ}
use Rattle.std.specs.Option.{option_copied}
use Rattle.ssa_ir.specs.Uses.{used_registers}
use Rattle.ssa_sane.proofs.Checked.{operands_none}
use Rattle.ssa_sane.proofs.blocks.Check.fits_operands.Goals as goal

pub returns-in_ok-push_used-in-None : goal.returns-in_ok-push_used-in-None
returns-in_ok-push_used-in-None c = λ index seen phis.
    operands_none c.args.self.now.function.now c.args.block index c.args.op.now c.as_slice.result.now c.has_all.result
    (sym c.edges_of.ensures ∙ ap option_copied c.in-None.is)
    (c.as_slice.ensures.value ∙ (c.in_ok-push_used-in-None.ensures ∙ ap (λ (l : List ℕ). l ++ used_registers c.args.op.now) c.clear.ensures.items))
    (c.has_all.ensures index seen)
