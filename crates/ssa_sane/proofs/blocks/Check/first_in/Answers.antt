use Rattle.std.proofs.Common.{◌≡◌, ◌↔◌, ◌+◌, sym, true, Bool, subst, arith}
use Rattle.ssa_sane.specs.Checks.{ArePhisBefore}
use Rattle.ssa_sane.proofs.Checked.{stands_at, last_of, first_wrong, seen_more, phis_more, right_more}
use Rattle.ssa_sane.proofs.blocks.Check.first_in.Goals as goal

pub returns-then-not-fits-clause-first : goal.returns-then-not-fits-clause-first
returns-then-not-fits-clause-first c =
    let f = c.args.self.now.function.now in
    let at = c.index-instrs-index.result in
    let i = c.loop-index.index in
    let stands = stands_at c.args.instrs.now _ i at _ c.requires.instrs (omega arith) c.index-instrs-index.is in
    let last = last_of c.args.instrs.now _ i c.is_last-is_last.result c.requires.instrs c.is_last-is_last.ensures in
    first_wrong f c.args.number i at stands c.in_ok-fits.fits (c.in_ok-fits.ensures i c.loop-index.invariant.seen c.loop-index.invariant.phis last) c.if-not-fits.true c.loop-index.invariant.right

pub loop-index-preserved : goal.loop-index-preserved
loop-index-preserved c =
    let f = c.args.self.now.function.now in
    let at = c.index-instrs-index.result in
    let i = c.loop-index.index in
    let stands = stands_at c.args.instrs.now _ i at _ c.requires.instrs (omega arith) c.index-instrs-index.is in
    let last = last_of c.args.instrs.now _ i c.is_last-is_last.result c.requires.instrs c.is_last-is_last.ensures in
    let fits = c.in_ok-fits.ensures i c.loop-index.invariant.seen c.loop-index.invariant.phis last in
    record {
      seen = seen_more f c.args.number i at stands c.loop-index.seen c.see.new.seen c.in_ok-see.ensures c.loop-index.invariant.seen;
      phis = subst (λ (b : Bool). (b ≡ true) ↔ ArePhisBefore f c.args.number (i + 1)) (sym c.are_phis-phis.ensures) (phis_more f c.args.number i at c.loop-index.phis stands c.loop-index.invariant.phis);
      right = right_more f c.args.number i at stands (fits.0 c.if-not-fits.false) c.loop-index.invariant.right;
    }

pub returns-clause-first : goal.returns-clause-first
returns-clause-first c = λ instr at l e. c.loop-index.invariant.right instr at (omega arith) e
