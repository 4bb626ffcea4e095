use Rattle.std.proofs.Common.{arith}
use Rattle.ssa_typed.proofs.Places.{typed-more, given-more, typed-all}
use Rattle.ssa_typed.proofs.checking.first_in_block.Goals as goal

pub loop-index-preserved : goal.loop-index-preserved
loop-index-preserved c = record {
  typed =
      typed-more c.args.frame.code.now c.args.frame.function.now c.args.given.now.keys c.loop-index.given.keys c.args.instrs.now c.loop-index.index c.index-instrs-index.result _
      c.index-instrs-index.is c.loop-index.invariant.given (c.in_ok-fits_instr.ensures.typed.0 c.if-not-branch.false) c.loop-index.invariant.typed;
  given =
      given-more c.args.frame.code.now c.args.frame.function.now c.args.given.now.keys c.loop-index.given.keys _ c.args.instrs.now c.loop-index.index c.index-instrs-index.result _
      (omega arith) c.index-instrs-index.is c.loop-index.invariant.given (c.in_ok-fits_instr.ensures.given c.if-not-branch.false);
}

pub returns : goal.returns
returns c =
    typed-all c.args.frame.code.now c.args.frame.function.now c.args.given.now.keys c.loop-index.given.keys c.args.instrs.now c.loop-index.index
    (omega arith) c.loop-index.invariant.given c.loop-index.invariant.typed
