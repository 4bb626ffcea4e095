use Rattle.std.proofs.Common.{arith}
use Rattle.ssa_runnable.proofs.Nesting.{deeper_at}
use Rattle.ssa_runnable.proofs.zeros.deeper.Goals as goal

pub returns : goal.returns
returns c =
    deeper_at c.args.types.now c.args.known.now c.loop-number.all.items c.loop-number.number c.loop-number.invariant
    (omega (arith, c.len-number-end.ensures.value, c.loop-number-test.false)) c.len-number-end.ensures.counts
