use Rattle.ssa_sane.specs.Checks.{HasSeen, AreRightBelow}
use Rattle.ssa_sane.proofs.checking.first_insane.Given as goal

abbrev pub invariant-loop-number : goal.invariant-loop-number
invariant-loop-number l = record {
  seen : HasSeen l.function l.number 0 l.seen;
  right : AreRightBelow l.function l.number;
}
