use Rattle.std.proofs.Common.{◌≡◌, ◌↔◌, true}
use Rattle.ssa_sane.specs.Checks.{HasSeen, ArePhisBefore, AreInstrsBelow}
use Rattle.ssa_sane.proofs.blocks.Check.first_in.Given as goal

abbrev pub invariant-loop-index : goal.invariant-loop-index
invariant-loop-index l = record {
  seen : HasSeen l.self.function.now l.number l.index l.seen;
  phis : (l.phis ≡ true) ↔ ArePhisBefore l.self.function.now l.number l.index;
  right : AreInstrsBelow l.self.function.now l.number l.index;
}
