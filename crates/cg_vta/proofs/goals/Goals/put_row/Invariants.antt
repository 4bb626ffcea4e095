use Rattle.std.proofs.Common.{take}
use Rattle.cg_vta.specs.Asks.{IsKept}
use Rattle.cg_vta.proofs.Standings.{GoalsMore}
use Rattle.cg_vta.proofs.goals.Goals.put_row.Given as goal

abbrev pub invariant-loop-candidate : goal.invariant-loop-candidate
invariant-loop-candidate l = record {
  kept : IsKept l.fn.self → IsKept l.self;
  goals : IsKept l.fn.self → GoalsMore l.fn.self l.self l.group (take l.candidate-index l.candidates);
}
