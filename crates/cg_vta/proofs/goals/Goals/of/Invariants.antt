use Rattle.cg_solve.specs.Tables.{row}
use Rattle.cg_vta.specs.Asks.{IsKept}
use Rattle.cg_vta.proofs.Standings.{GoalsBelow}
use Rattle.cg_vta.proofs.goals.Goals.of.Given as goal

abbrev pub invariant-loop-group : goal.invariant-loop-group
invariant-loop-group l = record {
  kept : IsKept l.goals;
  goals : GoalsBelow (row l.all.rows) l.group l.goals;
}
