use Rattle.cg_solve.specs.LeastSets.{IsClear, search_of}
use Rattle.cg_solve.specs.Tables.{row}
use Rattle.cg_vta.proofs.Following.{FollowsBelow}
use Rattle.cg_vta.proofs.facts.follow_values.Given as goal

abbrev pub invariant-loop-value : goal.invariant-loop-value
invariant-loop-value l = record {
  clear : IsClear l.rules (search_of l.search);
  follows : FollowsBelow l.rules (row l.seeds) l.nodes l.values l.value (row l.facts);
}
