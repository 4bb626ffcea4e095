use Rattle.cg_solve.specs.Tables.{row}
use Rattle.cg_vta.specs.Choosing.{group_rule}
use Rattle.cg_vta.proofs.Rowed.{Below}
use Rattle.cg_vta.proofs.called.group_rules.Given as goal

abbrev pub invariant-loop-group : goal.invariant-loop-group
invariant-loop-group l = Below (row l.all.rows) group_rule l.group l.rules.items
