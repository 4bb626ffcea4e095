use Rattle.cg_solve.specs.Tables.{row}
use Rattle.cg_vta.specs.Passing.{receiver_way}
use Rattle.cg_vta.specs.Rows.{called_row}
use Rattle.cg_vta.proofs.Rowed.{Below}
use Rattle.cg_vta.proofs.ways.receivers.Given as goal

abbrev pub invariant-loop-group : goal.invariant-loop-group
invariant-loop-group l = Below (called_row l.called (row l.all.rows)) (receiver_way l.nodes) l.group l.ways.items
