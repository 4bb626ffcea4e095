use Rattle.std.proofs.Common.{ap, ◌∙◌}
use Rattle.cg_solve.specs.Tables.{row_in}
use Rattle.cg_solve.proofs.Rows.{row_in-grown}
use Rattle.cg_solve.proofs.table.Table.cover.Goals as goal

pub loop-alloc-preserved : goal.loop-alloc-preserved
loop-alloc-preserved g c = λ k. ap (λ vs. row_in vs k) c.in_ok-push.ensures.items ∙ (row_in-grown c.loop-alloc.self.rows.items c.new.result k c.new.ensures.items ∙ c.loop-alloc.invariant k)
