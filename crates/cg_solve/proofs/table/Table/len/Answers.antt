use Rattle.std.proofs.Common.{arith}
use Rattle.cg_solve.proofs.Rows.{row_in-past}
use Rattle.cg_solve.proofs.table.Table.len.Goals as goal

pub returns : goal.returns
returns g c = λ k h. row_in-past c.args.self.now.rows.items k (omega (arith, c.args.self.now.rows.ok.0))
