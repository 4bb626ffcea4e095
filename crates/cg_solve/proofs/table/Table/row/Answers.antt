use Rattle.std.proofs.Common.{ap, ◌∙◌, sym, Vec, Global, arith}
use Rattle.cg_solve.proofs.Rows.{row_in-at, row_in-past}
use Rattle.cg_solve.proofs.table.Table.row.Goals as goal

pub returns-then-key-len : goal.returns-then-key-len
returns-then-key-len g c =
    c.as_slice.ensures.value ∙ (ap (λ (v : Vec g.row.T.Denot Global). v.items) c.index.ensures ∙ row_in-at c.args.self.now.rows.items c.args.key c.index.result.now (omega (arith, c.args.self.now.rows.ok.0)))

pub returns-else-key-len : goal.returns-else-key-len
returns-else-key-len g c = sym (row_in-past c.args.self.now.rows.items c.args.key (omega (arith, c.args.self.now.rows.ok.0)))
