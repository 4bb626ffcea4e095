use Rattle.std.proofs.Common.{◌∙◌, ◌++◌, ◌∷◌, [], ap}
use Rattle.std.proofs.Math.ListN.{set}
use Rattle.init_order.proofs.RowLaws.{rows_of, rows_set, row_of, set_back, on_err}
use Rattle.init_order.proofs.rows.push_number.Goals as goal

pub returns-in_err-push-clause-err : goal.returns-in_err-push-clause-err
returns-in_err-push-clause-err c =
    on_err c.from_residual.result
    (set_back c.args.rows.now c.args.row c.push.new.self c.index-rows-row.result c.requires c.in_err-push.ensures.items)

pub returns-clause-pushed : goal.returns-clause-pushed
returns-clause-pushed c =
    let rows = c.args.rows.now in
    rows_set rows c.args.row c.push.new.self
    ∙ ap (λ l. set (rows_of rows) c.args.row l)
    (c.in_ok-push.ensures.items ∙ ap (λ l. l ++ c.args.number ∷ []) (row_of rows c.args.row c.index-rows-row.result c.requires))
