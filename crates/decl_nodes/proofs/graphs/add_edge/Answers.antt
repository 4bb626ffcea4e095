use Rattle.std.proofs.Common.{◌∙◌, ◌++◌, ◌∷◌, ◌<◌, [], ap, length, arith, Vec, Global, ℕ}
use Rattle.std.proofs.Math.ListN.{set}
use Rattle.decl_nodes.proofs.Rows.{rows_of, rows_set, row_of, set_back, on_err}
use Rattle.decl_nodes.proofs.graphs.add_edge.Goals as goal

pub returns-in_err-push-clause-err : goal.returns-in_err-push-clause-err
returns-in_err-push-clause-err c =
    let less : c.args.from < length c.args.graph.now.items = omega arith in
    on_err c.from_residual.result
    (set_back c.args.graph.now.items c.args.from c.push.new.self c.index_mut.result.now less (c.in_err-push.ensures.items ∙ ap (λ (v : Vec ℕ Global). v.items) c.index_mut.ensures.value))

pub returns-in_ok-push-clause-added : goal.returns-in_ok-push-clause-added
returns-in_ok-push-clause-added c =
    let rows = c.args.graph.now.items in
    let less : c.args.from < length rows = omega arith in
    rows_set rows c.args.from c.push.new.self
    ∙ ap (λ l. set (rows_of rows) c.args.from l)
    (c.in_ok-push.ensures.items ∙ ap (λ (v : Vec ℕ Global). v.items ++ c.args.to ∷ []) c.index_mut.ensures.value ∙ ap (λ l. l ++ c.args.to ∷ []) (row_of rows c.args.from c.index_mut.result.now less))
