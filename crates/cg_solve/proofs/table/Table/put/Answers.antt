use Rattle.std.proofs.Common.{ap, ◌∙◌, ◌++◌, ◌∷◌, [], Vec, Global}
use Rattle.std.specs.Prelude.{◌==◌}
use Rattle.cg_solve.specs.Lists.{when}
use Rattle.cg_solve.proofs.Rows.{row_in-put, row_in-at}
use Rattle.cg_solve.proofs.table.Table.put.Goals as goal

pub returns : goal.returns
returns g c = λ k.
    let old = row_in-at c.cover.new.self.rows.items c.args.key c.index_mut.result.now c.in_ok-cover.ensures.covered in
    row_in-put c.cover.new.self.rows.items c.args.key c.push.new.self c.args.item k c.in_ok-cover.ensures.covered
    (c.in_ok-push.ensures.items ∙ ap (λ l. l ++ c.args.item ∷ []) (ap (λ (v : Vec g.row.T.Denot Global). v.items) c.index_mut.ensures.value ∙ old))
    ∙ ap (λ l. l ++ when (c.args.key == k) c.args.item) (c.in_ok-cover.ensures.same k)
