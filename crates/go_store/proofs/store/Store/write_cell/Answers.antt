use Rattle.std.proofs.Common.{ap, sym, subst, IsSome, OnOk, List}
use Rattle.go_value.specs.Values.{Val}
use Rattle.go_store.specs.Cells.{held, written_at}
use Rattle.go_store.specs.Stores.{stored}
use Rattle.go_store.proofs.Reached.{got, on_ok, on_err}
use Rattle.go_store.proofs.Changed.{cell_changed, item_same, part_at}
use Rattle.go_store.proofs.store.Store.write_cell.Goals as goal

pub returns-in-Some-clause-ok : goal.returns-in-Some-clause-ok
returns-in-Some-clause-ok c = on_ok c.write.result c.write.ensures.ok (λ same.
    ap (λ (vs : List Val). record (stored c.args.self.now) { cells = vs })
    (cell_changed (λ it. written_at (held c.args.new.now) it c.args.steps.now) c.args.self.now.cells.items c.args.cell.number c.in-Some.cell.now c.write.new.cell (got c.args.self.now.cells.items c.args.cell.number c.in-Some.cell.now c.in-Some.ensures.item.3.0 c.in-Some.ensures.item.1) same))

pub returns-in-Some-clause-there : goal.returns-in-Some-clause-there
returns-in-Some-clause-there c =
    subst (λ o. OnOk c.write.result (IsSome o)) (sym (part_at c.args.self.now.cells.items c.args.cell.number c.in-Some.cell.now c.args.steps.now (got c.args.self.now.cells.items c.args.cell.number c.in-Some.cell.now c.in-Some.ensures.item.3.0 c.in-Some.ensures.item.1))) c.write.ensures.there

pub returns-in-Some-clause-err : goal.returns-in-Some-clause-err
returns-in-Some-clause-err c = on_err c.write.result c.write.ensures.err (λ same.
    ap (λ (vs : List Val). record (stored c.args.self.now) { cells = vs })
    (item_same c.args.self.now.cells.items c.args.cell.number c.in-Some.cell.now c.write.new.cell (got c.args.self.now.cells.items c.args.cell.number c.in-Some.cell.now c.in-Some.ensures.item.3.0 c.in-Some.ensures.item.1) same))
