use Rattle.std.proofs.Common.{ap, List}
use Rattle.go_value.specs.Values.{Val}
use Rattle.go_store.specs.Arrays.{with_run}
use Rattle.go_store.specs.Cells.{held, updated}
use Rattle.go_store.specs.Stores.{stored}
use Rattle.go_store.proofs.Reached.{got, on_ok, on_err}
use Rattle.go_store.proofs.Changed.{cell_changed, item_same}
use Rattle.go_store.proofs.store.Store.write_run.Goals as goal

pub returns-in-Some-clause-ok : goal.returns-in-Some-clause-ok
returns-in-Some-clause-ok c = on_ok c.write_run.result c.write_run.ensures.ok (λ same.
    ap (λ (vs : List Val). record (stored c.args.self.now) { cells = vs })
    (cell_changed (λ it. updated (with_run (held c.args.elements.now) c.args.first) it c.args.steps.now) c.args.self.now.cells.items c.args.cell.number c.in-Some.cell.now c.write_run.new.cell (got c.args.self.now.cells.items c.args.cell.number c.in-Some.cell.now c.in-Some.ensures.item.3.0 c.in-Some.ensures.item.1) same))

pub returns-in-Some-clause-err : goal.returns-in-Some-clause-err
returns-in-Some-clause-err c = on_err c.write_run.result c.write_run.ensures.err (λ same.
    ap (λ (vs : List Val). record (stored c.args.self.now) { cells = vs })
    (item_same c.args.self.now.cells.items c.args.cell.number c.in-Some.cell.now c.write_run.new.cell (got c.args.self.now.cells.items c.args.cell.number c.in-Some.cell.now c.in-Some.ensures.item.3.0 c.in-Some.ensures.item.1) same))
