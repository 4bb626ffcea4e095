use Rattle.std.proofs.Common.{◌∙◌, sym}
use Rattle.go_store.specs.Cells.{held}
use Rattle.go_store.specs.Stores.{stored}
use Rattle.go_store.proofs.Reached.{on_ok}
use Rattle.go_store.proofs.Changed.{run_written}
use Rattle.go_store.proofs.store.Store.write_elements.Goals as goal

pub returns-in-Some-Some-clause-ok : goal.returns-in-Some-Some-clause-ok
returns-in-Some-Some-clause-ok c = on_ok c.write_run.result c.write_run.ensures.ok (λ same.
    same ∙ run_written (held c.args.elements.now) (stored c.args.self.now) c.args.at.now c.in-Some-Some.cell c.in-Some-Some.steps.now c.in-Some-Some.first.now c.in-Some-Some.is-0 (sym c.as_slice.ensures ∙ c.in-Some-Some.ensures.cases.0))
