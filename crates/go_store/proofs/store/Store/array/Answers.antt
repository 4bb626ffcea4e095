use Rattle.std.proofs.Common.{◌∙◌, ap, sym, slice_get}
use Rattle.go_store.proofs.Reached.{got}
use Rattle.go_store.proofs.Changed.{loaded_from}
use Rattle.go_store.proofs.store.Store.array.Goals as goal

pub returns-clause-array : goal.returns-clause-array
returns-clause-array c =
    loaded_from c.args.self.now c.args.at.now c.in_ok-at.field-0 c.in_ok-first.steps.now c.in_ok-first.first.now c.in_ok-cell.cell.now
    c.in_ok-at.was (sym c.as_slice.ensures ∙ c.in_ok-first.ensures.cases.0)
    (ap (λ xs. slice_get xs c.in_ok-at.field-0.number) (sym c.deref.ensures.value) ∙ got _ c.in_ok-at.field-0.number c.in_ok-cell.cell.now c.in_ok-cell.ensures.lookup.3.0 c.in_ok-cell.ensures.lookup.1)
    ∙ c.in_ok-part.ensures
