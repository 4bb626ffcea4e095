use Rattle.std.proofs.Common.{◌≡◌, ◌∙◌, ap, sym, subst, Some, IfSome}
use Rattle.std.proofs.Common.{slice_get}
use Rattle.go_store.specs.Cells.{held}
use Rattle.go_store.proofs.Reached.{got, read_into}
use Rattle.go_store.proofs.parts.+part.Goals as goal

pub returns-in_ok-get-in-Many : goal.returns-in_ok-get-in-Many
returns-in_ok-get-in-Many t c =
    let at = c.in_ok-get-in-Many.field-0.now in
    let there = ap (λ xs. slice_get xs c.in-Some.step.now) (sym c.deref.ensures.value) ∙ got c.deref.result.now c.in-Some.step.now at c.in_ok-get-in-Many.ensures.lookup.3.0 c.in_ok-get-in-Many.ensures.lookup.1 in
    subst (λ o. IfSome c.part.result (λ part. o ≡ Some (held part.now))) (sym (read_into c.args.cell.now c.args.steps.now c.in-Many.places c.in-Some.step.now c.in-Some.rest.now at c.in-Many.is c.in-Some.ensures.cases.0 there)) c.part.ensures
