use Rattle.std.proofs.Common.{◌≡◌, ◌∷◌, ◌∙◌, ap, sym, subst, Some, IfOk, List, ℕ, ℤ}
use Rattle.std.proofs.Common.{slice_get}
use Rattle.go_value.specs.Values.{value_of}
use Rattle.go_store.specs.Cells.{packed, packed_bytes, read_at}
use Rattle.go_store.proofs.Reached.{got, read_into, read_ints, read_bytes}
use Rattle.go_store.proofs.parts.+read.Goals as goal

pub returns-in-Some-get : goal.returns-in-Some-get
returns-in-Some-get t c =
    let there = ap (λ xs. slice_get xs c.in-Some.step.now) (sym c.deref.ensures.value) ∙ got c.deref.result.now c.in-Some.step.now c.in-Some-get.place.now c.in-Some-get.ensures.lookup.3.0 c.in-Some-get.ensures.lookup.1 in
    subst (λ o. IfOk c.read.result (λ value. o ≡ Some (value_of value))) (sym (read_into c.args.cell.now c.args.steps.now c.in-Many.places c.in-Some.step.now c.in-Some.rest.now c.in-Some-get.place.now c.in-Many.is c.in-Some.ensures.cases.0 there)) c.read.ensures

pub returns-in-Ints : goal.returns-in-Ints
returns-in-Ints t c =
    subst (λ o. IfOk c.read_number.result (λ value. o ≡ Some (value_of value))) (sym (read_ints c.args.cell.now c.args.steps.now c.in-Ints.ints c.in-Some.step.now c.in-Some.rest.now c.in-Ints.is c.in-Some.ensures.cases.0)) (subst (λ (xs : List ℤ). IfOk c.read_number.result (λ value. read_at (packed xs) (c.in-Some.step.now ∷ c.in-Some.rest.now) ≡ Some (value_of value))) c.as_slice.ensures.value c.read_number.ensures)

pub returns-in-Bytes : goal.returns-in-Bytes
returns-in-Bytes t c =
    subst (λ o. IfOk c.read_byte.result (λ value. o ≡ Some (value_of value))) (sym (read_bytes c.args.cell.now c.args.steps.now c.in-Bytes.bytes c.in-Some.step.now c.in-Some.rest.now c.in-Bytes.is c.in-Some.ensures.cases.0)) (subst (λ (xs : List ℕ). IfOk c.read_byte.result (λ value. read_at (packed_bytes xs) (c.in-Some.step.now ∷ c.in-Some.rest.now) ≡ Some (value_of value))) c.as_slice-in-Bytes.ensures.value c.read_byte.ensures)
