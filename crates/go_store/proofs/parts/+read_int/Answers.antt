use Rattle.std.proofs.Common.{◌∷◌, ◌∙◌, ap, sym}
use Rattle.std.proofs.Common.{slice_get}
use Rattle.go_store.specs.Cells.{integer_in, packed, packed_bytes, read_at}
use Rattle.go_store.proofs.Reached.{got, past_get, read_into, read_past, read_ints, read_bytes, read_leaf}
use Rattle.go_store.proofs.parts.+read_int.Goals as goal

pub returns-in-Some-get : goal.returns-in-Some-get
returns-in-Some-get t c =
    let there = ap (λ xs. slice_get xs c.in-Some.step.now) (sym c.deref.ensures.value) ∙ got c.deref.result.now c.in-Some.step.now c.in-Some-get.place.now c.in-Some-get.ensures.lookup.3.0 c.in-Some-get.ensures.lookup.1 in
    c.read_int.ensures ∙ ap integer_in (sym (read_into c.args.cell.now c.args.steps.now c.in-Many.places c.in-Some.step.now c.in-Some.rest.now c.in-Some-get.place.now c.in-Many.is c.in-Some.ensures.cases.0 there))

pub returns-in-None : goal.returns-in-None
returns-in-None t c = ap integer_in (sym (read_past c.args.cell.now c.args.steps.now c.in-Many.places c.in-Some.step.now c.in-Some.rest.now c.in-Many.is c.in-Some.ensures.cases.0 (past_get c.deref.result.now c.in-Many.places.items c.in-Some.step.now c.deref.ensures.value c.in-None.ensures.lookup.3)))

pub returns-in-Ints : goal.returns-in-Ints
returns-in-Ints t c = c.number_at.ensures ∙ ap (λ xs. integer_in (read_at (packed xs) (c.in-Some.step.now ∷ c.in-Some.rest.now))) c.as_slice.ensures.value ∙ ap integer_in (sym (read_ints c.args.cell.now c.args.steps.now c.in-Ints.ints c.in-Some.step.now c.in-Some.rest.now c.in-Ints.is c.in-Some.ensures.cases.0))

pub returns-in-One : goal.returns-in-One
returns-in-One t c = ap integer_in (sym (read_leaf c.args.cell.now c.args.steps.now _ c.in-Some.step.now c.in-Some.rest.now c.in-One.is c.in-Some.ensures.cases.0))

pub returns-in-Bytes : goal.returns-in-Bytes
returns-in-Bytes t c = c.byte_at.ensures ∙ ap (λ xs. integer_in (read_at (packed_bytes xs) (c.in-Some.step.now ∷ c.in-Some.rest.now))) c.as_slice-in-Bytes.ensures.value ∙ ap integer_in (sym (read_bytes c.args.cell.now c.args.steps.now c.in-Bytes.bytes c.in-Some.step.now c.in-Some.rest.now c.in-Bytes.is c.in-Some.ensures.cases.0))
