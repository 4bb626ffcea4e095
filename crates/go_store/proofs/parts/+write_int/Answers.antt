use Rattle.std.proofs.Common.{◌∷◌, ◌∙◌, ap, sym, subst, IsSome, OnOk, ℤ, slice_get, slice_set}
use Rattle.std.specs.Global.{Vec}
use Rattle.std.specs.Int.{w128}
use Rattle.std.proofs.lemmas.Int.{to_z-of_z}
use Rattle.go_value.specs.Values as vals
use Rattle.go_value.specs.Values.{Val}
use Rattle.go_store.specs.Cells.{held, written_at, packed, read_at}
use Rattle.go_store.specs.declared.cells.Place.{Place}
use Rattle.go_store.proofs.Reached.{got, on_ok, on_err, place_written, place_same, ints_written, ints_same, read_into, read_ints}
use Rattle.go_store.proofs.Written.{put_many_is, put_ints_is}
use Rattle.go_store.proofs.parts.+write_int.Goals as goal

pub returns-in-Some-get_mut-clause-ok : goal.returns-in-Some-get_mut-clause-ok
returns-in-Some-get_mut-clause-ok t c = on_ok c.write_int.result c.write_int.ensures.ok (λ same.
    ap held (put_many_is c.args.cell.now c.in-Many.places _ c.in-Many.is)
    ∙ place_written (λ _. vals.number c.args.number) c.args.cell.now c.args.steps.now c.in-Many.places c.in-Some.step.now c.in-Some.rest.now c.in-Some-get_mut.place.now c.write_int.new.cell _ c.in-Many.is c.in-Some.ensures.cases.0 (ap (λ (v : Vec Place). slice_get v.items c.in-Some.step.now) (sym c.in-Many.places-is) ∙ got _ c.in-Some.step.now c.in-Some-get_mut.place.now c.in-Some-get_mut.ensures.item.3.0 c.in-Some-get_mut.ensures.item.1) (same ∙ ap (λ n. written_at (vals.number n) (held c.in-Some-get_mut.place.now.cell) c.in-Some.rest.now) (to_z-of_z w128 c.args.number c.ranges.number)) (ap (λ (v : Vec Place). slice_set v.items c.in-Some.step.now (record { cell = c.write_int.new.cell; blank = c.in-Some-get_mut.place.now.blank })) c.in-Many.places-is))

pub returns-in-Some-get_mut-clause-there : goal.returns-in-Some-get_mut-clause-there
returns-in-Some-get_mut-clause-there t c =
    subst (λ o. OnOk c.write_int.result (IsSome o)) (sym (read_into c.args.cell.now c.args.steps.now c.in-Many.places c.in-Some.step.now c.in-Some.rest.now c.in-Some-get_mut.place.now c.in-Many.is c.in-Some.ensures.cases.0 (ap (λ (v : Vec Place). slice_get v.items c.in-Some.step.now) (sym c.in-Many.places-is) ∙ got _ c.in-Some.step.now c.in-Some-get_mut.place.now c.in-Some-get_mut.ensures.item.3.0 c.in-Some-get_mut.ensures.item.1))) c.write_int.ensures.there

pub returns-in-Some-get_mut-clause-err : goal.returns-in-Some-get_mut-clause-err
returns-in-Some-get_mut-clause-err t c = on_err c.write_int.result c.write_int.ensures.err (λ same.
    ap held (put_many_is c.args.cell.now c.in-Many.places _ c.in-Many.is)
    ∙ place_same c.args.cell.now c.in-Many.places c.in-Some.step.now c.in-Some-get_mut.place.now c.write_int.new.cell _ c.in-Many.is (ap (λ (v : Vec Place). slice_get v.items c.in-Some.step.now) (sym c.in-Many.places-is) ∙ got _ c.in-Some.step.now c.in-Some-get_mut.place.now c.in-Some-get_mut.ensures.item.3.0 c.in-Some-get_mut.ensures.item.1) same (ap (λ (v : Vec Place). slice_set v.items c.in-Some.step.now (record { cell = c.write_int.new.cell; blank = c.in-Some-get_mut.place.now.blank })) c.in-Many.places-is))

pub returns-in-Ints-clause-ok : goal.returns-in-Ints-clause-ok
returns-in-Ints-clause-ok t c = on_ok c.write_number.result c.write_number.ensures.ok (λ same.
    ap held (put_ints_is c.args.cell.now c.in-Ints.ints _ c.in-Ints.is)
    ∙ ints_written (λ _. vals.number c.args.number) c.args.cell.now c.args.steps.now c.in-Ints.ints _ c.in-Some.step.now c.in-Some.rest.now c.write_number.new.ints c.in-Ints.ints-is c.in-Ints.is c.in-Some.ensures.cases.0 (c.write_number.auto.ints ∙ c.as_mut_slice.ensures.len)
    (same
    ∙ ap (λ n. written_at (vals.number n) (packed c.as_mut_slice.result.now) (c.in-Some.step.now ∷ c.in-Some.rest.now)) (to_z-of_z w128 c.args.number c.ranges.number)
    ∙ ap (λ xs. written_at (vals.number c.args.number) (packed xs) (c.in-Some.step.now ∷ c.in-Some.rest.now)) (c.as_mut_slice.ensures.value ∙ ap (λ (v : Vec ℤ). v.items) c.in-Ints.ints-is)))

pub returns-in-Ints-clause-there : goal.returns-in-Ints-clause-there
returns-in-Ints-clause-there t c =
    subst (λ o. OnOk c.write_number.result (IsSome o))
    (ap (λ xs. read_at (packed xs) (c.in-Some.step.now ∷ c.in-Some.rest.now)) (c.as_mut_slice.ensures.value ∙ ap (λ (v : Vec ℤ). v.items) c.in-Ints.ints-is) ∙ sym (read_ints c.args.cell.now c.args.steps.now c.in-Ints.ints c.in-Some.step.now c.in-Some.rest.now c.in-Ints.is c.in-Some.ensures.cases.0))
    c.write_number.ensures.there

pub returns-in-Ints-clause-err : goal.returns-in-Ints-clause-err
returns-in-Ints-clause-err t c = on_err c.write_number.result c.write_number.ensures.err (λ same.
    ap held (put_ints_is c.args.cell.now c.in-Ints.ints _ c.in-Ints.is)
    ∙ ints_same c.args.cell.now c.in-Ints.ints _ c.write_number.new.ints c.in-Ints.ints-is c.in-Ints.is (c.write_number.auto.ints ∙ c.as_mut_slice.ensures.len) (same ∙ c.as_mut_slice.ensures.value ∙ ap (λ (v : Vec ℤ). v.items) c.in-Ints.ints-is))
