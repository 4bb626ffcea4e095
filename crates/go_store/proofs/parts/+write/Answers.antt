use Rattle.std.proofs.Common.{◌∙◌, ap, sym, subst, IsSome, OnOk, slice_get, slice_set}
use Rattle.std.specs.Global.{Vec}
use Rattle.go_store.specs.Cells.{held}
use Rattle.go_store.specs.declared.cells.Place.{Place}
use Rattle.go_store.proofs.Reached.{got, on_ok, on_err, place_written, place_same, read_into}
use Rattle.go_store.proofs.Written.{put_many_is}
use Rattle.go_store.proofs.parts.+write.Goals as goal

pub returns-in-Some-get_mut-clause-ok : goal.returns-in-Some-get_mut-clause-ok
returns-in-Some-get_mut-clause-ok t c = on_ok c.write.result c.write.ensures.ok (λ same.
    ap held (put_many_is c.args.cell.now c.in-Many.places _ c.in-Many.is)
    ∙ place_written (λ _. held c.args.new.now) c.args.cell.now c.args.steps.now c.in-Many.places c.in-Some.step.now c.in-Some.rest.now c.in-Some-get_mut.place.now c.write.new.cell _ c.in-Many.is c.in-Some.ensures.cases.0 (ap (λ (v : Vec Place). slice_get v.items c.in-Some.step.now) (sym c.in-Many.places-is) ∙ got _ c.in-Some.step.now c.in-Some-get_mut.place.now c.in-Some-get_mut.ensures.item.3.0 c.in-Some-get_mut.ensures.item.1) same (ap (λ (v : Vec Place). slice_set v.items c.in-Some.step.now (record { cell = c.write.new.cell; blank = c.in-Some-get_mut.place.now.blank })) c.in-Many.places-is))

pub returns-in-Some-get_mut-clause-there : goal.returns-in-Some-get_mut-clause-there
returns-in-Some-get_mut-clause-there t c =
    subst (λ o. OnOk c.write.result (IsSome o)) (sym (read_into c.args.cell.now c.args.steps.now c.in-Many.places c.in-Some.step.now c.in-Some.rest.now c.in-Some-get_mut.place.now c.in-Many.is c.in-Some.ensures.cases.0 (ap (λ (v : Vec Place). slice_get v.items c.in-Some.step.now) (sym c.in-Many.places-is) ∙ got _ c.in-Some.step.now c.in-Some-get_mut.place.now c.in-Some-get_mut.ensures.item.3.0 c.in-Some-get_mut.ensures.item.1))) c.write.ensures.there

pub returns-in-Some-get_mut-clause-err : goal.returns-in-Some-get_mut-clause-err
returns-in-Some-get_mut-clause-err t c = on_err c.write.result c.write.ensures.err (λ same.
    ap held (put_many_is c.args.cell.now c.in-Many.places _ c.in-Many.is)
    ∙ place_same c.args.cell.now c.in-Many.places c.in-Some.step.now c.in-Some-get_mut.place.now c.write.new.cell _ c.in-Many.is (ap (λ (v : Vec Place). slice_get v.items c.in-Some.step.now) (sym c.in-Many.places-is) ∙ got _ c.in-Some.step.now c.in-Some-get_mut.place.now c.in-Some-get_mut.ensures.item.3.0 c.in-Some-get_mut.ensures.item.1) same (ap (λ (v : Vec Place). slice_set v.items c.in-Some.step.now (record { cell = c.write.new.cell; blank = c.in-Some-get_mut.place.now.blank })) c.in-Many.places-is))
