use Rattle.std.proofs.Common.{◌∙◌, ap, sym, slice_get, slice_set}
use Rattle.std.specs.Global.{Vec}
use Rattle.go_store.specs.Arrays.{with_run}
use Rattle.go_store.specs.Cells.{held}
use Rattle.go_store.specs.declared.cells.Place.{Place}
use Rattle.go_store.proofs.Reached.{got, on_ok, on_err, place_written, place_same}
use Rattle.go_store.proofs.Written.{put_many_is}
use Rattle.go_store.proofs.runs.+write_run.Goals as goal

pub returns-in-Some-get_mut-clause-ok : goal.returns-in-Some-get_mut-clause-ok
returns-in-Some-get_mut-clause-ok t c = on_ok c.write_run.result c.write_run.ensures.ok (λ same.
    ap held (put_many_is c.args.cell.now c.in-Many.places _ c.in-Many.is)
    ∙ place_written (with_run (held c.args.elements.now) c.args.first) c.args.cell.now c.args.steps.now c.in-Many.places c.in-Some.step.now c.in-Some.rest.now c.in-Some-get_mut.place.now c.write_run.new.cell _ c.in-Many.is c.in-Some.ensures.cases.0 (ap (λ (v : Vec Place). slice_get v.items c.in-Some.step.now) (sym c.in-Many.places-is) ∙ got _ c.in-Some.step.now c.in-Some-get_mut.place.now c.in-Some-get_mut.ensures.item.3.0 c.in-Some-get_mut.ensures.item.1) same (ap (λ (v : Vec Place). slice_set v.items c.in-Some.step.now (record { cell = c.write_run.new.cell; blank = c.in-Some-get_mut.place.now.blank })) c.in-Many.places-is))

pub returns-in-Some-get_mut-clause-err : goal.returns-in-Some-get_mut-clause-err
returns-in-Some-get_mut-clause-err t c = on_err c.write_run.result c.write_run.ensures.err (λ same.
    ap held (put_many_is c.args.cell.now c.in-Many.places _ c.in-Many.is)
    ∙ place_same c.args.cell.now c.in-Many.places c.in-Some.step.now c.in-Some-get_mut.place.now c.write_run.new.cell _ c.in-Many.is (ap (λ (v : Vec Place). slice_get v.items c.in-Some.step.now) (sym c.in-Many.places-is) ∙ got _ c.in-Some.step.now c.in-Some-get_mut.place.now c.in-Some-get_mut.ensures.item.3.0 c.in-Some-get_mut.ensures.item.1) same (ap (λ (v : Vec Place). slice_set v.items c.in-Some.step.now (record { cell = c.write_run.new.cell; blank = c.in-Some-get_mut.place.now.blank })) c.in-Many.places-is))
