use Rattle.std.proofs.Common.{[], ◌∙◌, ap, sym, ℕ, ℤ, unwrap_or}
use Rattle.std.specs.Global.{Vec}
use Rattle.go_store.specs.Arrays.{with_elements, run_of}
use Rattle.go_store.specs.Cells.{held, packed, packed_bytes, spread}
use Rattle.go_store.specs.declared.cells.Place.{Place}
use Rattle.go_store.proofs.Held.{ints_are, bytes_are, many_are}
use Rattle.go_store.proofs.Reached.{on_ok}
use Rattle.go_store.proofs.Written.{put_many_is, put_ints_is, put_bytes_is}
use Rattle.go_store.proofs.runs.push_onto.Goals as goal

pub returns-in-Ints-clause-ok : goal.returns-in-Ints-clause-ok
returns-in-Ints-clause-ok c = on_ok c.push_run_of_ints.result c.push_run_of_ints.ensures.ok (λ same.
    let items = unwrap_or (run_of (held c.args.from.now) c.args.first c.args.len) [] in
    ap held (put_ints_is c.args.array.now c.in-Ints.all c.push_run_of_ints.new.all c.in-Ints.is)
    ∙ ints_are c.push_run_of_ints.new.all
    ∙ same
    ∙ ap (λ (v : Vec ℤ). with_elements items (packed v.items)) c.in-Ints.all-is
    ∙ sym (ap (with_elements items) (ap held c.in-Ints.is ∙ ints_are c.in-Ints.all)))

pub returns-in-Many-clause-ok : goal.returns-in-Many-clause-ok
returns-in-Many-clause-ok c = on_ok c.push_run_of_places.result c.push_run_of_places.ensures.ok (λ same.
    let items = unwrap_or (run_of (held c.args.from.now) c.args.first c.args.len) [] in
    ap held (put_many_is c.args.array.now c.in-Many.all c.push_run_of_places.new.all c.in-Many.is)
    ∙ many_are c.push_run_of_places.new.all
    ∙ same
    ∙ ap (λ (v : Vec Place). with_elements items (spread v.items)) c.in-Many.all-is
    ∙ sym (ap (with_elements items) (ap held c.in-Many.is ∙ many_are c.in-Many.all)))

pub returns-in-Bytes-clause-ok : goal.returns-in-Bytes-clause-ok
returns-in-Bytes-clause-ok c = on_ok c.push_run_of_bytes.result c.push_run_of_bytes.ensures.ok (λ same.
    let items = unwrap_or (run_of (held c.args.from.now) c.args.first c.args.len) [] in
    ap held (put_bytes_is c.args.array.now c.in-Bytes.all c.push_run_of_bytes.new.all c.in-Bytes.is)
    ∙ bytes_are c.push_run_of_bytes.new.all
    ∙ same
    ∙ ap (λ (v : Vec ℕ). with_elements items (packed_bytes v.items)) c.in-Bytes.all-is
    ∙ sym (ap (with_elements items) (ap held c.in-Bytes.is ∙ bytes_are c.in-Bytes.all)))
