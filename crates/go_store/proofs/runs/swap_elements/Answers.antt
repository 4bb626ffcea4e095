use Rattle.std.proofs.Common.{◌∙◌, ap, sym, ℕ, ℤ}
use Rattle.std.specs.Global.{Vec}
use Rattle.go_store.specs.Arrays.{with_run}
use Rattle.go_store.specs.Cells.{held, packed, packed_bytes, spread}
use Rattle.go_store.specs.declared.cells.Place.{Place}
use Rattle.go_store.proofs.Held.{ints_are, bytes_are, many_are}
use Rattle.go_store.proofs.Reached.{on_ok, on_err}
use Rattle.go_store.proofs.Written.{put_many_is, put_ints_is, put_bytes_is}
use Rattle.go_store.proofs.runs.swap_elements.Goals as goal

pub returns-in-Ints-clause-ok : goal.returns-in-Ints-clause-ok
returns-in-Ints-clause-ok c = on_ok c.overwrite_ints.result c.overwrite_ints.ensures.ok (λ same.
    ap held (put_ints_is c.args.array.now c.in-Ints.ints c.overwrite_ints.new.ints c.in-Ints.is)
    ∙ ints_are c.overwrite_ints.new.ints
    ∙ same
    ∙ ap (λ (v : Vec ℤ). with_run (held c.args.elements.now) c.args.first (packed v.items)) c.in-Ints.ints-is
    ∙ sym (ap (with_run (held c.args.elements.now) c.args.first) (ap held c.in-Ints.is ∙ ints_are c.in-Ints.ints)))

pub returns-in-Ints-clause-err : goal.returns-in-Ints-clause-err
returns-in-Ints-clause-err c = on_err c.overwrite_ints.result c.overwrite_ints.ensures.err (λ same.
    ap held (put_ints_is c.args.array.now c.in-Ints.ints c.overwrite_ints.new.ints c.in-Ints.is)
    ∙ ints_are c.overwrite_ints.new.ints
    ∙ ap packed (same ∙ ap (λ (v : Vec ℤ). v.items) c.in-Ints.ints-is)
    ∙ sym (ap held c.in-Ints.is ∙ ints_are c.in-Ints.ints))

pub returns-in-Bytes-clause-ok : goal.returns-in-Bytes-clause-ok
returns-in-Bytes-clause-ok c = on_ok c.overwrite_bytes.result c.overwrite_bytes.ensures.ok (λ same.
    ap held (put_bytes_is c.args.array.now c.in-Bytes.bytes c.overwrite_bytes.new.bytes c.in-Bytes.is)
    ∙ bytes_are c.overwrite_bytes.new.bytes
    ∙ same
    ∙ ap (λ (v : Vec ℕ). with_run (held c.args.elements.now) c.args.first (packed_bytes v.items)) c.in-Bytes.bytes-is
    ∙ sym (ap (with_run (held c.args.elements.now) c.args.first) (ap held c.in-Bytes.is ∙ bytes_are c.in-Bytes.bytes)))

pub returns-in-Bytes-clause-err : goal.returns-in-Bytes-clause-err
returns-in-Bytes-clause-err c = on_err c.overwrite_bytes.result c.overwrite_bytes.ensures.err (λ same.
    ap held (put_bytes_is c.args.array.now c.in-Bytes.bytes c.overwrite_bytes.new.bytes c.in-Bytes.is)
    ∙ bytes_are c.overwrite_bytes.new.bytes
    ∙ ap packed_bytes (same ∙ ap (λ (v : Vec ℕ). v.items) c.in-Bytes.bytes-is)
    ∙ sym (ap held c.in-Bytes.is ∙ bytes_are c.in-Bytes.bytes))

pub returns-in-Many-clause-ok : goal.returns-in-Many-clause-ok
returns-in-Many-clause-ok c = on_ok c.overwrite_places.result c.overwrite_places.ensures.ok (λ same.
    ap held (put_many_is c.args.array.now c.in-Many.places c.overwrite_places.new.places c.in-Many.is)
    ∙ many_are c.overwrite_places.new.places
    ∙ same
    ∙ ap (λ (v : Vec Place). with_run (held c.args.elements.now) c.args.first (spread v.items)) c.in-Many.places-is
    ∙ sym (ap (with_run (held c.args.elements.now) c.args.first) (ap held c.in-Many.is ∙ many_are c.in-Many.places)))

pub returns-in-Many-clause-err : goal.returns-in-Many-clause-err
returns-in-Many-clause-err c = on_err c.overwrite_places.result c.overwrite_places.ensures.err (λ same.
    ap held (put_many_is c.args.array.now c.in-Many.places c.overwrite_places.new.places c.in-Many.is)
    ∙ many_are c.overwrite_places.new.places
    ∙ ap spread (same ∙ ap (λ (v : Vec Place). v.items) c.in-Many.places-is)
    ∙ sym (ap held c.in-Many.is ∙ many_are c.in-Many.places))
