use Rattle.std.proofs.Common.{◌∷◌, ◌∙◌, ap, sym, subst, refl, IsSome, OnOk, ℕ, pos}
use Rattle.std.specs.Global.{Vec}
use Rattle.go_value.specs.Values as vals
use Rattle.go_store.specs.Cells.{held, packed_bytes, read_at, written_at}
use Rattle.go_store.proofs.Reached.{bytes_same, bytes_written, on_err, on_ok, read_bytes}
use Rattle.go_store.proofs.Written.{put_bytes_is}
use Rattle.go_store.proofs.parts.write_byte.Goals as goal

pub returns-in-Bytes-clause-ok : goal.returns-in-Bytes-clause-ok
returns-in-Bytes-clause-ok c = on_ok c.set_byte.result c.set_byte.ensures.ok (λ same.
    ap held (put_bytes_is c.args.cell.now c.in-Bytes.bytes _ c.in-Bytes.is)
    ∙ bytes_written (λ _. vals.number (pos c.args.byte)) c.args.cell.now c.in-Bytes.bytes _ (c.args.step ∷ c.args.rest.now) c.set_byte.new.bytes c.in-Bytes.bytes-is c.in-Bytes.is (c.set_byte.auto.bytes ∙ c.as_mut_slice.ensures.len)
    (same ∙ ap (λ xs. written_at (vals.number (pos c.args.byte)) (packed_bytes xs) (c.args.step ∷ c.args.rest.now)) (c.as_mut_slice.ensures.value ∙ ap (λ (v : Vec ℕ). v.items) c.in-Bytes.bytes-is)))

pub returns-in-Bytes-clause-there : goal.returns-in-Bytes-clause-there
returns-in-Bytes-clause-there c =
    subst (λ o. OnOk c.set_byte.result (IsSome o))
    (ap (λ xs. read_at (packed_bytes xs) (c.args.step ∷ c.args.rest.now)) (c.as_mut_slice.ensures.value ∙ ap (λ (v : Vec ℕ). v.items) c.in-Bytes.bytes-is) ∙ sym (read_bytes c.args.cell.now (c.args.step ∷ c.args.rest.now) c.in-Bytes.bytes c.args.step c.args.rest.now c.in-Bytes.is refl))
    c.set_byte.ensures.there

pub returns-in-Bytes-clause-err : goal.returns-in-Bytes-clause-err
returns-in-Bytes-clause-err c = on_err c.set_byte.result c.set_byte.ensures.err (λ same.
    ap held (put_bytes_is c.args.cell.now c.in-Bytes.bytes _ c.in-Bytes.is)
    ∙ bytes_same c.args.cell.now c.in-Bytes.bytes _ c.set_byte.new.bytes c.in-Bytes.bytes-is c.in-Bytes.is (c.set_byte.auto.bytes ∙ c.as_mut_slice.ensures.len) (same ∙ c.as_mut_slice.ensures.value ∙ ap (λ (v : Vec ℕ). v.items) c.in-Bytes.bytes-is))
