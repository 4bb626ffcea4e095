use Rattle.std.proofs.Common.{◌∙◌, ap, sym, ℕ, ℤ, replicate}
use Rattle.std.specs.Int.{w128}
use Rattle.std.proofs.lemmas.Int.{to_z-of_z}
use Rattle.std.proofs.Common.{to_z, of_z}
use Rattle.std.specs.Global.{Vec}
use Rattle.go_value.specs.Values as vals
use Rattle.go_store.specs.Arrays.{with_elements}
use Rattle.go_store.specs.Cells.{held, packed, packed_bytes}
use Rattle.go_store.proofs.Held.{bytes_are, ints_are}
use Rattle.go_store.proofs.Reached.{on_ok}
use Rattle.go_store.proofs.Written.{put_bytes_is, put_ints_is}
use Rattle.go_store.proofs.runs.fill.Goals as goal

pub returns-in-Ints : goal.returns-in-Ints
returns-in-Ints c = on_ok c.fill_ints.result c.fill_ints.ensures (λ same.
    let all = replicate c.args.times (vals.number c.args.number) in
    ap held (put_ints_is c.args.array.now c.in-Ints.ints c.fill_ints.new.ints c.in-Ints.is)
    ∙ ints_are c.fill_ints.new.ints
    ∙ same
    ∙ ap (λ (v : Vec ℤ). with_elements (replicate c.args.times (vals.number (to_z w128 (of_z w128 c.args.number)))) (packed v.items)) c.in-Ints.ints-is
    ∙ ap (λ n. with_elements (replicate c.args.times (vals.number n)) (packed c.in-Ints.ints.items)) (to_z-of_z w128 c.args.number c.ranges.number)
    ∙ sym (ap (with_elements all) (ap held c.in-Ints.is ∙ ints_are c.in-Ints.ints)))

pub returns-in-Bytes : goal.returns-in-Bytes
returns-in-Bytes c = on_ok c.fill_bytes.result c.fill_bytes.ensures (λ same.
    let all = replicate c.args.times (vals.number c.args.number) in
    ap held (put_bytes_is c.args.array.now c.in-Bytes.bytes c.fill_bytes.new.bytes c.in-Bytes.is)
    ∙ bytes_are c.fill_bytes.new.bytes
    ∙ same
    ∙ ap (λ (v : Vec ℕ). with_elements (replicate c.args.times (vals.number (to_z w128 (of_z w128 c.args.number)))) (packed_bytes v.items)) c.in-Bytes.bytes-is
    ∙ ap (λ n. with_elements (replicate c.args.times (vals.number n)) (packed_bytes c.in-Bytes.bytes.items)) (to_z-of_z w128 c.args.number c.ranges.number)
    ∙ sym (ap (with_elements all) (ap held c.in-Bytes.is ∙ bytes_are c.in-Bytes.bytes)))
