use Rattle.std.proofs.Common.{◌∙◌, ap, sym, ℕ}
use Rattle.std.specs.Global.{Vec}
use Rattle.std.proofs.lemmas.List.{with_items_is}
use Rattle.go_store.specs.Arrays.{with_run}
use Rattle.go_store.specs.Cells.{held, packed_bytes}
use Rattle.go_store.proofs.Held.{bytes_are}
use Rattle.go_store.proofs.Overwritten.{bytes_over, on_ok_with}
use Rattle.go_store.proofs.runs.overwrite_bytes.Goals as goal

pub returns-in-Bytes-clause-ok : goal.returns-in-Bytes-clause-ok
returns-in-Bytes-clause-ok c = on_ok_with c.swap_run.result c.swap_run.ensures.within c.swap_run.ensures.ok (λ within same.
    let had = c.as_mut_slice.result.now in
    let given = c.as_mut_slice-in-Bytes.result.now in
    ap packed_bytes (with_items_is c.args.bytes.now c.swap_run.new.items (c.swap_run.auto.items ∙ c.as_mut_slice.ensures.len))
    ∙ ap packed_bytes same
    ∙ bytes_over given had c.args.first within
    ∙ ap (λ xs. with_run (packed_bytes given) c.args.first (packed_bytes xs)) c.as_mut_slice.ensures.value
    ∙ ap (λ xs. with_run (packed_bytes xs) c.args.first (packed_bytes c.args.bytes.now.items)) (c.as_mut_slice-in-Bytes.ensures.value ∙ ap (λ (v : Vec ℕ). v.items) c.in-Bytes.new-is)
    ∙ ap (λ it. with_run it c.args.first (packed_bytes c.args.bytes.now.items)) (sym (ap held c.in-Bytes.is ∙ bytes_are c.in-Bytes.new)))
