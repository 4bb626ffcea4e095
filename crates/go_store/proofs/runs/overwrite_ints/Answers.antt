use Rattle.std.proofs.Common.{◌∙◌, ap, sym, ℤ}
use Rattle.std.specs.Global.{Vec}
use Rattle.std.proofs.lemmas.List.{with_items_is}
use Rattle.go_store.specs.Arrays.{with_run}
use Rattle.go_store.specs.Cells.{held, packed}
use Rattle.go_store.proofs.Held.{ints_are}
use Rattle.go_store.proofs.Overwritten.{numbers_over, on_ok_with}
use Rattle.go_store.proofs.runs.overwrite_ints.Goals as goal

pub returns-in-Ints-clause-ok : goal.returns-in-Ints-clause-ok
returns-in-Ints-clause-ok c = on_ok_with c.swap_run.result c.swap_run.ensures.within c.swap_run.ensures.ok (λ within same.
    let had = c.as_mut_slice.result.now in
    let given = c.as_mut_slice-in-Ints.result.now in
    ap packed (with_items_is c.args.ints.now c.swap_run.new.items (c.swap_run.auto.items ∙ c.as_mut_slice.ensures.len))
    ∙ ap packed same
    ∙ numbers_over given had c.args.first within
    ∙ ap (λ xs. with_run (packed given) c.args.first (packed xs)) c.as_mut_slice.ensures.value
    ∙ ap (λ xs. with_run (packed xs) c.args.first (packed c.args.ints.now.items)) (c.as_mut_slice-in-Ints.ensures.value ∙ ap (λ (v : Vec ℤ). v.items) c.in-Ints.new-is)
    ∙ ap (λ it. with_run it c.args.first (packed c.args.ints.now.items)) (sym (ap held c.in-Ints.is ∙ ints_are c.in-Ints.new)))
