use Rattle.std.proofs.Common.{◌∙◌, ap, sym}
use Rattle.std.specs.Global.{Vec}
use Rattle.std.proofs.lemmas.List.{with_items_is}
use Rattle.go_store.specs.Arrays.{with_run}
use Rattle.go_store.specs.Cells.{held, spread}
use Rattle.go_store.specs.declared.cells.Place.{Place}
use Rattle.go_store.proofs.Held.{many_are}
use Rattle.go_store.proofs.Overwritten.{places_over, on_ok_with}
use Rattle.go_store.proofs.runs.overwrite_places.Goals as goal

pub returns-in-Many-clause-ok : goal.returns-in-Many-clause-ok
returns-in-Many-clause-ok c = on_ok_with c.swap_run.result c.swap_run.ensures.within c.swap_run.ensures.ok (λ within same.
    let had = c.as_mut_slice.result.now in
    let given = c.as_mut_slice-in-Many.result.now in
    ap spread (with_items_is c.args.places.now c.swap_run.new.items (c.swap_run.auto.items ∙ c.as_mut_slice.ensures.len))
    ∙ ap spread same
    ∙ places_over given had c.args.first within
    ∙ ap (λ xs. with_run (spread given) c.args.first (spread xs)) c.as_mut_slice.ensures.value
    ∙ ap (λ xs. with_run (spread xs) c.args.first (spread c.args.places.now.items)) (c.as_mut_slice-in-Many.ensures.value ∙ ap (λ (v : Vec Place). v.items) c.in-Many.new-is)
    ∙ ap (λ it. with_run it c.args.first (spread c.args.places.now.items)) (sym (ap held c.in-Many.is ∙ many_are c.in-Many.new)))
