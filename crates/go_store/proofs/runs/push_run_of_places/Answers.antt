use Rattle.std.proofs.Common.{[], ◌∙◌, ap, sym, subst, refl, IsSome, Option, List, unwrap_or}
use Rattle.go_store.specs.Arrays.{with_elements}
use Rattle.go_value.specs.Values.{Val}
use Rattle.go_store.specs.Cells.{spread}
use Rattle.go_store.proofs.Overwritten.{on_ok_with, places_run}
use Rattle.go_store.proofs.Reached.{on_ok}
use Rattle.go_store.proofs.runs.push_run_of_places.Goals as goal

pub returns-in-Many-clause-ok : goal.returns-in-Many-clause-ok
returns-in-Many-clause-ok c = on_ok_with c.push_copies.result c.push_copies.ensures.within c.push_copies.ensures.ok (λ within same.
    same ∙ sym (ap (λ (o : Option (List Val)). with_elements (unwrap_or o []) (spread c.args.all.now.items)) (places_run c.args.from.now c.in-Many.places c.as_slice.result.now c.args.first c.args.len c.in-Many.is c.as_slice.ensures.value within)))

pub returns-in-Many-clause-there : goal.returns-in-Many-clause-there
returns-in-Many-clause-there c = on_ok c.push_copies.result c.push_copies.ensures.within (λ within.
    subst (λ o. IsSome o) (sym (places_run c.args.from.now c.in-Many.places c.as_slice.result.now c.args.first c.args.len c.in-Many.is c.as_slice.ensures.value within)) refl)
