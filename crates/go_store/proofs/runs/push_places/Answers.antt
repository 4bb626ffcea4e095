use Rattle.std.proofs.Common.{◌∷◌, [], ◌∙◌, ap, sym, map}
use Rattle.std.proofs.lemmas.List.{take_all}
use Rattle.go_value.specs.Values.{Val}
use Rattle.go_store.specs.Arrays.{with_elements}
use Rattle.go_store.specs.Cells.{held_in, spread}
use Rattle.go_store.proofs.Lengthened.{next_of, no_more}
use Rattle.go_store.proofs.runs.push_places.Goals as goal

pub loop-place-init : goal.loop-place-init
loop-place-init c = sym (no_more (spread c.args.all.now.items))

pub loop-place-preserved : goal.loop-place-preserved
loop-place-preserved c =
    next_of held_in c.args.places.now c.loop-place.place-index c.place-item.result c.place-item.result (spread c.args.all.now.items) (spread c.loop-place.all.items) _ c.loop-place.invariant
    (c.in_ok-push_place.ensures ∙ ap (λ (v : Val). with_elements (v ∷ []) (spread c.loop-place.all.items)) c.in_ok-copy_cell.ensures)
    c.loop-place-test.true c.place-item.is

pub returns : goal.returns
returns c = c.loop-place.invariant ∙ ap (λ xs. with_elements (map held_in xs) (spread c.args.all.now.items)) (take_all c.loop-place.place-index c.args.places.now c.loop-place-test.false)
