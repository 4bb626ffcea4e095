use Rattle.std.proofs.Common.{◌∙◌, ap, map, List, arith}
use Rattle.std.proofs.lemmas.Grind.{common_steps}
use Rattle.std.proofs.lemmas.List.{take_all}
use Rattle.go_store.specs.Cells.{place_of}
use Rattle.go_value.specs.Values as vals
use Rattle.go_value.specs.Values.{Field, parts_of}
use Rattle.go_store.proofs.Held.{place_again, many_are}
use Rattle.go_store.proofs.Mapped.{mapped_push}
use Rattle.go_store.proofs.cells.+again.Goals as goal

pub copy_places-loop-place-preserved : goal.copy_places-loop-place-preserved
copy_places-loop-place-preserved t c =
    let it = c.place-item.result in
    let pushed = mapped_push place_of place_of c.loop-place.copies.items c.args.places.now c.loop-place.place-index (record { cell = c.in_ok-cell.cell; blank = it.blank }) it it c.loop-place.invariant (place_again it c.in_ok-cell.cell c.in_ok-cell.ensures) c.loop-place-test.true c.place-item.is in
    grind (arith, common_steps)

pub copy_places-returns : goal.copy_places-returns
copy_places-returns t c =
    many_are c.loop-place.copies ∙ ap (λ (fields : List Field). vals.parts (parts_of fields)) (c.loop-place.invariant ∙ ap (map place_of) (take_all c.loop-place.place-index c.args.places.now c.loop-place-test.false))
