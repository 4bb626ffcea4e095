use Rattle.std.proofs.Common.{arith}
use Rattle.std.proofs.lemmas.Grind.{common_steps}
use Rattle.go_store.specs.Cells.{place_of}
use Rattle.go_value.specs.Values.{value_of}
use Rattle.go_store.proofs.Held.{part_of_place}
use Rattle.go_store.proofs.Mapped.{made_push}
use Rattle.go_store.proofs.cells.+pack.Goals as goal

pub whole_places-loop-place-preserved : goal.whole_places-loop-place-preserved
whole_places-loop-place-preserved t c =
    let it = c.place-item.result in
    let pushed = made_push place_of c.loop-place.parts.items c.args.places.now c.loop-place.place-index (record { value = value_of c.in_ok-value.value; blank = it.blank }) it it c.loop-place.invariant (part_of_place it (value_of c.in_ok-value.value) c.in_ok-value.ensures) c.loop-place-test.true c.place-item.is in
    grind (arith, common_steps)
