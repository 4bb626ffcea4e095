use Rattle.std.proofs.Common.{◌≡◌, map, take}
use Rattle.go_store.specs.Arrays.{with_elements}
use Rattle.go_store.specs.Cells.{held_in, spread}
use Rattle.go_store.proofs.runs.push_places.Given as goal

abbrev pub invariant-loop-place : goal.invariant-loop-place
invariant-loop-place l = spread l.all.items ≡ with_elements (map held_in (take l.place-index l.places)) (spread l.initial.all.items)
