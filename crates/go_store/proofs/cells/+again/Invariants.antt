use Rattle.std.proofs.Common.{◌≡◌, map, take}
use Rattle.go_store.specs.Cells.{place_of}
use Rattle.go_store.proofs.cells.+again.Given as goal

abbrev pub invariant-copy_places-loop-place : goal.invariant-copy_places-loop-place
invariant-copy_places-loop-place l = map place_of l.copies.items ≡ map place_of (take l.place-index l.places)
