use Rattle.std.proofs.Common.{◌≡◌, map, take}
use Rattle.go_store.specs.Cells.{place_of}
use Rattle.go_store.proofs.cells.+pack.Given as goal

abbrev pub invariant-whole_places-loop-place : goal.invariant-whole_places-loop-place
invariant-whole_places-loop-place l = l.parts.items ≡ map place_of (take l.place-index l.places)
