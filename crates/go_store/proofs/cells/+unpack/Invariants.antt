use Rattle.std.proofs.Common.{◌≡◌, map, take}
use Rattle.go_store.specs.Cells.{place_of}
use Rattle.go_store.proofs.cells.+unpack.Given as goal

abbrev pub invariant-cell_of_parts-loop-part : goal.invariant-cell_of_parts-loop-part
invariant-cell_of_parts-loop-part l = map place_of l.places.items ≡ take l.part-index l.parts
