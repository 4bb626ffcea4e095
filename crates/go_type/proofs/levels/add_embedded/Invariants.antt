use Rattle.std.proofs.Common.{◌≡◌, ℕ, List, map, ◌++◌, take}
use Rattle.go_type.specs.Levels.{place_by}
use Rattle.go_type.specs.Selector.{embedded_from}
use Rattle.go_type.proofs.levels.add_embedded.Given as goal

abbrev pub invariant-loop-index : goal.invariant-loop-index
invariant-loop-index l = (paths : ℕ → List ℕ) → map (place_by paths) l.next.items ≡ map (place_by paths) l.fn.next.items ++ embedded_from l.types (paths l.from) l.spot.indirect (take l.index l.fields)
