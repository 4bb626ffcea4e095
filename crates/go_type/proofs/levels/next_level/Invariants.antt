use Rattle.std.proofs.Common.{◌≡◌, ℕ, List, map, take}
use Rattle.go_type.specs.Levels.{place_by, place_at}
use Rattle.go_type.specs.Selector.{flat_map_from, embedded_in}
use Rattle.go_type.proofs.levels.next_level.Given as goal

abbrev pub invariant-loop-index : goal.invariant-loop-index
invariant-loop-index l = (paths : ℕ → List ℕ) → map (place_by paths) l.next.items ≡ flat_map_from (λ i spot. embedded_in l.types (place_at paths i spot)) 0 (take l.index l.level)
