use Rattle.std.proofs.Common.{◌≡◌, ℕ, List, map, take}
use Rattle.go_type.specs.Levels.{member_by, place_at}
use Rattle.go_type.specs.Selector.{flat_map_from, selected_in}
use Rattle.go_type.proofs.members.members_in.Given as goal

abbrev pub invariant-loop-index : goal.invariant-loop-index
invariant-loop-index l = (paths : ℕ → List ℕ) → map (member_by paths) l.found.items ≡ flat_map_from (λ i spot. selected_in l.types l.wanted (place_at paths i spot)) 0 (take l.index l.level)
