use Rattle.std.proofs.Common.{◌≡◌, ℕ, List, map, ◌++◌, length}
use Rattle.std.specs.Vec.Iter.{into_iter_items, into_iter_len}
use Rattle.go_type.specs.Levels.{ThinFor, place_by}
use Rattle.go_type.specs.Table.{Table}
use Rattle.go_type.proofs.levels.thinned.Given as goal

abbrev pub invariant-loop-spot : goal.invariant-loop-spot
invariant-loop-spot l = (l.yielded ++ into_iter_items l.spot-iterator ≡ into_iter_items l.initial.spot-iterator)
    × ((types : Table) (paths : ℕ → List ℕ) → ThinFor types l.seen.keys paths (map (place_by paths) l.yielded) l.thinning)
    × (into_iter_len l.spot-iterator ≡ length (into_iter_items l.spot-iterator))
