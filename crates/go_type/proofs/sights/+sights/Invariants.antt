use Rattle.std.proofs.Common.{◌≡◌, ℕ, ◌+◌, ◌*◌, List, take}
use Rattle.std.specs.List.{flat_map}
use Rattle.go_type.specs.Selector.{members_below, embedded_from}
use Rattle.go_type.specs.Sights.{summary}
use Rattle.go_type.proofs.sights.+sights.Given as goal

abbrev pub decreases-sight_below : goal.decreases-sight_below
decreases-sight_below l = l.depth * 3

abbrev pub decreases-sight_through : goal.decreases-sight_through
decreases-sight_through l = l.depth * 3 + 1

abbrev pub decreases-sight_in_fields : goal.decreases-sight_in_fields
decreases-sight_in_fields l = l.depth * 3 + 2

abbrev pub invariant-sight_in_fields-loop-field : goal.invariant-sight_in_fields-loop-field
invariant-sight_in_fields-loop-field l =
    (path : List ℕ) → l.found ≡ summary (flat_map (members_below l.depth l.types l.wanted) (embedded_from l.types path l.indirect (take l.field-index l.fields)))
