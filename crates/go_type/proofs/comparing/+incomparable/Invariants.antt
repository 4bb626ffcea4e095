use Rattle.std.proofs.Common.{◌≡◌, ◌+◌, ◌*◌, false, take}
use Rattle.std.specs.List.{list_any}
use Rattle.go_type.specs.Comparable.{incomparable_to}
use Rattle.go_type.proofs.comparing.+incomparable.Given as goal

abbrev pub decreases-has_incomparable : goal.decreases-has_incomparable
decreases-has_incomparable l = l.depth * 2 + 1

abbrev pub decreases-is_incomparable : goal.decreases-is_incomparable
decreases-is_incomparable l = l.depth * 2

abbrev pub invariant-has_incomparable-loop-field : goal.invariant-has_incomparable-loop-field
invariant-has_incomparable-loop-field l = list_any (λ field. incomparable_to l.depth l.types field.of) (take l.field-index l.fields) ≡ false
