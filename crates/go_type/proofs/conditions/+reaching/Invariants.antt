use Rattle.std.proofs.Common.{◌≡◌, ◌+◌, ◌*◌, ◌||◌, false, take}
use Rattle.std.specs.List.{list_any}
use Rattle.go_type.specs.Conditions.{reaches_to}
use Rattle.go_type.specs.Same.{same_id}
use Rattle.go_type.proofs.conditions.+reaching.Given as goal

abbrev pub decreases-reaches : goal.decreases-reaches
decreases-reaches l = l.depth * 2

abbrev pub decreases-has_reaching : goal.decreases-has_reaching
decreases-has_reaching l = l.depth * 2 + 1

abbrev pub invariant-has_reaching-loop-field : goal.invariant-has_reaching-loop-field
invariant-has_reaching-loop-field l = list_any (λ field. same_id l.id field.of || reaches_to l.depth l.types l.id field.of) (take l.field-index l.fields) ≡ false
