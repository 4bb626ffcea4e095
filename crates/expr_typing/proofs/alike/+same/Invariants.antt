-- The depth falls where a part is read; within one depth each function calls those of lower rank.
use Rattle.std.proofs.Common.{◌≡◌, ◌+◌, ◌*◌, true, take}
use Rattle.std.specs.Cmp.Lexicographic.{pointwise}
use Rattle.go_type.specs.Identity.{like_method}
use Rattle.expr_typing.specs.Alike.{like_bare_field}
use Rattle.type_bare.specs.Same.{same_to}
use Rattle.expr_typing.proofs.alike.+same.Given as goal

abbrev pub decreases-is_same : goal.decreases-is_same
decreases-is_same l = l.depth * 4

abbrev pub decreases-is_same_field : goal.decreases-is_same_field
decreases-is_same_field l = l.depth * 4 + 1

abbrev pub decreases-is_same_method : goal.decreases-is_same_method
decreases-is_same_method l = l.depth * 4 + 1

abbrev pub decreases-are_same : goal.decreases-are_same
decreases-are_same l = l.depth * 4 + 2

abbrev pub decreases-are_same_fields : goal.decreases-are_same_fields
decreases-are_same_fields l = l.depth * 4 + 2

abbrev pub decreases-are_same_methods : goal.decreases-are_same_methods
decreases-are_same_methods l = l.depth * 4 + 2

abbrev pub decreases-is_same_term : goal.decreases-is_same_term
decreases-is_same_term l = l.depth * 4 + 3

abbrev pub invariant-are_same-loop-index : goal.invariant-are_same-loop-index
invariant-are_same-loop-index l = pointwise (same_to l.depth l.types) (take l.index l.a) (take l.index l.b) ≡ true

abbrev pub invariant-are_same_fields-loop-index : goal.invariant-are_same_fields-loop-index
invariant-are_same_fields-loop-index l = pointwise (like_bare_field (same_to l.depth l.types)) (take l.index l.a) (take l.index l.b) ≡ true

abbrev pub invariant-are_same_methods-loop-index : goal.invariant-are_same_methods-loop-index
invariant-are_same_methods-loop-index l = pointwise (like_method (same_to l.depth l.types)) (take l.index l.a) (take l.index l.b) ≡ true
