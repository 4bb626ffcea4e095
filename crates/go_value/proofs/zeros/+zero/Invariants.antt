use Rattle.std.proofs.Common.{◌≡◌, ◌+◌, ◌*◌, false, drop}
use Rattle.go_type.specs.Table.{is_name}
use Rattle.go_value.specs.Zeros.{parts_by, zero_to}
use Rattle.go_value.proofs.ZeroTo.{done_then}
use Rattle.go_value.proofs.zeros.+zero.Given as goal

abbrev pub decreases-zero_within : goal.decreases-zero_within
decreases-zero_within l = l.depth * 2

abbrev pub decreases-zero_fields : goal.decreases-zero_fields
decreases-zero_fields l = l.depth * 2 + 1

abbrev pub decreases-zero_parts : goal.decreases-zero_parts
decreases-zero_parts l = l.depth * 2 + 1

abbrev pub invariant-zero_fields-loop-field : goal.invariant-zero_fields-loop-field
invariant-zero_fields-loop-field l =
    done_then l.parts.items
    (parts_by (λ field. zero_to l.depth l.types l.blank field.of) (λ field. is_name l.blank field.name)
    (drop l.field-index l.fields))
    ≡ parts_by (λ field. zero_to l.depth l.types l.blank field.of) (λ field. is_name l.blank field.name) l.fields

abbrev pub invariant-zero_parts-loop-id : goal.invariant-zero_parts-loop-id
invariant-zero_parts-loop-id l =
    done_then l.parts.items (parts_by (zero_to l.depth l.types l.blank) (λ _. false) (drop l.id-index l.ids))
    ≡ parts_by (zero_to l.depth l.types l.blank) (λ _. false) l.ids
