-- The depth falls where a part is read; within one depth each function calls those of lower rank.
use Rattle.std.proofs.Common.{◌≡◌, ◌+◌, ◌*◌, ◌++◌, take, codes}
use Rattle.std.specs.List.{flat_map}
use Rattle.go_text.specs.Joined.{joined}
use Rattle.go_text.specs.TypeText.{type_text_to, field_text, method_text}
use Rattle.go_text.proofs.type_texts.+text.Given as goal

abbrev pub decreases-push_array : goal.decreases-push_array
decreases-push_array l = l.depth * 16 + 1

abbrev pub decreases-push_chan : goal.decreases-push_chan
decreases-push_chan l = l.depth * 16 + 2

abbrev pub decreases-push_field : goal.decreases-push_field
decreases-push_field l = l.depth * 16 + 1

abbrev pub decreases-push_fields : goal.decreases-push_fields
decreases-push_fields l = l.depth * 16 + 2

abbrev pub decreases-push_func : goal.decreases-push_func
decreases-push_func l = l.depth * 16 + 5

abbrev pub decreases-push_interface : goal.decreases-push_interface
decreases-push_interface l = l.depth * 16 + 7

abbrev pub decreases-push_interface_method : goal.decreases-push_interface_method
decreases-push_interface_method l = l.depth * 16 + 5

abbrev pub decreases-push_last : goal.decreases-push_last
decreases-push_last l = l.depth * 16 + 2

abbrev pub decreases-push_map : goal.decreases-push_map
decreases-push_map l = l.depth * 16 + 1

abbrev pub decreases-push_methods : goal.decreases-push_methods
decreases-push_methods l = l.depth * 16 + 6

abbrev pub decreases-push_prefixed : goal.decreases-push_prefixed
decreases-push_prefixed l = l.depth * 16 + 1

abbrev pub decreases-push_results : goal.decreases-push_results
decreases-push_results l = l.depth * 16 + 3

abbrev pub decreases-push_signature : goal.decreases-push_signature
decreases-push_signature l = l.depth * 16 + 4

abbrev pub decreases-push_struct : goal.decreases-push_struct
decreases-push_struct l = l.depth * 16 + 3

abbrev pub decreases-push_term : goal.decreases-push_term
decreases-push_term l = l.depth * 16 + 8

abbrev pub decreases-push_to : goal.decreases-push_to
decreases-push_to l = l.depth * 16 + 0

abbrev pub decreases-push_tuple : goal.decreases-push_tuple
decreases-push_tuple l = l.depth * 16 + 2

abbrev pub decreases-push_types : goal.decreases-push_types
decreases-push_types l = l.depth * 16 + 1

abbrev pub decreases-push_variadic : goal.decreases-push_variadic
decreases-push_variadic l = l.depth * 16 + 3

abbrev pub decreases-push_within : goal.decreases-push_within
decreases-push_within l = l.depth * 16 + 1

abbrev pub invariant-push_types-loop-index : goal.invariant-push_types-loop-index
invariant-push_types-loop-index l =
    l.text.items ≡ l.initial.text.items ++ joined (codes ", ") (type_text_to l.depth l.namer) (take l.index l.ids)

abbrev pub invariant-push_fields-loop-index : goal.invariant-push_fields-loop-index
invariant-push_fields-loop-index l =
    l.text.items ≡ l.initial.text.items ++ joined (codes "; ") (field_text l.namer (type_text_to l.depth l.namer)) (take l.index l.fields)

abbrev pub invariant-push_methods-loop-index : goal.invariant-push_methods-loop-index
invariant-push_methods-loop-index l =
    l.text.items ≡ l.initial.text.items ++ joined (codes "; ") (method_text l.namer (type_text_to l.depth l.namer)) (take l.index l.methods)

abbrev pub invariant-push_variadic-loop-id : goal.invariant-push_variadic-loop-id
invariant-push_variadic-loop-id l =
    l.text.items ≡ l.initial.text.items ++ flat_map (λ id. type_text_to l.depth l.namer id ++ codes ", ") (take l.id-index l.front)
