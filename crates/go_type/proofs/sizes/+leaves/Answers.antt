use Rattle.std.proofs.Common.{Some, sym, ap, ◌∙◌}
use Rattle.go_type.proofs.Leaves.{array_leaves, struct_leaves}
use Rattle.go_type.proofs.sizes.+leaves.Goals as goal

pub leaves_up_to-returns-in-Some-Array : goal.leaves_up_to-returns-in-Some-Array
leaves_up_to-returns-in-Some-Array t c =
    array_leaves c.args.limit c.args.depth c.in-Some-Array.len c.times.result c.leaves_up_to.result c.args.types.now c.args.id c.in-Some-Array.elem c.requires c.if-depth-eq0.false
    (sym (ap Some c.in-Some-Array.field-0-is) ∙ c.in-Some-Array.ensures.term) c.leaves_up_to.ensures c.times.ensures

pub leaves_up_to-returns-in-Some-Struct : goal.leaves_up_to-returns-in-Some-Struct
leaves_up_to-returns-in-Some-Struct t c =
    struct_leaves c.args.limit c.args.depth c.max.result c.leaves_of_fields-sum.result c.args.types.now c.args.id c.in-Some-Struct.fields c.as_slice.result.now c.requires c.if-depth-eq0.false
    (sym (ap Some c.in-Some-Struct.field-0-is) ∙ c.in-Some-Struct.ensures.term) c.as_slice.ensures c.leaves_of_fields-sum.ensures c.max.ensures
