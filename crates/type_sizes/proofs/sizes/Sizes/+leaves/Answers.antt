use Rattle.std.proofs.Common.{Some, sym, ap, ◌∙◌, lit≤}
use Rattle.type_sizes.proofs.Leaves.{struct_leaves}
use Rattle.type_sizes.proofs.sizes.Sizes.+leaves.Goals as goal

pub leaves_anew-returns-in_ok-sum-in-Some-Struct-clause-answer : goal.leaves_anew-returns-in_ok-sum-in-Some-Struct-clause-answer
leaves_anew-returns-in_ok-sum-in-Some-Struct-clause-answer t c =
    struct_leaves 1048577 c.args.depth c.max.result c.in_ok-sum-in-Some-Struct.sum c.args.types.now c.args.id c.in-Some-Struct.fields c.as_slice.result.now (lit≤ tt) c.if-depth-eq0.false
    (sym (ap Some c.in-Some-Struct.field-0-is) ∙ c.in-Some-Struct.ensures.term) c.as_slice.ensures c.in_ok-sum-in-Some-Struct.ensures.answer c.max.ensures
