use Rattle.std.proofs.Common.{◌≡◌, map, take}
use Rattle.expr_typing.proofs.distinct.are_distinct_fields.Given as goal

abbrev pub invariant-loop-field : goal.invariant-loop-field
invariant-loop-field l = l.numbers.items ≡ map (λ x. x.field) (take l.field-index l.fields)
