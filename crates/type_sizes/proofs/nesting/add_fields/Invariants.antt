use Rattle.std.proofs.Common.{◌≡◌, ◌++◌, map, take}
use Rattle.type_sizes.proofs.nesting.add_fields.Given as goal

abbrev pub invariant-loop-field : goal.invariant-loop-field
invariant-loop-field l = l.parts.items ≡ l.fn.parts.items ++ map (λ field. field.of) (take l.field-index l.fields)
