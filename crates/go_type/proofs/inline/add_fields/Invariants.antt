use Rattle.std.proofs.Common.{take, map}
use Rattle.go_type.specs.Inline.{Adds}
use Rattle.go_type.proofs.inline.add_fields.Given as goal

abbrev pub invariant-loop-field : goal.invariant-loop-field
invariant-loop-field l = Adds (map (λ field. field.of) (take l.field-index l.fields)) l.fn.reached.keys l.reached.keys
