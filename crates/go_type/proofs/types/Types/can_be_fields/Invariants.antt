use Rattle.std.proofs.Common.{◌≡◌, true, take}
use Rattle.std.specs.List.{list_all}
use Rattle.go_type.specs.Conditions.{is_held}
use Rattle.go_type.proofs.types.Types.can_be_fields.Given as goal

abbrev pub invariant-loop-field : goal.invariant-loop-field
invariant-loop-field l = list_all (λ field. is_held l.self field.of) (take l.field-index l.fields) ≡ true
