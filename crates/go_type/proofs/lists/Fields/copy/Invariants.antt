use Rattle.std.proofs.Common.{◌≡◌, take}
use Rattle.go_type.proofs.lists.Fields.copy.Given as goal

abbrev pub invariant-loop-field : goal.invariant-loop-field
invariant-loop-field l = record { copied : l.copy ≡ take l.field-index l.field-items; items : l.field-items ≡ l.self }
