use Rattle.std.proofs.Common.{◌≡◌, take}
use Rattle.go_type.proofs.methods.MethodSet.copy.Given as goal

abbrev pub invariant-loop-entry : goal.invariant-loop-entry
invariant-loop-entry l = record { copied : l.copy ≡ take l.entry-index l.entry-items; items : l.entry-items ≡ l.self }
