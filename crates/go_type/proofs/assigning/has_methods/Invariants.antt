use Rattle.std.proofs.Common.{take}
use Rattle.std.specs.List.{All}
use Rattle.go_type.specs.Assignable.{HasMethodOf}
use Rattle.go_type.proofs.assigning.has_methods.Given as goal

abbrev pub invariant-loop-method : goal.invariant-loop-method
invariant-loop-method l = All (HasMethodOf l.types l.a) (take l.method-index l.methods)
