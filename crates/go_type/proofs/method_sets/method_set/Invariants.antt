use Rattle.std.proofs.Common.{length}
use Rattle.go_type.proofs.MethodsFound.{SetSoFar}
use Rattle.go_type.proofs.method_sets.method_set.Given as goal

abbrev pub invariant-loop-name : goal.invariant-loop-name
invariant-loop-name l = SetSoFar l.types l.a l.set l.names.keys

abbrev pub decreases-loop-name : goal.decreases-loop-name
decreases-loop-name l = length l.names.keys
