use Rattle.std.proofs.Common.{◌≡◌, length}
use Rattle.go_type.specs.Conditions.{ascends}
use Rattle.go_type.proofs.conditions.is_ascending.Given as goal

abbrev pub invariant-loop-first : goal.invariant-loop-first
invariant-loop-first l = ascends l.fn.methods ≡ ascends l.rest

abbrev pub decreases-loop-first : goal.decreases-loop-first
decreases-loop-first l = length l.rest
