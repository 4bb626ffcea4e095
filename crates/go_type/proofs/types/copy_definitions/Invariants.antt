use Rattle.std.proofs.Common.{◌≡◌, take}
use Rattle.go_type.proofs.types.copy_definitions.Given as goal

abbrev pub invariant-loop-definition : goal.invariant-loop-definition
invariant-loop-definition l = l.copy.items ≡ take l.definition-index l.definitions
