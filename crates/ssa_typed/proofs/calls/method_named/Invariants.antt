use Rattle.std.proofs.Common.{◌≡◌, drop}
use Rattle.ssa_typed.specs.Calls.{method_named}
use Rattle.ssa_typed.proofs.calls.method_named.Given as goal

abbrev pub invariant-loop-method : goal.invariant-loop-method
invariant-loop-method l = method_named l.name l.«package» l.methods ≡ method_named l.name l.«package» (drop l.method-index l.methods)
