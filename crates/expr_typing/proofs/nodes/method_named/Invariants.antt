use Rattle.std.proofs.Common.{◌≡◌, drop}
use Rattle.expr_typing.specs.Parts.{method_named}
use Rattle.expr_typing.proofs.nodes.method_named.Given as goal

abbrev pub invariant-loop-method : goal.invariant-loop-method
invariant-loop-method l = method_named l.name l.«package» l.methods ≡ method_named l.name l.«package» (drop l.method-index l.methods)
