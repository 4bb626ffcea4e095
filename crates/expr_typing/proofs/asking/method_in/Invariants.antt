use Rattle.std.proofs.Common.{◌≡◌, drop}
use Rattle.expr_typing.specs.Telling.{method_in}
use Rattle.expr_typing.proofs.asking.method_in.Given as goal

abbrev pub invariant-loop-method : goal.invariant-loop-method
invariant-loop-method l = method_in l.name l.«package» l.methods ≡ method_in l.name l.«package» (drop l.method-index l.methods)
