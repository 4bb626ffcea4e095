use Rattle.std.proofs.Common.{◌≡◌, drop}
use Rattle.typed_primaries.specs.Selecting.{by_pointer_in}
use Rattle.typed_primaries.proofs.selecting.by_pointer_in.Given as goal

abbrev pub invariant-loop-method : goal.invariant-loop-method
invariant-loop-method l = by_pointer_in (drop l.method-index l.methods) l.function ≡ by_pointer_in l.methods l.function
