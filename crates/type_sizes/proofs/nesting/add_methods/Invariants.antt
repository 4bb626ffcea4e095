use Rattle.std.proofs.Common.{◌≡◌, ◌++◌, take}
use Rattle.std.specs.List.{flat_map}
use Rattle.type_sizes.specs.Nesting.{whole}
use Rattle.type_sizes.proofs.nesting.add_methods.Given as goal

abbrev pub invariant-loop-method : goal.invariant-loop-method
invariant-loop-method l = l.parts.items ≡ l.fn.parts.items ++ flat_map (λ method. whole l.types method.of) (take l.method-index l.methods)
