use Rattle.std.proofs.Common.{◌≡◌, true, take}
use Rattle.std.specs.List.{list_all}
use Rattle.go_type.specs.Conditions.{is_held}
use Rattle.go_type.proofs.types.Types.can_be_methods.Given as goal

abbrev pub invariant-loop-method : goal.invariant-loop-method
invariant-loop-method l = list_all (λ method. is_held l.self method.of) (take l.method-index l.methods) ≡ true
