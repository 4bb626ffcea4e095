use Rattle.std.proofs.Common.{◌≡◌, false, take}
use Rattle.std.specs.List.{list_any}
use Rattle.go_type.specs.Selector.{is_wanted}
use Rattle.go_type.proofs.conditions.has_name.Given as goal

abbrev pub invariant-loop-method : goal.invariant-loop-method
invariant-loop-method l = list_any (λ m. is_wanted l.wanted m.name m.package) (take l.method-index l.methods) ≡ false
