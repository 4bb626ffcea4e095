use Rattle.std.proofs.Common.{◌≡◌, ℕ, List, take}
use Rattle.std.specs.List.{flat_map}
use Rattle.go_type.specs.Selector.{method_named}
use Rattle.go_type.specs.Sights.{summary}
use Rattle.go_type.proofs.sights.sight_of_methods.Given as goal

abbrev pub invariant-loop-method : goal.invariant-loop-method
invariant-loop-method l = (path : List ℕ) → l.found ≡ summary (flat_map (method_named l.wanted path l.indirect) (take l.method-index l.methods))
