use Rattle.std.proofs.Common.{◌≡◌, ℕ, List, map, ◌++◌, take}
use Rattle.std.specs.List.{flat_map}
use Rattle.go_type.specs.Levels.{member_by}
use Rattle.go_type.specs.Selector.{method_named}
use Rattle.go_type.proofs.members.add_methods.Given as goal

abbrev pub invariant-loop-method : goal.invariant-loop-method
invariant-loop-method l = (paths : ℕ → List ℕ) → map (member_by paths) l.found.items ≡ map (member_by paths) l.fn.found.items ++ flat_map (method_named l.wanted (paths l.from) l.spot.indirect) (take l.method-index l.methods)
