use Rattle.std.proofs.Common.{◌≡◌, ℕ, List, map, ◌++◌, take}
use Rattle.go_type.specs.Levels.{member_by}
use Rattle.go_type.specs.Selector.{fields_named}
use Rattle.go_type.proofs.members.add_fields.Given as goal

abbrev pub invariant-loop-index : goal.invariant-loop-index
invariant-loop-index l = (paths : ℕ → List ℕ) → map (member_by paths) l.found.items ≡ map (member_by paths) l.fn.found.items ++ fields_named l.wanted (paths l.from) l.spot.indirect (take l.index l.fields)
