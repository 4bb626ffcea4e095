use Rattle.std.proofs.Common.{◌≡◌, ◌++◌, take}
use Rattle.std.specs.List.{flat_map}
use Rattle.type_sizes.specs.Nesting.{whole}
use Rattle.type_sizes.proofs.nesting.add_parts.Given as goal

abbrev pub invariant-loop-id : goal.invariant-loop-id
invariant-loop-id l = l.parts.items ≡ l.fn.parts.items ++ flat_map (whole l.types) (take l.id-index l.ids)
