use Rattle.std.proofs.Common.{◌≡◌, Some, map}
use Rattle.go_store.specs.Stores.{stored}
use Rattle.go_value.specs.Values.{value_of}
use Rattle.interp_builtins.proofs.Slices.{first_of}
use Rattle.interp_builtins.proofs.elements.elements.Given as goal

abbrev pub invariant-loop-index : goal.invariant-loop-index
invariant-loop-index l = first_of (stored l.store) l.slice.at l.index ≡ Some (map value_of l.items.items)
