use Rattle.std.proofs.Common.{◌≡◌, ◌++◌, Bool, drop}
use Rattle.go_base.specs.declared.ids.TypeId.{TypeId}
use Rattle.go_value.specs.Values.{parts_of}
use Rattle.go_maps.specs.Keys.{parts_code, unhashable_in}
use Rattle.go_maps.specs.Equality.{TellsComparable}
use Rattle.go_maps.proofs.keys.+key.Given as goal

abbrev pub invariant-push_parts-loop-part : goal.invariant-push_parts-loop-part
invariant-push_parts-loop-part l =
    (l.bytes.items ++ parts_code (parts_of (drop l.part-index l.parts))
    ≡ l.initial.bytes.items ++ parts_code (parts_of l.parts))
    × ((test : TypeId → Bool) → TellsComparable l.types test →
    unhashable_in test (parts_of l.parts) ≡ unhashable_in test (parts_of (drop l.part-index l.parts)))
