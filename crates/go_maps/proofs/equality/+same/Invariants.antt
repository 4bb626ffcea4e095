use Rattle.std.proofs.Common.{◌≡◌, Bool, drop}
use Rattle.go_base.specs.declared.ids.TypeId.{TypeId}
use Rattle.go_value.specs.Values.{parts_of}
use Rattle.go_maps.specs.Equality.{TellsComparable, compared_parts}
use Rattle.go_maps.proofs.equality.+same.Given as goal

abbrev pub invariant-same_parts-loop-left : goal.invariant-same_parts-loop-left
invariant-same_parts-loop-left l =
    (test : TypeId → Bool) → TellsComparable l.types test → compared_parts test (parts_of l.a) (parts_of l.b) ≡ compared_parts test (parts_of (drop l.left-index l.a)) (parts_of l.others)
