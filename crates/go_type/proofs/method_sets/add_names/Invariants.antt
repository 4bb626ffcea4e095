use Rattle.std.proofs.Common.{◌≡◌, ◌||◌, take}
use Rattle.std.specs.List.{list_any}
use Rattle.std.specs.BTreeSet.{contains}
use Rattle.go_type.specs.declared.members.Wanted.{Wanted}
use Rattle.go_type.specs.MethodSets.{by_name, offers}
use Rattle.go_type.proofs.method_sets.add_names.Given as goal

abbrev pub invariant-loop-spot : goal.invariant-loop-spot
invariant-loop-spot l = (wanted : Wanted) → contains by_name l.names wanted ≡ contains by_name l.fn.names wanted || list_any (λ place. offers l.types wanted place.of) (take l.spot-index l.spots)
