use Rattle.std.proofs.Common.{◌≡◌, ◌||◌, take}
use Rattle.std.specs.List.{list_any}
use Rattle.std.specs.BTreeSet.{contains}
use Rattle.go_type.specs.declared.members.Wanted.{Wanted}
use Rattle.go_type.specs.MethodSets.{by_name}
use Rattle.go_type.specs.Selector.{is_wanted}
use Rattle.go_type.proofs.method_sets.add_own.Given as goal

abbrev pub invariant-loop-method : goal.invariant-loop-method
invariant-loop-method l = (wanted : Wanted) → contains by_name l.names wanted ≡ contains by_name l.fn.names wanted || list_any (λ m. is_wanted wanted m.name m.package) (take l.method-index l.methods)
