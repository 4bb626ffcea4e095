use Rattle.std.proofs.Common.{◌≡◌, take}
use Rattle.std.specs.List.{filter}
use Rattle.cg_sets.specs.Implementing.{has_all}
use Rattle.cg_sets.proofs.implementing.having_all.Given as goal

abbrev pub invariant-loop-class : goal.invariant-loop-class
invariant-loop-class l = l.found.items ≡ filter (has_all l.classes l.required) (take l.class-index l.places)
