use Rattle.std.proofs.Common.{◌≡◌, true, take}
use Rattle.std.specs.List.{list_all}
use Rattle.cg_sets.specs.Implementing.{has_one}
use Rattle.cg_sets.proofs.implementing.has_all.Given as goal

abbrev pub invariant-loop-method : goal.invariant-loop-method
invariant-loop-method l = list_all (has_one l.classes l.class) (take l.method-index l.required) ≡ true
