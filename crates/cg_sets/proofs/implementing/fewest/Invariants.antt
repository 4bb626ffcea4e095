use Rattle.std.proofs.Common.{◌≡◌, ◌∷◌, take}
use Rattle.cg_sets.specs.Implementing.{IsOneRow}
use Rattle.cg_sets.proofs.implementing.fewest.Given as goal

abbrev pub invariant-loop-method : goal.invariant-loop-method
invariant-loop-method l = IsOneRow l.classes l.required l.least
