use Rattle.std.proofs.Common.{◌≡◌, ◌++◌, flat_map, take}
use Rattle.cg_vta.specs.Facts.{value_in}
use Rattle.cg_vta.proofs.facts.put_values.Given as goal

abbrev pub invariant-loop-candidate : goal.invariant-loop-candidate
invariant-loop-candidate l = l.values.items ≡ l.fn.values.items ++ flat_map value_in (take l.candidate-index l.candidates)
