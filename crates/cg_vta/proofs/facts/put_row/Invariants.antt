use Rattle.std.proofs.Common.{◌≡◌, ◌++◌, flat_map, take}
use Rattle.cg_vta.specs.Facts.{operands}
use Rattle.cg_vta.proofs.facts.put_row.Given as goal

abbrev pub invariant-loop-candidate : goal.invariant-loop-candidate
invariant-loop-candidate l = l.nodes.items ≡ l.fn.nodes.items ++ flat_map operands (take l.candidate-index l.candidates)
