use Rattle.std.proofs.Common.{◌≡◌, ◌++◌, flat_map, take}
use Rattle.cg_vta.specs.Choosing.{group_rule}
use Rattle.cg_vta.proofs.called.put_row.Given as goal

abbrev pub invariant-loop-candidate : goal.invariant-loop-candidate
invariant-loop-candidate l = l.rules.items ≡ l.fn.rules.items ++ flat_map (group_rule l.from) (take l.candidate-index l.candidates)
