use Rattle.std.proofs.Common.{◌≡◌, ◌++◌, flat_map, take}
use Rattle.cg_vta.specs.Passing.{receiver_of}
use Rattle.cg_vta.proofs.ways.put_receivers.Given as goal

abbrev pub invariant-loop-candidate : goal.invariant-loop-candidate
invariant-loop-candidate l = l.ways.items ≡ l.fn.ways.items ++ flat_map (receiver_of l.nodes) (take l.candidate-index l.candidates)
