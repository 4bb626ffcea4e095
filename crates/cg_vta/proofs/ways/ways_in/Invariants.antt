use Rattle.std.proofs.Common.{◌≡◌, flat_map, take}
use Rattle.cg_vta.specs.Passing.{way_of}
use Rattle.cg_vta.proofs.ways.ways_in.Given as goal

abbrev pub invariant-loop-candidate : goal.invariant-loop-candidate
invariant-loop-candidate l = l.ways.items ≡ flat_map (way_of l.groups l.node) (take l.candidate-index l.candidates)
