use Rattle.std.proofs.Common.{◌≡◌, take}
use Rattle.typed_parts.proofs.ground.Ground.tuple.Given as goal

abbrev pub invariant-loop-part : goal.invariant-loop-part
invariant-loop-part l = l.ids ≡ take l.part-index l.parts
