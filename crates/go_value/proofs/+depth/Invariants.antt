use Rattle.std.proofs.Common.{◌≡◌, drop, max}
use Rattle.go_value.specs.Depths.{capped, deepest}
use Rattle.go_value.specs.Values.{parts_of}
use Rattle.go_value.proofs.+depth.Given as goal

abbrev pub invariant-depths::deepest-loop-part : goal.invariant-depths::deepest-loop-part
invariant-depths::deepest-loop-part l = max l.most (capped (deepest (parts_of (drop l.part-index l.parts)))) ≡ capped (deepest (parts_of l.parts))
