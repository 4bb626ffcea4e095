use Rattle.go_type.specs.Selector.{NoneAbove}
use Rattle.go_type.proofs.sights.sight_unaided.Given as goal

abbrev pub invariant-depths : goal.invariant-depths
invariant-depths l = NoneAbove l.depth l.types l.wanted l.fn.a
