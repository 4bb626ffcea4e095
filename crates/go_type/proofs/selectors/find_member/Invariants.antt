use Rattle.go_type.specs.Selector.{NoneAbove}
use Rattle.go_type.specs.Levels.{StandFor, places_of}
use Rattle.go_type.proofs.selectors.find_member.Given as goal

abbrev pub invariant-depths : goal.invariant-depths
invariant-depths l = record {
  stand : StandFor l.types l.fn.a l.depth (places_of l.levels) l.levels.seen.keys;
  none : NoneAbove l.depth l.types l.wanted l.fn.a;
}
