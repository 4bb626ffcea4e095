use Rattle.std.specs.BTreeSet.{contains}
use Rattle.go_type.specs.Levels.{StandFor, places_of}
use Rattle.go_type.specs.MethodSets.{by_name}
use Rattle.go_type.proofs.MethodsFound.{NamesAbove}
use Rattle.go_type.proofs.method_sets.method_names.Given as goal

abbrev pub invariant-depths : goal.invariant-depths
invariant-depths l = record {
  stand : StandFor l.types l.fn.a l.depth (places_of l.levels) l.levels.seen.keys;
  above : NamesAbove l.types l.fn.a l.depth (contains by_name l.names);
}
