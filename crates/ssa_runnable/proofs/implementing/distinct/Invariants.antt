use Rattle.std.proofs.Common.{take, Contains}
use Rattle.std.specs.List.{All}
use Rattle.ssa_runnable.proofs.implementing.distinct.Given as goal

abbrev pub invariant-loop-of : goal.invariant-loop-of
invariant-loop-of l = record {
  all : All (Contains l.set.keys) (take l.of-index l.types);
  only : All (Contains l.types) l.set.keys;
}
