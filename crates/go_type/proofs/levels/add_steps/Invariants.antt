use Rattle.std.proofs.Common.{◌≡◌, ◌++◌, reverse, length}
use Rattle.go_type.specs.Levels.{path_in, path_of}
use Rattle.go_type.proofs.levels.add_steps.Given as goal

abbrev pub invariant-loop-level : goal.invariant-loop-level
invariant-loop-level l =
    path_in (path_of (reverse l.fn.above)) l.fn.spot ++ reverse l.fn.steps.items ≡ path_in (path_of (reverse l.above)) l.spot ++ reverse l.steps.items

abbrev pub decreases-loop-level : goal.decreases-loop-level
decreases-loop-level l = length l.above
