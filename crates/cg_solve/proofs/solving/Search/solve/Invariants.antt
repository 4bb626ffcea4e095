use Rattle.std.proofs.Common.{[]}
use Rattle.cg_solve.specs.LeastSets.{IsSearch, search_of}
use Rattle.cg_solve.proofs.Worklist.{weight}
use Rattle.cg_solve.proofs.solving.Search.solve.Given as goal

abbrev pub invariant-loop-number : goal.invariant-loop-number
invariant-loop-number l = IsSearch l.seeds l.rules [] (search_of l.self)

abbrev pub decreases-loop-number : goal.decreases-loop-number
decreases-loop-number l = weight (search_of l.self)
