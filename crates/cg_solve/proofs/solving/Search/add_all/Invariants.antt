use Rattle.std.proofs.Common.{◌≡◌, drop}
use Rattle.cg_solve.specs.LeastSets.{added_all, search_of}
use Rattle.cg_solve.proofs.solving.Search.add_all.Given as goal

abbrev pub invariant-loop-number : goal.invariant-loop-number
invariant-loop-number l = added_all (drop l.number-index l.numbers) (search_of l.self) ≡ added_all l.numbers (search_of l.fn.self)
