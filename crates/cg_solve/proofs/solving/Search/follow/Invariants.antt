use Rattle.std.proofs.Common.{◌≡◌, drop}
use Rattle.cg_solve.specs.LeastSets.{followed, search_of}
use Rattle.cg_solve.proofs.solving.Search.follow.Given as goal

abbrev pub invariant-loop-rule : goal.invariant-loop-rule
invariant-loop-rule l = followed (drop l.rule-index l.rules) (search_of l.self) ≡ followed l.rules (search_of l.fn.self)
