use Rattle.decl_rules.proofs.Following.{IsSoFar}
use Rattle.decl_rules.proofs.denoting.follow.Given as goal

abbrev pub invariant-loop-number : goal.invariant-loop-number
invariant-loop-number l = IsSoFar l.nodes.list l.through l.number-items l.number-index l.found.items
