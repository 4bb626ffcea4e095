use Rattle.std.proofs.Common.{◌≡◌, length}
use Rattle.tree_roles.specs.Tokens.{are_names}
use Rattle.tree_roles.proofs.tokens.are_names.Given as goal

abbrev pub invariant-loop-rest : goal.invariant-loop-rest
invariant-loop-rest l = are_names l.rest ≡ are_names l.names

abbrev pub decreases-loop-rest : goal.decreases-loop-rest
decreases-loop-rest l = length l.rest
