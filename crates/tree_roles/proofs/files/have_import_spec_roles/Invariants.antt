use Rattle.std.proofs.Common.{◌≡◌, length, map}
use Rattle.tree_roles.specs.Roles.{roles_of_import_spec}
use Rattle.tree_roles.specs.Tokens.{in_turn}
use Rattle.tree_roles.proofs.files.have_import_spec_roles.Given as goal

abbrev pub invariant-loop-rest : goal.invariant-loop-rest
invariant-loop-rest l = in_turn (map roles_of_import_spec l.rest) ≡ in_turn (map roles_of_import_spec l.specs)

abbrev pub decreases-loop-rest : goal.decreases-loop-rest
decreases-loop-rest l = length l.rest
