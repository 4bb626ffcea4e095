use Rattle.std.proofs.Common.{◌≡◌, drop, map}
use Rattle.tree_roles.specs.Roles.{roles_of_import}
use Rattle.tree_roles.specs.Tokens.{every}
use Rattle.tree_roles.proofs.files.have_import_roles.Given as goal

abbrev pub invariant-loop-import : goal.invariant-loop-import
invariant-loop-import l = every (map roles_of_import (drop l.import-index l.imports)) ≡ every (map roles_of_import l.imports)
