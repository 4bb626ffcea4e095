use Rattle.std.proofs.Common.{◌≡◌, drop, map}
use Rattle.tree_roles.specs.Roles.{roles_of_line}
use Rattle.tree_roles.specs.Tokens.{every}
use Rattle.tree_roles.proofs.files.have_decl_roles.Given as goal

abbrev pub invariant-loop-line : goal.invariant-loop-line
invariant-loop-line l = every (map roles_of_line (drop l.line-index l.decls)) ≡ every (map roles_of_line l.decls)
