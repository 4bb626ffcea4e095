use Rattle.std.proofs.Common.{length, refl}
use Rattle.go_grammar.specs.FileReading.{parsers}
use Rattle.go_grammar.specs.PartReading.{file_by_parts}
use Rattle.tree_roles.specs.Roles.{roles_of_file}
use Rattle.go_parse.proofs.FileParts.{given_with_roles, has_given_roles}
use Rattle.go_parse.proofs.parser.file_with_roles.Goals as goal

pub returns-clause-read : goal.returns-clause-read
returns-clause-read c =
    given_with_roles (length c.args.tokens.now) c.in_ok-tree.tree c.with_roles.result (file_by_parts (parsers (length c.args.tokens.now)) c.args.tokens.now) (roles_of_file c.in_ok-tree.tree)
    c.in_ok-tree.ensures c.with_roles.ensures

pub returns-clause-roles : goal.returns-clause-roles
returns-clause-roles c = has_given_roles c.in_ok-tree.tree c.with_roles.result (roles_of_file c.in_ok-tree.tree) refl c.with_roles.ensures
