-- The tree of a file.
use Rattle.std.specs.Prelude.{◌≡◌, ℕ, true, List, None}
use Rattle.go_ast.specs.declared.token.Token.{Token}
use Rattle.go_ast.specs.Lexical.{IsTokenList}
use Rattle.go_grammar.specs.Files.{IsTreeOf}
use Rattle.go_grammar.specs.View.{view_file}
use Rattle.go_syntax.specs.declared.decls.FileTree.{FileTree}
use Rattle.go_syntax.specs.Reach.{reach_index}
use Rattle.tree_roles.specs.Roles.{roles_of_file}

-- a text has this tree: no token reaches too far, it is the one well-formed tree of the tokens, and each of them is of
-- the kind of the field in which it stands
pub record HasTree (bytes : List ℕ) (tree : FileTree) : Type 0 where
  pub tokens : List Token
  pub list : IsTokenList bytes tokens
  pub verdict : (reach_index tokens ≡ None) × IsTreeOf tokens (view_file tree)
  pub roles : roles_of_file tree ≡ true
