-- Where tokens are refused.
use Rattle.std.specs.Prelude.{◌≡◌, ℕ, ◌<◌, ◌≤◌, true, List, Option, Some, None, Result, Ok, Err}
use Rattle.go_ast.specs.declared.token.Token.{Token}
use Rattle.go_grammar.specs.Files.{IsTreeOf, IsUnexpected}
use Rattle.go_grammar.specs.View.{view_file}
use Rattle.go_syntax.specs.declared.decls.FileTree.{FileTree}
use Rattle.tree_roles.specs.Roles.{roles_of_file}
use Rattle.parse_answer.specs.declared.error.ParseError.{ParseError}
use Rattle.parse_answer.specs.declared.error.ParseError.TheVariants as errors

-- An answer is that of the first token that reaches too far, exactly where there is one, unless memory ran out.
abbrev pub DecidesReach : Result FileTree ParseError → Option ℕ → Type 0
DecidesReach (Ok file) at = at ≡ None
DecidesReach (Err (errors.TooDeep index)) at = at ≡ Some index
DecidesReach (Err (errors.Unexpected index)) at = at ≡ None
DecidesReach (Err errors.OutOfMemory) at = Unit {0}

-- The index is that of one of n tokens, or 0 where there are none.
abbrev pub IsIndexOf : ℕ → ℕ → Type 0
IsIndexOf n index = (index ≤ n) × (0 < n → index < n)

-- The answer is the one well-formed tree of the tokens, each of the kind of the field in which it stands, or the index
-- of the first part that cannot be read, unless a token reaches too far or memory ran out.
abbrev pub IsParsed : List Token → Result FileTree ParseError → Type 0
IsParsed tokens (Ok file) = IsTreeOf tokens (view_file file) × (roles_of_file file ≡ true)
IsParsed tokens (Err (errors.TooDeep index)) = Unit {0}
IsParsed tokens (Err (errors.Unexpected index)) = IsUnexpected tokens index
IsParsed tokens (Err errors.OutOfMemory) = Unit {0}

abbrev pub IsWithin : ℕ → Result FileTree ParseError → Type 0
IsWithin n (Ok file) = Unit {0}
IsWithin n (Err (errors.TooDeep index)) = Unit {0}
IsWithin n (Err (errors.Unexpected index)) = IsIndexOf n index
IsWithin n (Err errors.OutOfMemory) = Unit {0}
