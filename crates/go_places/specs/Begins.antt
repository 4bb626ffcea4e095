-- Where tokens begin.
use Rattle.std.specs.Prelude.{ℕ, List, [], ◌∷◌, Option, Some, None}
use Rattle.go_ast.specs.declared.token.Token.{Token}
use Rattle.go_grammar.specs.Forests.{Forest, yield}

-- the first byte of tokens that stand in the order of a file
abbrev pub first_byte : List Token → Option ℕ
first_byte [] = None
first_byte (token ∷ tokens) = Some token.start

-- the first byte of a tree, which is that of its first token
abbrev pub start_of : Forest → Option ℕ
start_of tree = first_byte (yield tree)
