-- Reading the signs before operands.
use Rattle.std.specs.Prelude.{List, [], ◌∷◌, Option, Some, None, if◌then◌else◌}
use Rattle.go_ast.specs.declared.token.Kind.TheVariants as kinds
use Rattle.go_ast.specs.declared.token.Token.{Token}
use Rattle.go_grammar.specs.Shapes.{is}
use Rattle.go_grammar.specs.ExprReading.{begins_sign_by}

-- a star, and what stands behind it
abbrev pub star_at : List Token → Option (Token × List Token)
star_at [] = None
star_at (token ∷ rest) = if is token.kind kinds.Star then Some (token, rest) else None

-- a sign, and what stands behind it; before `chan`, `<-` is none
abbrev pub sign_at : List Token → Option (Token × List Token)
sign_at [] = None
sign_at (token ∷ rest) = if begins_sign_by token.kind rest then Some (token, rest) else None
