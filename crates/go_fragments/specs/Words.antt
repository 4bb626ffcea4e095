-- Reading what holds no tree of its own: words, and the marks between items.
use Rattle.std.specs.Prelude.{List, [], ◌∷◌, Some, None, Bool, false, ◌&&◌, ◌||◌}
use Rattle.go_ast.specs.declared.token.Kind.{Kind}
use Rattle.go_ast.specs.declared.token.Kind.TheVariants as kinds
use Rattle.go_ast.specs.declared.token.Token.{Token}
use Rattle.go_grammar.specs.Shapes.{is}
use Rattle.go_grammar.specs.Forests.{empty}
use Rattle.go_grammar.specs.Grammar.{Sort, is_semicolon}
use Rattle.go_grammar.specs.Reading.{Reader, run, is_next, sign_in, before_in, either_in}
use Rattle.go_grammar.specs.Tests.{begins, begins_semicolon, not_closed, names, word_in}
use Rattle.go_grammar.specs.ExprReading.{begins_sign_by, is_item}
use Rattle.go_grammar.specs.TypeReading.{Place, begins_bare}

-- a token of this kind, or nothing
abbrev pub maybe_in : Kind → Reader
maybe_in kind = either_in (begins kind) (word_in kind) (λ tokens. Some (empty, tokens))

-- the semicolon behind a line, which may be left out before the end
abbrev pub line_end_in : Kind → Reader
line_end_in end = either_in begins_semicolon (sign_in is_semicolon) (before_in (λ other. is other end))

-- the comma behind an item, which may be left out before the end
abbrev pub comma_in : Kind → Reader
comma_in end = either_in (not_closed end) (word_in kinds.Comma) (before_in (λ other. is other end))

-- names with commas between them
abbrev pub names_in : Reader
names_in = run (λ (sort : Sort) tokens. None) names

-- whether a sign stands before an operand
abbrev pub begins_sign : List Token → Bool
begins_sign [] = false
begins_sign (token ∷ rest) = begins_sign_by token.kind rest

-- whether a type begins here that may stand as an operand
abbrev pub begins_operand_type : Place → List Token → Bool
begins_operand_type place tokens =
    is_next begins_bare tokens || (is_item place && (begins kinds.ChanWord tokens || begins kinds.Arrow tokens))
