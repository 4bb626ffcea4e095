-- What is read behind a sign, and where none stands.
use Rattle.std.proofs.Common.{◌≡◌, Bool, true, false, List, [], ◌∷◌, Option, Some, None, refl, sym, ap, ◌∙◌}
use Rattle.std.specs.Prelude.{◌&&◌, ◌||◌, if◌then◌else◌}
use Rattle.go_ast.specs.declared.token.Kind.{Kind}
use Rattle.go_ast.specs.declared.token.Kind.TheVariants as kinds
use Rattle.go_ast.specs.declared.token.Token.{Token}
use Rattle.go_grammar.specs.Shapes.{is}
use Rattle.go_grammar.specs.Forests.{Forest, empty, append}
use Rattle.go_grammar.specs.Grammar.{Sort, closes_braces}
use Rattle.go_grammar.specs.Reading.{Reader, Either, Before, ◌>>=◌, is_next, run}
use Rattle.go_grammar.specs.Tests.{begins, begins_both, not_closed, word}
use Rattle.go_grammar.specs.TypeReading.{Parsers, Place, type_in, bare_in, begins_bare, at_type, chan_plan}
use Rattle.go_grammar.specs.ExprReading.{unary_by, unary_of, primary_in, starred, of_operand, begins_sign_by, is_item, type_operand_in, type_operand_of}
use Rattle.go_grammar.proofs.SameKinds.{is_same}
use Rattle.go_fragments.specs.Words.{begins_operand_type, comma_in}
use Rattle.go_fragments.proofs.Words.{before_braces}

-- ---- signs

pub unary_star : (p : Parsers) (place : Place) (kind : Kind) (token : Token) (rest : List Token) → is kind kinds.Star ≡ true → unary_by p place kind token rest ≡ (p.expr place 6 rest >>= λ x. Some (starred token x.0, x.1))
unary_star p place kind token rest h = let e : kind ≡ kinds.Star = is_same kind kinds.Star h in rw e refl

unary_other : (p : Parsers) (place : Place) (kind : Kind) (token : Token) (rest : List Token) → is kind kinds.Star ≡ false → unary_by p place kind token rest ≡ (if begins_sign_by kind rest then (p.expr (of_operand place) 6 rest >>= λ x. Some (unary_of token x.0, x.1)) else primary_in p place (token ∷ rest))
unary_other p place kinds.Star token rest h = absurd cc
unary_other p place _ token rest h = refl

pub unary_sign : (p : Parsers) (place : Place) (kind : Kind) (token : Token) (rest : List Token) → is kind kinds.Star ≡ false → begins_sign_by kind rest ≡ true → unary_by p place kind token rest ≡ (p.expr (of_operand place) 6 rest >>= λ x. Some (unary_of token x.0, x.1))
unary_sign p place kind token rest h k = unary_other p place kind token rest h ∙ ap (λ (b : Bool). if b then (p.expr (of_operand place) 6 rest >>= λ x. Some (unary_of token x.0, x.1)) else primary_in p place (token ∷ rest)) k

pub unary_plain : (p : Parsers) (place : Place) (kind : Kind) (token : Token) (rest : List Token) → is kind kinds.Star ≡ false → begins_sign_by kind rest ≡ false → unary_by p place kind token rest ≡ primary_in p place (token ∷ rest)
unary_plain p place kind token rest h k = unary_other p place kind token rest h ∙ ap (λ (b : Bool). if b then (p.expr (of_operand place) 6 rest >>= λ x. Some (unary_of token x.0, x.1)) else primary_in p place (token ∷ rest)) k

pub ruleset unaries = (unary_star, unary_sign, unary_plain)
