-- Laws of words, and of the tests of kinds.
use Rattle.std.proofs.Common.{◌≡◌, Bool, true, false, List, [], ◌∷◌, Some, refl, sym, ◌∙◌}
use Rattle.std.specs.Prelude.{not}
use Rattle.go_ast.specs.declared.token.Kind.{Kind}
use Rattle.go_ast.specs.declared.token.Kind.TheVariants as kinds
use Rattle.go_ast.specs.declared.token.Token.{Token}
use Rattle.go_grammar.specs.Shapes.{is}
use Rattle.go_grammar.specs.Forests.{empty}
use Rattle.go_grammar.specs.Grammar.{is_dot, is_arrow, closes_braces, closes_parens}
use Rattle.go_grammar.specs.Reading.{before_in}
use Rattle.go_grammar.specs.Tests.{begins}
use Rattle.go_grammar.proofs.EachKind.{each_kind, of_each}

abbrev alike : Bool → Bool → Bool
alike true b = b
alike false b = not b

alike_same : (a b : Bool) → alike a b ≡ true → a ≡ b
alike_same true b h = sym h
alike_same false true h = absurd cc
alike_same false false h = refl

same_test : (a b : Kind → Bool) → each_kind (λ kind. alike (a kind) (b kind)) ≡ true → (kind : Kind) → a kind ≡ b kind
same_test a b h kind = alike_same (a kind) (b kind) (of_each (λ kind. alike (a kind) (b kind)) h kind)

pub is_closing_brace : (kind : Kind) → is kind kinds.CloseBrace ≡ closes_braces kind
is_closing_brace = same_test (λ kind. is kind kinds.CloseBrace) closes_braces refl

pub is_closing_paren : (kind : Kind) → is kind kinds.CloseParen ≡ closes_parens kind
is_closing_paren = same_test (λ kind. is kind kinds.CloseParen) closes_parens refl

pub is_a_dot : (kind : Kind) → is kind kinds.Dot ≡ is_dot kind
is_a_dot = same_test (λ kind. is kind kinds.Dot) is_dot refl

pub is_an_arrow : (kind : Kind) → is kind kinds.Arrow ≡ is_arrow kind
is_an_arrow = same_test (λ kind. is kind kinds.Arrow) is_arrow refl

pub before_braces : (tokens : List Token) → before_in (λ other. is other kinds.CloseBrace) tokens ≡ before_in closes_braces tokens
before_braces [] = refl
before_braces (token ∷ tokens) = rw (is_closing_brace token.kind) refl

pub before_parens : (tokens : List Token) → before_in (λ other. is other kinds.CloseParen) tokens ≡ before_in closes_parens tokens
before_parens [] = refl
before_parens (token ∷ tokens) = rw (is_closing_paren token.kind) refl

pub no_dot : (tokens : List Token) → begins kinds.Dot tokens ≡ false → before_in (λ kind. not (is_dot kind)) tokens ≡ Some (empty, tokens)
no_dot [] h = refl
no_dot (token ∷ tokens) h = let e : is_dot token.kind ≡ false = sym (is_a_dot token.kind) ∙ h in rw e refl

pub no_arrow : (tokens : List Token) → begins kinds.Arrow tokens ≡ false → before_in (λ kind. not (is_arrow kind)) tokens ≡ Some (empty, tokens)
no_arrow [] h = refl
no_arrow (token ∷ tokens) h = let e : is_arrow token.kind ≡ false = sym (is_an_arrow token.kind) ∙ h in rw e refl
