-- Kinds of tokens.
use Rattle.std.proofs.Common.{◌≡◌, Bool, true, false, List, [], ◌∷◌, refl, sym, ◌∙◌}
use Rattle.go_ast.specs.declared.token.Kind.{Kind}
use Rattle.go_ast.specs.declared.token.Kind.TheVariants as kinds
use Rattle.go_ast.specs.declared.token.Token.{Token}
use Rattle.go_ast.specs.contracts.token.Kind.{the_type}
use Rattle.go_grammar.specs.Shapes.{is, IsNext}
use Rattle.go_grammar.specs.Grammar.{is_dot, opens_braces}
use Rattle.go_grammar.specs.Tests.{begins}
use Rattle.std.specs.Prelude.{not}
use denote.Enum.Bare.{same_true, true_same, false_same}

pub is_same : (a b : Kind) → is a b ≡ true → a ≡ b
is_same a b h = same_true the_type tt a b h

pub same_is : (a b : Kind) → a ≡ b → is a b ≡ true
same_is a b h = true_same the_type a b h

pub other_is : (a b : Kind) → (a ≡ b → ⊥) → is a b ≡ false
other_is a b h = false_same the_type tt a b h

pub true_not_false : {A : Type 0} {b : Bool} → b ≡ true → b ≡ false → A
true_not_false h k = let clash : true ≡ false = sym h ∙ k in absurd cc

-- what begins with one token does not begin with another
pub begins_other : (a b : Kind) (tokens : List Token) → is a b ≡ false → begins a tokens ≡ true → begins b tokens ≡ false
begins_other a b [] h k = refl
begins_other a b (token ∷ rest) h k = let e : token.kind ≡ a = is_same token.kind a k in rw e h

pub brace_no_dot : (tokens : List Token) → begins kinds.OpenBrace tokens ≡ true → IsNext (λ kind. not (is_dot kind)) tokens
brace_no_dot [] h = tt
brace_no_dot (token ∷ rest) h = let e : token.kind ≡ kinds.OpenBrace = is_same token.kind kinds.OpenBrace h in rw e refl

opens_is : (kind : Kind) → is kind kinds.OpenBrace ≡ false → not (opens_braces kind) ≡ true
opens_is kinds.OpenBrace h = absurd cc
opens_is _ h = refl

pub no_brace : (tokens : List Token) → begins kinds.OpenBrace tokens ≡ false → IsNext (λ kind. not (opens_braces kind)) tokens
no_brace [] h = tt
no_brace (token ∷ rest) h = opens_is token.kind h
