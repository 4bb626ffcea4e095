-- What is read fits, and stands at the front.
use Rattle.std.proofs.Common.{◌≡◌, ℕ, zero, suc, Bool, true, List, [], ◌∷◌, ◌++◌, length, refl, sym, ap, ◌∙◌, subst, append_assoc}
use Rattle.std.proofs.lemmas.List.{append-nil}
use Rattle.go_ast.specs.declared.token.Kind.{Kind}
use Rattle.go_ast.specs.declared.token.Token.{Token}
use Rattle.go_grammar.specs.Forests.{Forest, append, yield}
use Rattle.go_grammar.specs.Shapes as shapes
use Rattle.go_grammar.specs.Shapes.{Shape, Fits, IsNext}
use Rattle.go_grammar.specs.Reading.{Reader, is_before, Plan, Nothing, Sign, Before, Part, Node, Then, Either, Many, shape_of, many_in, run}
use Rattle.go_grammar.proofs.Outcome.{Yields, yields_some, yields_none, yields_bind, yields_if}
use Rattle.go_grammar.proofs.Forests.{yield-append}

-- a tree of this shape at the front
pub record Took {S : Type 0} (grammar : S → Shape S) (shape : Shape S) (tokens : List Token) (x : Forest × List Token) : Type 0 where
  pub text : tokens ≡ yield x.0 ++ x.1
  pub fine : Fits grammar shape x.0 x.1

-- whether the first token passes a test
pub next_is : (test : Kind → Bool) (tokens : List Token) → is_before test tokens ≡ true → IsNext test tokens
next_is test [] h = tt
next_is test (token ∷ tokens) h = h

pub is_nexts : (test : Kind → Bool) (tokens : List Token) → IsNext test tokens → is_before test tokens ≡ true
is_nexts test [] h = refl
is_nexts test (token ∷ tokens) h = h

module _ {S : Type 0} (grammar : S → Shape S) where
  -- two trees, one behind the other
  pub joined : (a b : Shape S) (tokens : List Token) (x y : Forest × List Token) → Took grammar a tokens x → Took grammar b x.1 y → Took grammar (shapes.Then a b) tokens (append x.0 y.0, y.1)
  joined a b tokens x y h k = record {
    text = h.text ∙ ap (λ (rest : List Token). yield x.0 ++ rest) k.text ∙ sym (append_assoc (yield x.0) (yield y.0) y.1) ∙ ap (λ (front : List Token). front ++ y.1) (sym (yield-append x.0 y.0));
    fine = shapes.both (subst (λ (rest : List Token). Fits grammar a x.0 rest) k.text h.fine) k.fine;
  }

  pub joined_more : (a : Shape S) (tokens : List Token) (x y : Forest × List Token) → Took grammar a tokens x → Took grammar (shapes.Many a) x.1 y → Took grammar (shapes.Many a) tokens (append x.0 y.0, y.1)
  joined_more a tokens x y h k = record {
    text = (joined a (shapes.Many a) tokens x y h k).text;
    fine = shapes.more (subst (λ (rest : List Token). Fits grammar a x.0 rest) k.text h.fine) k.fine;
  }

  pub many_takes : (test : List Token → Bool) (item : Reader) (a : Shape S) → ((tokens : List Token) → Yields (item tokens) (Took grammar a tokens)) → (n : ℕ) (tokens : List Token) → Yields (many_in test item n tokens) (Took grammar (shapes.Many a) tokens)
  many_takes test item a h zero tokens = yields_some (record { text = refl; fine = shapes.done })
  many_takes test item a h (suc n) tokens =
      yields_if (test tokens)
      (λ t. yields_bind (h tokens) (λ x g.
      yields_bind (many_takes test item a h n x.1) (λ y k.
      yields_some (joined_more a tokens x y g k))))
      (λ t. yields_some (record { text = refl; fine = shapes.done }))

  module _ (at : S → Reader) (parts : (sort : S) (tokens : List Token) → Yields (at sort tokens) (Took grammar (shapes.Part sort) tokens)) where
    pub run_takes : (plan : Plan S) (tokens : List Token) → Yields (run at plan tokens) (Took grammar (shape_of plan) tokens)
    run_takes Nothing tokens = yields_some (record { text = refl; fine = shapes.nothing })
    run_takes (Sign test) [] = yields_none
    run_takes (Sign test) (token ∷ tokens) = yields_if (test token.kind) (λ t. yields_some (record { text = refl; fine = shapes.sign t })) (λ t. yields_none)
    run_takes (Before test) tokens = yields_if (is_before test tokens) (λ t. yields_some (record { text = refl; fine = shapes.before (next_is test tokens t) })) (λ t. yields_none)
    run_takes (Part sort) tokens = parts sort tokens
    run_takes (Node form below) tokens =
        yields_bind (run_takes below tokens) (λ x h.
        yields_some (record { text = h.text ∙ ap (λ (front : List Token). front ++ x.1) (sym (append-nil (yield x.0))); fine = shapes.below h.fine }))
    run_takes (Then a b) tokens =
        yields_bind (run_takes a tokens) (λ x h.
        yields_bind (run_takes b x.1) (λ y k.
        yields_some (joined (shape_of a) (shape_of b) tokens x y h k)))
    run_takes (Either test a b) tokens =
        yields_if (test tokens)
        (λ t. record { given = λ x e. let h = (run_takes a tokens).given x e in record { text = h.text; fine = shapes.first h.fine } })
        (λ t. record { given = λ x e. let h = (run_takes b tokens).given x e in record { text = h.text; fine = shapes.second h.fine } })
    run_takes (Many test item) tokens = many_takes test (run at item) (shape_of item) (run_takes item) (length tokens) tokens
