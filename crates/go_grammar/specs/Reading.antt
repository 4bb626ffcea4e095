-- Reading from left to right, by plans: shapes that say at each choice which tokens decide it.
use Rattle.std.specs.Prelude.{ℕ, zero, suc, List, [], ◌∷◌, length, Option, Some, None, Bool, true, false, if◌then◌else◌}
use Rattle.go_ast.specs.declared.token.Kind.{Kind}
use Rattle.go_ast.specs.declared.token.Token.{Token}
use Rattle.go_grammar.specs.Forests.{Form, Forest, empty, leaf, node, append}
use Rattle.go_grammar.specs.Shapes as shapes
use Rattle.go_grammar.specs.Shapes.{Shape}

infixl 10 ◌>>=◌
abbrev pub ◌>>=◌ : {A B : Type 0} → Option A → (A → Option B) → Option B
(Some x) >>= f = f x
None >>= f = None

-- what reads a tree from the front, and says what is left
abbrev pub Reader : Type 0
Reader = List Token → Option (Forest × List Token)

-- whether the first of these tokens has a kind that passes a test
abbrev pub is_next : (Kind → Bool) → List Token → Bool
is_next test [] = false
is_next test (token ∷ tokens) = test token.kind

pub data Plan (S : Type 0) : Type 0 where
  Nothing : Plan S
  Sign : (test : Kind → Bool) → Plan S
  Before : (test : Kind → Bool) → Plan S
  Part : (sort : S) → Plan S
  Node : (form : Form) (below : Plan S) → Plan S
  Then : (first second : Plan S) → Plan S
  -- the first where the tokens pass a test, else the second
  Either : (test : List Token → Bool) (first second : Plan S) → Plan S
  -- as long as the tokens pass a test
  Many : (test : List Token → Bool) (item : Plan S) → Plan S

-- the shape that a plan reads
abbrev pub shape_of : {S : Type 0} → Plan S → Shape S
shape_of Nothing = shapes.Nothing
shape_of (Sign test) = shapes.Sign test
shape_of (Before test) = shapes.Before test
shape_of (Part sort) = shapes.Part sort
shape_of (Node form below) = shapes.Node form (shape_of below)
shape_of (Then first second) = shapes.Then (shape_of first) (shape_of second)
shape_of (Either test first second) = shapes.Either (shape_of first) (shape_of second)
shape_of (Many test item) = shapes.Many (shape_of item)

abbrev pub sign_in : (Kind → Bool) → Reader
sign_in test [] = None
sign_in test (token ∷ tokens) = if test token.kind then Some (leaf token empty, tokens) else None

abbrev pub is_before : (Kind → Bool) → List Token → Bool
is_before test [] = true
is_before test (token ∷ tokens) = test token.kind

abbrev pub before_in : (Kind → Bool) → Reader
before_in test tokens = if is_before test tokens then Some (empty, tokens) else None

abbrev pub node_in : Form → Reader → Reader
node_in form below tokens = below tokens >>= λ x. Some (node form x.0 empty, x.1)

abbrev pub then_in : Reader → Reader → Reader
then_in first second tokens = first tokens >>= λ x. second x.1 >>= λ y. Some (append x.0 y.0, y.1)

abbrev pub either_in : (List Token → Bool) → Reader → Reader → Reader
either_in test first second tokens = if test tokens then first tokens else second tokens

-- at most n of them
abbrev pub many_in : (List Token → Bool) → Reader → ℕ → Reader
many_in test item zero tokens = Some (empty, tokens)
many_in test item (suc n) tokens =
    if test tokens then (item tokens >>= λ x. many_in test item n x.1 >>= λ y. Some (append x.0 y.0, y.1))
    else Some (empty, tokens)

-- what a plan reads, where this reads its parts
abbrev pub run : {S : Type 0} → (S → Reader) → Plan S → Reader
run at Nothing = λ tokens. Some (empty, tokens)
run at (Sign test) = sign_in test
run at (Before test) = before_in test
run at (Part sort) = at sort
run at (Node form below) = node_in form (run at below)
run at (Then first second) = then_in (run at first) (run at second)
run at (Either test first second) = either_in test (run at first) (run at second)
run at (Many test item) = λ tokens. many_in test (run at item) (length tokens) tokens
