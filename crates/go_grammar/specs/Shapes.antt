-- Shapes of trees, and which trees fit a grammar.
use Rattle.std.specs.Prelude.{◌≡◌, List, [], ◌∷◌, ◌++◌, Bool, true, not}
use Rattle.go_ast.specs.declared.token.Kind.{Kind}
use Rattle.go_ast.specs.declared.token.Token.{Token}
use Rattle.go_ast.specs.contracts.token.Kind.{the_type}
use Rattle.go_grammar.specs.Forests.{Form, Forest, empty, leaf, node, append, yield}
use denote.Enum.Bare.{sameb}

-- The right side of a production, in which S names productions.
pub data Shape (S : Type 0) : Type 0 where
  -- nothing at all
  Nothing : Shape S
  -- a token of a kind that passes a test
  Sign : (test : Kind → Bool) → Shape S
  -- nothing, before a token of such a kind or at the very end
  Before : (test : Kind → Bool) → Shape S
  -- what a production gives
  Part : (sort : S) → Shape S
  -- a node, and the shape of what is below it
  Node : (form : Form) (below : Shape S) → Shape S
  Then : (first second : Shape S) → Shape S
  Either : (first second : Shape S) → Shape S
  -- any number, none as well
  Many : (item : Shape S) → Shape S

infixr 30 ◌⨟◌
abbrev pub ◌⨟◌ : {S : Type 0} → Shape S → Shape S → Shape S
first ⨟ second = Then first second

infixr 20 ◌∣◌
abbrev pub ◌∣◌ : {S : Type 0} → Shape S → Shape S → Shape S
first ∣ second = Either first second

abbrev pub maybe : {S : Type 0} → Shape S → Shape S
maybe shape = Either shape Nothing

abbrev pub is : Kind → Kind → Bool
is a b = sameb the_type a b

abbrev pub word : {S : Type 0} → Kind → Shape S
word kind = Sign (λ other. is other kind)

abbrev pub not_before : {S : Type 0} → (Kind → Bool) → Shape S
not_before test = Before (λ kind. not (test kind))

-- the first of these tokens has a kind that passes a test, where there are any
abbrev pub IsNext : (Kind → Bool) → List Token → Type 0
IsNext test [] = Unit {0}
IsNext test (token ∷ tokens) = test token.kind ≡ true

-- A tree has a shape where these tokens stand behind it.
pub data Fits {S : Type 0} (grammar : S → Shape S) : Shape S → Forest → List Token → Type 0 where
  nothing : {rest : List Token} → Fits grammar Nothing empty rest
  sign : {test : Kind → Bool} {token : Token} {rest : List Token} → test token.kind ≡ true
      → Fits grammar (Sign test) (leaf token empty) rest
  before : {test : Kind → Bool} {rest : List Token} → IsNext test rest → Fits grammar (Before test) empty rest
  part : {sort : S} {tree : Forest} {rest : List Token} → Fits grammar (grammar sort) tree rest
      → Fits grammar (Part sort) tree rest
  below : {form : Form} {shape : Shape S} {trees : Forest} {rest : List Token} → Fits grammar shape trees rest
      → Fits grammar (Node form shape) (node form trees empty) rest
  both : {a b : Shape S} {left right : Forest} {rest : List Token} → Fits grammar a left (yield right ++ rest)
      → Fits grammar b right rest → Fits grammar (Then a b) (append left right) rest
  first : {a b : Shape S} {tree : Forest} {rest : List Token} → Fits grammar a tree rest
      → Fits grammar (Either a b) tree rest
  second : {a b : Shape S} {tree : Forest} {rest : List Token} → Fits grammar b tree rest
      → Fits grammar (Either a b) tree rest
  done : {a : Shape S} {rest : List Token} → Fits grammar (Many a) empty rest
  more : {a : Shape S} {left right : Forest} {rest : List Token} → Fits grammar a left (yield right ++ rest)
      → Fits grammar (Many a) right rest → Fits grammar (Many a) (append left right) rest
