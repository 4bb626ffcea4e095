-- What reading again needs: first tokens, tokens of trees put together, and loops that come to the end of a tree.
use Rattle.std.proofs.Common.{◌≡◌, ℕ, zero, suc, ◌≤◌, ◌<◌, Bool, true, false, List, ◌∷◌, ◌++◌, length, Option, Some, refl, sym, ap, ◌∙◌, subst, arith}
use Rattle.std.proofs.lemmas.List.{append-nil, length-append}
use Rattle.go_ast.specs.declared.token.Kind.{Kind}
use Rattle.go_ast.specs.declared.token.Kind.TheVariants as kinds
use Rattle.go_ast.specs.declared.token.Token.{Token}
use Rattle.go_grammar.specs.Forests.{Form, Forest, empty, node, append, yield}
use Rattle.go_grammar.specs.Shapes as shapes
use Rattle.go_grammar.specs.Shapes.{Shape, Fits, is}
use Rattle.go_grammar.specs.Grammar.{Sort, grammar, precedence}
use Rattle.go_grammar.specs.Reading.{Reader, many_in}
use Rattle.go_grammar.specs.Tests.{begins}
use Rattle.go_grammar.specs.TypeReading.{Place}
use Rattle.go_grammar.specs.ExprReading.{Turn, Done, On, repeat, Left}
use Rattle.go_grammar.proofs.Forests.{yield-append}
use Rattle.go_grammar.proofs.SameKinds.{is_same}
use Rattle.go_grammar.proofs.TypeTakes.{tight}
use Rattle.go_grammar.proofs.Again.{regroup}
use Rattle.go_grammar.proofs.Fronts.{heads, is_empty, IsFirst, Front, none, some, front}
use Rattle.go_grammar.proofs.Choices.{behind, first_behind}
use Rattle.go_grammar.proofs.Rereads.{ends_by, ends_operand}

-- ---- first tokens

-- what begins otherwise does not begin with this
pub starts_not : (test : Kind → Bool) (kind : Kind) (tokens : List Token) → test kind ≡ false → IsFirst test tokens → begins kind tokens ≡ false
starts_not test kind tokens h f = ap (begins kind) f.all ∙ go (is f.token.kind kind) refl
  where
    go : (b : Bool) → is f.token.kind kind ≡ b → b ≡ false
    go false e = refl
    go true e = let clash : true ≡ false = sym f.kind ∙ ap test (is_same f.token.kind kind e) ∙ h in absurd cc

-- what a part begins with
pub starts : (sort : Sort) (tree : Forest) (rest : List Token) → is_empty sort ≡ false → Fits grammar (shapes.Part sort) tree rest → IsFirst (heads sort) (yield tree ++ rest)
starts sort tree rest full x = go (front x)
  where
    go : Front (shapes.Part sort) (yield tree) → IsFirst (heads sort) (yield tree ++ rest)
    go (none e h) = let clash : true ≡ false = sym h ∙ full in absurd cc
    go (some f) = record { token = f.token; others = f.others ++ rest; all = ap (λ (ws : List Token). ws ++ rest) f.all; kind = f.kind }

pub part_not : (sort : Sort) (kind : Kind) (tree : Forest) (rest : List Token) → is_empty sort ≡ false → heads sort kind ≡ false → Fits grammar (shapes.Part sort) tree rest → begins kind (yield tree ++ rest) ≡ false
part_not sort kind tree rest full other x = starts_not (heads sort) kind (yield tree ++ rest) other (starts sort tree rest full x)

-- ---- what stands behind an expression in brackets

abbrev pub ends_item : Kind → Bool
ends_item kinds.Comma = true
ends_item kinds.Colon = true
ends_item kinds.Ellipsis = true
ends_item kinds.CloseParen = true
ends_item kinds.CloseBracket = true
ends_item kinds.CloseBrace = true
ends_item _ = false

-- no operand and no operator goes on
pub record Ended (place : Place) (rest : List Token) : Type 0 where
  pub operand : ends_operand place rest ≡ true
  pub loose : tight rest < 1

pub ended : (place : Place) (rest : List Token) → IsFirst ends_item rest → Ended place rest
ended place rest f = subst (Ended place) (sym f.all) (record { operand = (go f.token.kind f.kind).0; loose = (go f.token.kind f.kind).1 })
  where
    go : (kind : Kind) → ends_item kind ≡ true → (ends_by place kind f.others ≡ true) × (precedence kind < 1)
    go kinds.Comma h = (refl, omega arith)
    go kinds.Colon h = (refl, omega arith)
    go kinds.Ellipsis h = (refl, omega arith)
    go kinds.CloseParen h = (refl, omega arith)
    go kinds.CloseBracket h = (refl, omega arith)
    go kinds.CloseBrace h = (refl, omega arith)
    go _ h = absurd cc

pub first_is : (test : Kind → Bool) (kind : Kind) (token : Token) (rest : List Token) → test kind ≡ true → is token.kind kind ≡ true → IsFirst test (token ∷ rest)
first_is test kind token rest h e = record { token = token; others = rest; all = refl; kind = ap test (is_same token.kind kind e) ∙ h }

-- ---- tokens

pub node_spelled : (form : Form) (left right : Forest) (rest : List Token) → yield (node form (append left right) empty) ++ rest ≡ yield left ++ (yield right ++ rest)
node_spelled form left right rest = ap (λ (ws : List Token). ws ++ rest) (append-nil (yield (append left right))) ∙ regroup left right rest

pub node_long : (form : Form) (left right : Forest) → length (yield (node form (append left right) empty)) ≡ length (yield left ++ yield right)
node_long form left right = ap length (append-nil (yield (append left right)) ∙ yield-append left right)

-- ---- loops

-- reading comes to here, with turns left for what follows
pub record Reaches (turn : Left → Option (Turn Left)) (read : Option Left) (s : Left) : Type 0 where
  pub turns : ℕ
  pub room : length s.1 ≤ turns
  pub comes : read ≡ repeat turn turns s

pub one_more : (turn : Left → Option (Turn Left)) (read : Option Left) (s t : Left) → turn s ≡ Some (On t) → length t.1 < length s.1 → Reaches turn read s → Reaches turn read t
one_more turn read s t e lt r = go r.turns r.room r.comes
  where
    go : (n : ℕ) → length s.1 ≤ n → read ≡ repeat turn n s → Reaches turn read t
    go zero room comes = absurd (omega arith)
    go (suc n) room comes =
        let step : repeat turn (suc n) s ≡ repeat turn n t = rw e refl in
        record { turns = n; room = omega arith; comes = comes ∙ step }

pub reaches_end : (turn : Left → Option (Turn Left)) (read : Option Left) (s : Left) → turn s ≡ Some (Done s) → Reaches turn read s → read ≡ Some s
reaches_end turn read s e r = r.comes ∙ go r.turns
  where
    go : (n : ℕ) → repeat turn n s ≡ Some s
    go zero = refl
    go (suc n) = rw e refl

-- Items that are read again, up to what ends them.
module _ (test : List Token → Bool) (item : Reader) (shape : Shape Sort) (next follow : Kind → Bool) (room : ℕ)
    (each : (tree : Forest) (rest : List Token) → Fits grammar shape tree rest → IsFirst next rest → length (yield tree) ≤ room → (test (yield tree ++ rest) ≡ true) × (0 < length (yield tree)) × (item (yield tree ++ rest) ≡ Some (tree, rest)))
    (between : (tokens : List Token) → IsFirst (behind (shapes.Many shape) follow) tokens → IsFirst next tokens)
    (ends : (rest : List Token) → IsFirst follow rest → test rest ≡ false) where
  pub many_read : (n : ℕ) {tree : Forest} {rest : List Token} → Fits grammar (shapes.Many shape) tree rest → IsFirst follow rest → length (yield tree) ≤ room → length (yield tree) ≤ n → many_in test item n (yield tree ++ rest) ≡ Some (tree, rest)
  many_read zero shapes.done f le le' = refl
  many_read (suc n) (shapes.done {rest = rest}) f le le' = rw (ends rest f) refl
  many_read zero (shapes.more {left = left} {right = right} {rest = rest} x y) f le le' =
      let one = each left (yield right ++ rest) x (between (yield right ++ rest) (first_behind follow y f)) (omega (arith, ap length (yield-append left right), length-append (yield left) (yield right))) in
      absurd (omega (arith, one.1, ap length (yield-append left right), length-append (yield left) (yield right)))
  many_read (suc n) (shapes.more {left = left} {right = right} {rest = rest} x y) f le le' =
      let one = each left (yield right ++ rest) x (between (yield right ++ rest) (first_behind follow y f)) (omega (arith, ap length (yield-append left right), length-append (yield left) (yield right))) in
      let others = many_read n y f (omega (arith, ap length (yield-append left right), length-append (yield left) (yield right))) (omega (arith, one.1, ap length (yield-append left right), length-append (yield left) (yield right))) in
      rw (regroup left right rest, one.0, one.2, others) refl
