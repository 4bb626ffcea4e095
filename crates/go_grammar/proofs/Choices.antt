-- Plans whose choices are decided by what trees begin with, and by what may stand behind them.
use Rattle.std.proofs.Common.{◌≡◌, ℕ, ◌+◌, ◌≤◌, leb, Bool, true, false, cond, List, ◌++◌, length, refl, sym, ap, ◌∙◌, subst, arith}
use Rattle.std.proofs.lemmas.Bool.{leb-true, leb-false}
use Rattle.std.proofs.lemmas.List.{append-nil, length-append}
use Rattle.std.specs.Prelude.{◌&&◌, ◌||◌, not, if◌then◌else◌}
use Rattle.go_ast.specs.declared.token.Kind.{Kind}
use Rattle.go_ast.specs.declared.token.Token.{Token}
use Rattle.go_grammar.specs.Forests.{Forest, append, yield}
use Rattle.go_grammar.specs.Shapes as shapes
use Rattle.go_grammar.specs.Shapes.{Shape, Fits, IsNext}
use Rattle.go_grammar.specs.Grammar.{Sort, grammar}
use Rattle.go_grammar.specs.Reading.{Plan, Nothing, Sign, Before, Part, Node, Then, Either, Many, shape_of, is_next}
use Rattle.go_grammar.proofs.Forests.{yield-append}
use Rattle.go_grammar.proofs.Again.{regroup, AreChosen, IsChosen}
use Rattle.go_grammar.proofs.Cuts.{implies, implied}
use Rattle.go_grammar.proofs.Fronts.{heads, heads_of, empties, is_empty, IsFirst, Front, none, some, front}

-- what may stand at the front of a shape and what is behind it
abbrev pub behind : Shape Sort → (Kind → Bool) → Kind → Bool
behind shapes.Nothing follow kind = follow kind
behind (shapes.Sign test) follow kind = test kind
behind (shapes.Before test) follow kind = test kind && follow kind
behind (shapes.Part sort) follow kind = heads sort kind || (is_empty sort && follow kind)
behind (shapes.Node form inner) follow kind = behind inner follow kind
behind (shapes.Then a b) follow kind = behind a (behind b follow) kind
behind (shapes.Either a b) follow kind = behind a follow kind || behind b follow kind
behind (shapes.Many a) follow kind = heads_of a kind || (true && follow kind)

or_left : (a b : Bool) → a ≡ true → (a || b) ≡ true
or_left true b h = refl
or_left false b h = absurd cc

or_right : (a b : Bool) → b ≡ true → (a || b) ≡ true
or_right true b h = refl
or_right false b h = h

or_and : (a b c : Bool) → b ≡ true → c ≡ true → (a || (b && c)) ≡ true
or_and true b c h k = refl
or_and false true c h k = k
or_and false false c h k = absurd cc

and_both : (a b : Bool) → a ≡ true → b ≡ true → (a && b) ≡ true
and_both true b h k = k
and_both false b h k = absurd cc

-- by what the whole begins with, and whether it may be empty
first_of_whole : (follow : Kind → Bool) {shape : Shape Sort} {tree : Forest} {rest : List Token} → Fits grammar shape tree rest → IsFirst follow rest → IsFirst (λ kind. heads_of shape kind || (empties shape && follow kind)) (yield tree ++ rest)
first_of_whole follow {shape} {tree} {rest} x f = go (front x)
  where
    go : Front shape (yield tree) → IsFirst (λ kind. heads_of shape kind || (empties shape && follow kind)) (yield tree ++ rest)
    go (none e h) = record { token = f.token; others = f.others; all = ap (λ (ws : List Token). ws ++ rest) e ∙ f.all; kind = or_and (heads_of shape f.token.kind) (empties shape) (follow f.token.kind) h f.kind }
    go (some g) = record { token = g.token; others = g.others ++ rest; all = ap (λ (ws : List Token). ws ++ rest) g.all; kind = or_left (heads_of shape g.token.kind) _ g.kind }

pub first_behind : (follow : Kind → Bool) {shape : Shape Sort} {tree : Forest} {rest : List Token} → Fits grammar shape tree rest → IsFirst follow rest → IsFirst (behind shape follow) (yield tree ++ rest)
first_behind follow shapes.nothing f = record { token = f.token; others = f.others; all = f.all; kind = f.kind }
first_behind follow (shapes.sign {token = token} {rest = rest} e) f = record { token = token; others = rest; all = refl; kind = e }
first_behind follow (shapes.before {test = test} {rest = rest} e) f =
    let t : test f.token.kind ≡ true = subst (IsNext test) f.all e in
    record { token = f.token; others = f.others; all = f.all; kind = and_both (test f.token.kind) (follow f.token.kind) t f.kind }
first_behind follow (shapes.part {sort = sort} {tree = tree} {rest = rest} x) f =
    let g = first_of_whole follow {shape = shapes.Part sort} {tree = tree} {rest = rest} (shapes.part x) f in
    record { token = g.token; others = g.others; all = g.all; kind = g.kind }
first_behind follow (shapes.below {trees = trees} {rest = rest} x) f =
    let g = first_behind follow x f in
    record { token = g.token; others = g.others; all = ap (λ (ws : List Token). ws ++ rest) (append-nil (yield trees)) ∙ g.all; kind = g.kind }
first_behind follow (shapes.both {b = b} {left = left} {right = right} {rest = rest} x y) f =
    let g = first_behind (behind b follow) x (first_behind follow y f) in
    record { token = g.token; others = g.others; all = regroup left right rest ∙ g.all; kind = g.kind }
first_behind follow (shapes.first {a = a} {b = b} x) f =
    let g = first_behind follow x f in
    record { token = g.token; others = g.others; all = g.all; kind = or_left (behind a follow g.token.kind) (behind b follow g.token.kind) g.kind }
first_behind follow (shapes.second {a = a} {b = b} x) f =
    let g = first_behind follow x f in
    record { token = g.token; others = g.others; all = g.all; kind = or_right (behind a follow g.token.kind) (behind b follow g.token.kind) g.kind }
first_behind follow (shapes.done {a = a}) f = record { token = f.token; others = f.others; all = f.all; kind = or_right (heads_of a f.token.kind) (follow f.token.kind) f.kind }
first_behind follow (shapes.more {a = a} {left = left} {right = right} {rest = rest} x y) f =
    let g = first_of_whole follow {shape = shapes.Many a} {tree = append left right} {rest = rest} (shapes.more x y) f in
    record { token = g.token; others = g.others; all = g.all; kind = g.kind }

-- at least so many tokens
abbrev pub least : Shape Sort → ℕ
least shapes.Nothing = 0
least (shapes.Sign test) = 1
least (shapes.Before test) = 0
least (shapes.Part sort) = if is_empty sort then 0 else 1
least (shapes.Node form inner) = least inner
least (shapes.Then a b) = least a + least b
least (shapes.Either a b) = if leb (least a) (least b) then least a else least b
least (shapes.Many a) = 0

long_first : (test : Kind → Bool) (tokens : List Token) → IsFirst test tokens → 1 ≤ length tokens
long_first test tokens f = omega (arith, ap length f.all)

pub at_least : {shape : Shape Sort} {tree : Forest} {rest : List Token} → Fits grammar shape tree rest → least shape ≤ length (yield tree)
at_least shapes.nothing = omega arith
at_least (shapes.sign e) = omega arith
at_least (shapes.before e) = omega arith
at_least (shapes.part {sort = sort} {tree = tree} {rest = rest} x) = go (front whole) (is_empty sort) refl
  where
    whole : Fits grammar (shapes.Part sort) tree rest
    whole = shapes.part x

    go : Front (shapes.Part sort) (yield tree) → (b : Bool) → is_empty sort ≡ b → cond b 0 1 ≤ length (yield tree)
    go f true e = omega arith
    go (none n h) false e = let clash : true ≡ false = sym h ∙ e in absurd cc
    go (some f) false e = long_first (heads_of (shapes.Part sort)) (yield tree) f
at_least (shapes.below {trees = trees} x) = omega (arith, at_least x, ap length (append-nil (yield trees)))
at_least (shapes.both {left = left} {right = right} x y) = omega (arith, at_least x, at_least y, ap length (yield-append left right), length-append (yield left) (yield right))
at_least (shapes.first {a = a} {b = b} {tree = tree} x) = go (leb (least a) (least b)) refl (at_least x)
  where
    go : (t : Bool) → leb (least a) (least b) ≡ t → least a ≤ length (yield tree) → cond t (least a) (least b) ≤ length (yield tree)
    go true e h = h
    go false e h = omega (arith, leb-false (least a) (least b) e)
at_least (shapes.second {a = a} {b = b} {tree = tree} x) = go (leb (least a) (least b)) refl (at_least x)
  where
    go : (t : Bool) → leb (least a) (least b) ≡ t → least b ≤ length (yield tree) → cond t (least a) (least b) ≤ length (yield tree)
    go true e h = omega (arith, leb-true (least a) (least b) e)
    go false e h = h
at_least shapes.done = omega arith
at_least (shapes.more x y) = omega arith

module _ (follow : Sort → Kind → Bool) (deficit : Sort → ℕ) where
  abbrev pub Picks : (List Token → Bool) → Shape Sort → (Kind → Bool) → Bool → Type 0
  Picks test shape next answer = (tree : Forest) (rest : List Token) → Fits grammar shape tree rest → IsFirst next rest → test (yield tree ++ rest) ≡ answer

  -- The tests of a plan are right wherever next says what may stand behind, with so many tokens beside it.
  abbrev pub Sure : Plan Sort → (Kind → Bool) → ℕ → Type 0
  Sure Nothing next beside = Unit {0}
  Sure (Sign test) next beside = Unit {0}
  Sure (Before test) next beside = Unit {0}
  Sure (Part sort) next beside = (implies next (follow sort) ≡ true) × (leb (deficit sort) beside ≡ true)
  Sure (Node form plan) next beside = Sure plan next beside
  Sure (Then a b) next beside = Sure a (behind (shape_of b) next) (beside + least (shape_of b)) × Sure b next (beside + least (shape_of a))
  Sure (Either test a b) next beside = Picks test (shape_of a) next true × Picks test (shape_of b) next false × Sure a next beside × Sure b next beside
  Sure (Many test a) next beside =
      Picks test (shape_of a) (behind (shapes.Many (shape_of a)) next) true × ((rest : List Token) → IsFirst next rest → test rest ≡ false) × (leb 1 (least (shape_of a)) ≡ true) × Sure a (behind (shapes.Many (shape_of a)) next) beside

  -- what a part needs to be read again
  pub record IsRoomy (room : ℕ) (sort : Sort) (tree : Forest) (rest : List Token) : Type 0 where
    pub next : IsFirst (follow sort) rest
    pub fits : length (yield tree) + deficit sort ≤ room

  module _ (room : ℕ) where
    many_chosen : (test : List Token → Bool) (shape : Shape Sort) (Q : (tree : Forest) (rest : List Token) → Fits grammar shape tree rest → Type 0) (next : Kind → Bool) (beside : ℕ)
        → Picks test shape (behind (shapes.Many shape) next) true → ((rest : List Token) → IsFirst next rest → test rest ≡ false) → leb 1 (least shape) ≡ true
        → ((tree : Forest) (rest : List Token) (x : Fits grammar shape tree rest) → IsFirst (behind (shapes.Many shape) next) rest → length (yield tree) + beside ≤ room → Q tree rest x)
        → {tree : Forest} {rest : List Token} (x : Fits grammar (shapes.Many shape) tree rest) → IsFirst next rest → length (yield tree) + beside ≤ room
        → AreChosen grammar (IsRoomy room) test Q x
    many_chosen test shape Q next beside picks ends long one (shapes.done {rest = rest}) f le = ends rest f
    many_chosen test shape Q next beside picks ends long one (shapes.more {left = left} {right = right} {rest = rest} x y) f le =
        let g = first_behind next y f in
        let total = length-append (yield left) (yield right) in
        let split = ap length (yield-append left right) in (
          picks left (yield right ++ rest) x g,
          omega (arith, leb-true 1 (least shape) long, at_least x),
          one left (yield right ++ rest) x g (omega (arith, le, split, total)),
          many_chosen test shape Q next beside picks ends long one y f (omega (arith, le, split, total)),
        )

    pub chosen : (plan : Plan Sort) (next : Kind → Bool) (beside : ℕ) → Sure plan next beside → {tree : Forest} {rest : List Token} (x : Fits grammar (shape_of plan) tree rest) → IsFirst next rest → length (yield tree) + beside ≤ room → IsChosen grammar (IsRoomy room) plan x
    chosen Nothing next beside s x f le = tt
    chosen (Sign test) next beside s x f le = tt
    chosen (Before test) next beside s x f le = tt
    chosen (Part sort) next beside s {tree} x f le = record {
      next = record { token = f.token; others = f.others; all = f.all; kind = implied next (follow sort) s.0 f.token.kind f.kind };
      fits = omega (arith, le, leb-true (deficit sort) beside s.1);
    }
    chosen (Node form plan) next beside s (shapes.below {trees = trees} x) f le = chosen plan next beside s x f (omega (arith, le, ap length (append-nil (yield trees))))
    chosen (Then a b) next beside s (shapes.both {left = left} {right = right} x y) f le =
        let total = length-append (yield left) (yield right) in
        let split = ap length (yield-append left right) in
        (chosen a (behind (shape_of b) next) (beside + least (shape_of b)) s.0 x (first_behind next y f) (omega (arith, le, split, total, at_least y)), chosen b next (beside + least (shape_of a)) s.1 y f (omega (arith, le, split, total, at_least x)))
    chosen (Either test a b) next beside s (shapes.first {tree = tree} {rest = rest} x) f le = (s.0 tree rest x f, chosen a next beside s.2 x f le)
    chosen (Either test a b) next beside s (shapes.second {tree = tree} {rest = rest} x) f le = (s.1 tree rest x f, chosen b next beside s.3 x f le)
    chosen (Many test a) next beside s x f le =
        many_chosen test (shape_of a) (λ tree rest y. IsChosen grammar (IsRoomy room) a y) next beside s.0 s.1 s.2 (λ tree rest y g k. chosen a (behind (shapes.Many (shape_of a)) next) beside s.3 y g k) x f le

-- ---- tests of the next token

-- where what is at the front passes a test
pub next_is : (test : Kind → Bool) (shape : Shape Sort) (next : Kind → Bool) → implies (behind shape next) test ≡ true → (tree : Forest) (rest : List Token) → Fits grammar shape tree rest → IsFirst next rest → is_next test (yield tree ++ rest) ≡ true
next_is test shape next h tree rest x f =
    let g = first_behind next x f in
    ap (is_next test) g.all ∙ implied (behind shape next) test h g.token.kind g.kind

-- a test whose negation holds
pub flip : (b : Bool) → not b ≡ true → b ≡ false
flip false h = refl
flip true h = absurd cc

pub next_is_not : (test : Kind → Bool) (shape : Shape Sort) (next : Kind → Bool) → implies (behind shape next) (λ kind. not (test kind)) ≡ true → (tree : Forest) (rest : List Token) → Fits grammar shape tree rest → IsFirst next rest → is_next test (yield tree ++ rest) ≡ false
next_is_not test shape next h tree rest x f =
    let g = first_behind next x f in
    ap (is_next test) g.all ∙ flip (test g.token.kind) (implied (behind shape next) (λ kind. not (test kind)) h g.token.kind g.kind)

-- what stands behind passes a test
pub behind_is : (test next : Kind → Bool) → implies next test ≡ true → (rest : List Token) → IsFirst next rest → is_next test rest ≡ true
behind_is test next h rest f = ap (is_next test) f.all ∙ implied next test h f.token.kind f.kind

pub behind_is_not : (test next : Kind → Bool) → implies next (λ kind. not (test kind)) ≡ true → (rest : List Token) → IsFirst next rest → is_next test rest ≡ false
behind_is_not test next h rest f = ap (is_next test) f.all ∙ flip (test f.token.kind) (implied next (λ kind. not (test kind)) h f.token.kind f.kind)
