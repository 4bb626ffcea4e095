-- What fits is read again, where the tokens choose as the tree does.
use Rattle.std.proofs.Common.{◌≡◌, ℕ, zero, suc, ◌≤◌, ◌<◌, Bool, true, false, List, ◌++◌, length, Some, refl, ap, ◌∙◌, append_assoc, arith}
use Rattle.std.proofs.lemmas.List.{append-nil, length-append}
use Rattle.go_ast.specs.declared.token.Token.{Token}
use Rattle.go_grammar.specs.Forests.{Forest, append, yield}
use Rattle.go_grammar.specs.Shapes as shapes
use Rattle.go_grammar.specs.Shapes.{Shape, Fits, IsNext, nothing, sign, before, part, below, both, first, second, done, more}
use Rattle.go_grammar.specs.Reading.{Reader, is_before, Plan, Nothing, Sign, Before, Part, Node, Then, Either, Many, shape_of, many_in, run}
use Rattle.go_grammar.proofs.Forests.{yield-append}
use Rattle.go_grammar.proofs.Takes.{is_nexts}

-- the tokens of two trees, one behind the other, and what stands behind
pub regroup : (left right : Forest) (rest : List Token) → yield (append left right) ++ rest ≡ yield left ++ (yield right ++ rest)
regroup left right rest = ap (λ (front : List Token). front ++ rest) (yield-append left right) ∙ append_assoc (yield left) (yield right) rest

module _ {S : Type 0} (grammar : S → Shape S) (P : S → Forest → List Token → Type 0) where
  -- Each item passes the test at its front, and has tokens; what stands behind fails the test.
  abbrev pub AreChosen : (test : List Token → Bool) {a : Shape S} (Q : (tree : Forest) (rest : List Token) → Fits grammar a tree rest → Type 0) {tree : Forest} {rest : List Token} → Fits grammar (shapes.Many a) tree rest → Type 0
  AreChosen test Q (done {rest = rest}) = test rest ≡ false
  AreChosen test Q (more {left = left} {right = right} {rest = rest} x y) =
      (test (yield left ++ (yield right ++ rest)) ≡ true) × (0 < length (yield left)) × Q left (yield right ++ rest) x × AreChosen test Q y

  -- At each choice the tokens pass the test exactly where the tree has the first; and P holds of each part.
  abbrev pub IsChosen : (plan : Plan S) {tree : Forest} {rest : List Token} → Fits grammar (shape_of plan) tree rest → Type 0
  IsChosen Nothing x = Unit {0}
  IsChosen (Sign test) x = Unit {0}
  IsChosen (Before test) x = Unit {0}
  IsChosen (Part sort) {tree} {rest} x = P sort tree rest
  IsChosen (Node form plan) (below x) = IsChosen plan x
  IsChosen (Then a b) (both x y) = IsChosen a x × IsChosen b y
  IsChosen (Either test a b) (first {tree = tree} {rest = rest} x) = (test (yield tree ++ rest) ≡ true) × IsChosen a x
  IsChosen (Either test a b) (second {tree = tree} {rest = rest} x) = (test (yield tree ++ rest) ≡ false) × IsChosen b x
  IsChosen (Many test a) x = AreChosen test (λ tree rest y. IsChosen a y) x

  many_again : (test : List Token → Bool) (item : Reader) {a : Shape S} (Q : (tree : Forest) (rest : List Token) → Fits grammar a tree rest → Type 0)
      → ((tree : Forest) (rest : List Token) (x : Fits grammar a tree rest) → Q tree rest x → item (yield tree ++ rest) ≡ Some (tree, rest))
      → (n : ℕ) {tree : Forest} {rest : List Token} (x : Fits grammar (shapes.Many a) tree rest) → AreChosen test Q x → length (yield tree) ≤ n
      → many_in test item n (yield tree ++ rest) ≡ Some (tree, rest)
  many_again test item Q again zero done h le = refl
  many_again test item Q again (suc n) done h le = rw h refl
  many_again test item Q again zero (more {left = left} {right = right} x y) h le = absurd (omega (arith, h.1, ap length (yield-append left right), length-append (yield left) (yield right)))
  many_again test item Q again (suc n) (more {left = left} {right = right} {rest = rest} x y) h le =
      let item_read = again left (yield right ++ rest) x h.2 in
      let more_read = many_again test item Q again n y h.3 (omega (arith, h.1, ap length (yield-append left right), length-append (yield left) (yield right))) in
      rw (regroup left right rest, h.0, item_read, more_read) refl

  module _ (at : S → Reader) (parts : (sort : S) (tree : Forest) (rest : List Token) → Fits grammar (shapes.Part sort) tree rest → P sort tree rest → at sort (yield tree ++ rest) ≡ Some (tree, rest)) where
    pub run_again : (plan : Plan S) {tree : Forest} {rest : List Token} (x : Fits grammar (shape_of plan) tree rest) → IsChosen plan x → run at plan (yield tree ++ rest) ≡ Some (tree, rest)
    run_again Nothing nothing h = refl
    run_again (Sign test) (sign e) h = rw e refl
    run_again (Before test) (before {rest = rest} e) h = let t : is_before test rest ≡ true = is_nexts test rest e in rw t refl
    run_again (Part sort) {tree} {rest} x h = parts sort tree rest x h
    run_again (Node form plan) (below {trees = trees} {rest = rest} x) h =
        let read = run_again plan x h in
        rw (append-nil (yield trees), read) refl
    run_again (Then a b) (both {left = left} {right = right} {rest = rest} x y) h =
        let read = run_again a x h.0 in
        let read' = run_again b y h.1 in
        rw (regroup left right rest, read, read') refl
    run_again (Either test a b) (first x) h = rw h.0 (run_again a x h.1)
    run_again (Either test a b) (second x) h = rw h.0 (run_again b x h.1)
    run_again (Many test a) {tree} {rest} x h =
        many_again test (run at a) (λ tree rest y. IsChosen a y) (λ tree rest y k. run_again a y k) (length (yield tree ++ rest)) x h (omega (arith, length-append (yield tree) rest))
