-- How many items from the front on pass a test.
use Rattle.std.proofs.Common.{◌≡◌, ℕ, suc, zero, ◌+◌, ◌<◌, ◌≤◌, Bool, true, false, ◌&&◌, cond, List, [], ◌∷◌, length, take, get_or, refl, sym, ◌∙◌, ap, arith}
use Rattle.std.specs.Prelude.{take_while}
use Rattle.std.specs.List.{list_all, prefix_len}
use Rattle.std.proofs.lemmas.List.{take_all}

first : (b c : Bool) → b && c ≡ true → b ≡ true
first true c h = refl
first false c h = h

second : (b c : Bool) → b && c ≡ true → c ≡ true
second true c h = h
second false c h = cc

module _ {A : Type 0} (test : A → Bool) where
  passes : (x : A) (xs : List A) → test x ≡ true → length (take_while test (x ∷ xs)) ≡ suc (length (take_while test xs))
  passes x xs h =
      let more : 1 + prefix_len test xs ≡ suc (prefix_len test xs) = omega arith in
      ap (λ b. length (take (cond b (1 + prefix_len test xs) 0) (x ∷ xs))) h ∙ ap (λ k. length (take k (x ∷ xs))) more

  -- the first that fails stands behind as many
  pub front-to : (xs : List A) (i : ℕ) (x d : A) → i < length xs → x ≡ get_or xs i d → test x ≡ false → list_all test (take i xs) ≡ true → i ≡ length (take_while test xs)
  front-to [] i x d h e fails all = absurd (omega arith)
  front-to (y ∷ ys) zero x d h e fails all = sym (ap (λ b. length (take (cond b (1 + prefix_len test ys) 0) (y ∷ ys))) (ap test (sym e) ∙ fails))
  front-to (y ∷ ys) (suc i) x d h e fails all =
      ap suc (front-to ys i x d (omega arith) e fails (second (test y) (list_all test (take i ys)) all)) ∙ sym (passes y ys (first (test y) (list_all test (take i ys)) all))

  whole : (xs : List A) → list_all test xs ≡ true → length xs ≡ length (take_while test xs)
  whole [] all = refl
  whole (y ∷ ys) all = ap suc (whole ys (second (test y) (list_all test ys) all)) ∙ sym (passes y ys (first (test y) (list_all test ys) all))

  -- where none fails it is all of them
  pub front-whole : (xs : List A) (i : ℕ) → length xs ≤ i → list_all test (take i xs) ≡ true → length xs ≡ length (take_while test xs)
  front-whole xs i h all = whole xs (ap (list_all test) (sym (take_all i xs h)) ∙ all)
