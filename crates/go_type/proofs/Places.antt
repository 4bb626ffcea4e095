-- Places in a list of things that are there once each.
use Rattle.std.proofs.Common.{◌≡◌, ℕ, suc, ◌+◌, Bool, true, false, true≢false, not, ◌||◌, cond, List, [], ◌∷◌, ◌++◌, length, Some, slice_get, refl, sym, ap, ◌∙◌, arith}
use Rattle.std.specs.List.{list_any, position_or_len, position}
use Rattle.std.proofs.lemmas.Bool.Decides.{nat_tests}

one_more : (n : ℕ) → 1 + n ≡ suc n
one_more n = omega arith

-- the place that `position` gives
pub found_place : {X : Type 0} (test : X → Bool) (xs : List X) (i : ℕ) → Some i ≡ position test xs → i ≡ position_or_len test xs
found_place test xs i h = grind (arith, nat_tests)

pub absent_place : {X : Type 0} (test : X → Bool) (xs : List X) → list_any test xs ≡ false → position_or_len test xs ≡ length xs
absent_place test [] h = refl
absent_place test (x ∷ xs) h = first (test x) refl (absent_place test xs)
  where
    first : (b : Bool) → test x ≡ b → (list_any test xs ≡ false → position_or_len test xs ≡ length xs) → position_or_len test (x ∷ xs) ≡ length (x ∷ xs)
    first true e rest = absurd (true≢false (sym (ap (λ c. c || list_any test xs) e) ∙ h))
    first false e rest =
        ap (λ c. cond (not c) (1 + position_or_len test xs) 0) e ∙ one_more (position_or_len test xs)
        ∙ ap suc (rest (sym (ap (λ c. c || list_any test xs) e) ∙ h))

module _ {X : Type 0} (same : X → X → Bool) (t : X) (is : (x : X) → same t x ≡ true → t ≡ x) where
  -- what is there is at its place
  pub at_place : (xs : List X) → list_any (same t) xs ≡ true → slice_get xs (position_or_len (same t) xs) ≡ Some t
  at_place [] h = absurd (true≢false (sym h))
  at_place (x ∷ xs) h = first (same t x) refl (at_place xs)
    where
      first : (b : Bool) → same t x ≡ b → (list_any (same t) xs ≡ true → slice_get xs (position_or_len (same t) xs) ≡ Some t)
          → slice_get (x ∷ xs) (position_or_len (same t) (x ∷ xs)) ≡ Some t
      first true e rest = ap (λ c. slice_get (x ∷ xs) (cond (not c) (1 + position_or_len (same t) xs) 0)) e ∙ ap Some (sym (is x e))
      first false e rest =
          ap (λ c. slice_get (x ∷ xs) (cond (not c) (1 + position_or_len (same t) xs) 0)) e ∙ ap (slice_get (x ∷ xs)) (one_more (position_or_len (same t) xs))
          ∙ rest (sym (ap (λ c. c || list_any (same t) xs) e) ∙ h)

pub last_place : {X : Type 0} (xs : List X) (x : X) → slice_get (xs ++ x ∷ []) (length xs) ≡ Some x
last_place [] x = refl
last_place (y ∷ xs) x = last_place xs x
