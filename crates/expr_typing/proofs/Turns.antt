-- A test of each item of a list in turn.
use Rattle.std.proofs.Common.{◌≡◌, ℕ, suc, zero, ◌+◌, ◌<◌, ◌≤◌, Bool, true, false, ◌&&◌, List, [], ◌∷◌, length, drop, get_or, sym, ◌∙◌, ap, arith, add-one, drop-cons}
use Rattle.std.specs.List.{list_all}
use Rattle.std.proofs.Math.Seq.{drop-nil}

drop_past : {A : Type 0} (xs : List A) (i : ℕ) → length xs ≤ i → drop i xs ≡ []
drop_past [] i h = drop-nil i
drop_past (x ∷ xs) zero h = absurd (omega arith)
drop_past (x ∷ xs) (suc i) h = drop_past xs i (omega arith)

module _ {A : Type 0} (p : A → Bool) where
  all_at : (xs : List A) (i : ℕ) (x d : A) → i < length xs → x ≡ get_or xs i d → list_all p (drop i xs) ≡ p x && list_all p (drop (i + 1) xs)
  all_at xs i x d h e =
      let whole : drop i xs ≡ x ∷ drop (i + 1) xs = rw add-one (drop-cons xs i d h ∙ ap (λ y. y ∷ drop (suc i) xs) (sym e)) in
      ap (list_all p) whole

  -- one item more
  pub all_turn : (xs : List A) (i : ℕ) (x d : A) (b : Bool) → i < length xs → x ≡ get_or xs i d → b ≡ p x → b ≡ true
      → list_all p xs ≡ list_all p (drop i xs) → list_all p xs ≡ list_all p (drop (i + 1) xs)
  all_turn xs i x d b h e q t so = so ∙ all_at xs i x d h e ∙ ap (λ c. c && list_all p (drop (i + 1) xs)) (sym q ∙ t)

  -- one that fails
  pub all_fails : (xs : List A) (i : ℕ) (x d : A) (b : Bool) → i < length xs → x ≡ get_or xs i d → b ≡ p x → b ≡ false
      → list_all p xs ≡ list_all p (drop i xs) → false ≡ list_all p xs
  all_fails xs i x d b h e q t so = sym (so ∙ all_at xs i x d h e ∙ ap (λ c. c && list_all p (drop (i + 1) xs)) (sym q ∙ t))

  -- behind the last
  pub all_pass : (xs : List A) (i : ℕ) → length xs ≤ i → list_all p xs ≡ list_all p (drop i xs) → true ≡ list_all p xs
  all_pass xs i h so = sym (so ∙ ap (list_all p) (drop_past xs i h))
