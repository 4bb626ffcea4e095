-- Two lists, compared pair by pair from the front.
use Rattle.std.proofs.Common.{◌≡◌, ℕ, suc, zero, ◌+◌, ◌<◌, ◌≤◌, Bool, true, false, ◌&&◌, List, [], ◌∷◌, length, take, get_or, refl, sym, ◌∙◌, ap, arith, add-one}
use Rattle.std.proofs.lemmas.List.{take_all}
use Rattle.std.specs.Cmp.Lexicographic.{pointwise}

both : (b c : Bool) → b ≡ true → c ≡ true → b && c ≡ true
both b c p q = ap (λ d. d && c) p ∙ q

first : (b c : Bool) → b && c ≡ true → b ≡ true
first true c h = refl
first false c h = h

second : (b c : Bool) → b && c ≡ true → c ≡ true
second true c h = h
second false c h = cc

fails : (b c : Bool) → c ≡ false → b && c ≡ false
fails true c h = h
fails false c h = refl

module _ {A B : Type 0} (R : A → B → Bool) where
  more : (xs : List A) (ys : List B) (i : ℕ) (d : A) (e : B) → i < length xs → i < length ys → R (get_or xs i d) (get_or ys i e) ≡ true
      → pointwise R (take i xs) (take i ys) ≡ true → pointwise R (take (suc i) xs) (take (suc i) ys) ≡ true
  more [] ys i d e h k p q = absurd (omega arith)
  more (x ∷ xs) [] i d e h k p q = absurd (omega arith)
  more (x ∷ xs) (y ∷ ys) zero d e h k p q = both (R x y) true p refl
  more (x ∷ xs) (y ∷ ys) (suc i) d e h k p q =
      both (R x y) (pointwise R (take (suc i) xs) (take (suc i) ys)) (first (R x y) (pointwise R (take i xs) (take i ys)) q)
      (more xs ys i d e (omega arith) (omega arith) p (second (R x y) (pointwise R (take i xs) (take i ys)) q))

  -- one pair more
  pub pairs-turn : (xs : List A) (ys : List B) (i : ℕ) (x d : A) (y e : B) → i < length xs → i < length ys → x ≡ get_or xs i d → y ≡ get_or ys i e → R x y ≡ true
      → pointwise R (take i xs) (take i ys) ≡ true → pointwise R (take (i + 1) xs) (take (i + 1) ys) ≡ true
  pairs-turn xs ys i x d y e h k p q r s = rw add-one (more xs ys i d e h k (ap (λ v. R v (get_or ys i e)) (sym p) ∙ ap (λ v. R x v) (sym q) ∙ r) s)

  -- all of them
  pub pairs-whole : (xs : List A) (ys : List B) (i : ℕ) → length xs ≤ i → length ys ≤ i → pointwise R (take i xs) (take i ys) ≡ true → pointwise R xs ys ≡ true
  pairs-whole xs ys i h k p = ap (λ l. pointwise R l ys) (sym (take_all i xs h)) ∙ ap (λ l. pointwise R (take i xs) l) (sym (take_all i ys k)) ∙ p

  part : (xs : List A) (ys : List B) (i : ℕ) (d : A) (e : B) → i < length xs → i < length ys → R (get_or xs i d) (get_or ys i e) ≡ false → pointwise R xs ys ≡ false
  part [] ys i d e h k p = absurd (omega arith)
  part (x ∷ xs) [] i d e h k p = absurd (omega arith)
  part (x ∷ xs) (y ∷ ys) zero d e h k p = ap (λ b. b && pointwise R xs ys) p
  part (x ∷ xs) (y ∷ ys) (suc i) d e h k p = fails (R x y) (pointwise R xs ys) (part xs ys i d e (omega arith) (omega arith) p)

  -- a pair that fails
  pub pairs-fail : (xs : List A) (ys : List B) (i : ℕ) (x d : A) (y e : B) → i < length xs → i < length ys → x ≡ get_or xs i d → y ≡ get_or ys i e → R x y ≡ false
      → pointwise R xs ys ≡ false
  pairs-fail xs ys i x d y e h k p q r = part xs ys i d e h k (ap (λ v. R v (get_or ys i e)) (sym p) ∙ ap (λ v. R x v) (sym q) ∙ r)
