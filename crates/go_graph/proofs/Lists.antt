-- What is in a list, and where.
use Rattle.std.proofs.Common.{◌≡◌, ◌≢◌, ◌⊎◌, inl, inr, sym, refl, ap, subst, ℕ, zero, suc, ◌<◌, ◌≤◌, ◌+◌, Bool, true, false, List, [], ◌∷◌, ◌++◌, length, set, slice_get, nat_eq, Some, arith}
use Rattle.std.proofs.lemmas.Bool.{eqb-true, eqb-false}
use Rattle.go_graph.specs.Graph.{IsAmong, Reaches, here, along}

pub same_or : (x y : ℕ) → (x ≡ y) ⊎ (x ≢ y)
same_or x y = by_test (nat_eq x y) refl
  where
    by_test : (b : Bool) → nat_eq x y ≡ b → (x ≡ y) ⊎ (x ≢ y)
    by_test true e = inl (eqb-true x y e)
    by_test false e = inr (eqb-false x y e)

pub before_or : (x y : ℕ) → (x < y) ⊎ (y ≤ x)
before_or x y = grind arith

pub among_left : {A : Type 0} (x : A) (xs ys : List A) → IsAmong x xs → IsAmong x (xs ++ ys)
among_left x [] ys h = absurd h
among_left x (z ∷ xs) ys (inl e) = inl e
among_left x (z ∷ xs) ys (inr h) = inr (among_left x xs ys h)

pub among_right : {A : Type 0} (x : A) (xs ys : List A) → IsAmong x ys → IsAmong x (xs ++ ys)
among_right x [] ys h = h
among_right x (z ∷ xs) ys h = inr (among_right x xs ys h)

pub among_split : {A : Type 0} (x : A) (xs ys : List A) → IsAmong x (xs ++ ys) → IsAmong x xs ⊎ IsAmong x ys
among_split x [] ys h = inr h
among_split x (z ∷ xs) ys (inl e) = inl (inl e)
among_split x (z ∷ xs) ys (inr h) = elim (among_split x xs ys h) [ inl left ↦ inl (inr left) | inr right ↦ inr right ]

pub among_last : {A : Type 0} (x : A) (xs : List A) → IsAmong x (xs ++ x ∷ [])
among_last x xs = among_right x xs (x ∷ []) (inl refl)

pub among_one : {A : Type 0} (x y : A) → IsAmong x (y ∷ []) → x ≡ y
among_one x y (inl e) = e
among_one x y (inr h) = absurd h

pub among_pos : {A : Type 0} (x : A) (xs : List A) → IsAmong x xs → 0 < length xs
among_pos x [] h = absurd h
among_pos x (z ∷ xs) h = omega arith

pub among_at : {A : Type 0} (xs : List A) (i : ℕ) (x : A) → slice_get xs i ≡ Some x → IsAmong x xs
among_at [] i x h = cc
among_at (z ∷ xs) zero x h = let e : z ≡ x = cc in inl (sym e)
among_at (z ∷ xs) (suc i) x h = inr (among_at xs i x h)

pub at_among : {A : Type 0} (x : A) (xs : List A) → IsAmong x xs → (i : ℕ) × (slice_get xs i ≡ Some x)
at_among x [] h = absurd h
at_among x (z ∷ xs) (inl e) = (0, ap Some (sym e))
at_among x (z ∷ xs) (inr h) = let found = at_among x xs h in (suc found.0, found.1)

pub get_left : {A : Type 0} (xs ys : List A) (i : ℕ) (x : A) → slice_get xs i ≡ Some x → slice_get (xs ++ ys) i ≡ Some x
get_left [] ys i x h = cc
get_left (z ∷ xs) ys zero x h = h
get_left (z ∷ xs) ys (suc i) x h = get_left xs ys i x h

pub get_right : {A : Type 0} (xs ys : List A) (i j : ℕ) (x : A) → i ≡ length xs + j → slice_get ys j ≡ Some x → slice_get (xs ++ ys) i ≡ Some x
get_right [] ys i j x e h = let same : j ≡ i = omega arith in subst (λ k. slice_get ys k ≡ Some x) same h
get_right (z ∷ xs) ys zero j x e h = absurd (omega arith)
get_right (z ∷ xs) ys (suc i) j x e h = get_right xs ys i j x (omega arith) h

pub get_split : {A : Type 0} (xs ys : List A) (i : ℕ) (x : A) → slice_get (xs ++ ys) i ≡ Some x → (slice_get xs i ≡ Some x) ⊎ ((j : ℕ) × (i ≡ length xs + j) × (slice_get ys j ≡ Some x))
get_split [] ys i x h = inr (i, omega arith, h)
get_split (z ∷ xs) ys zero x h = inl h
get_split (z ∷ xs) ys (suc i) x h = elim (get_split xs ys i x h) [ inl left ↦ inl left | inr right ↦ inr (right.0, (let e = right.1 in omega arith), right.2) ]

pub get_one : {A : Type 0} (x y : A) (j : ℕ) → slice_get (x ∷ []) j ≡ Some y → (x ≡ y) × (j ≡ 0)
get_one x y zero h = (cc, refl)
get_one x y (suc j) h = cc

pub get_within : {A : Type 0} (xs : List A) (i : ℕ) (x : A) → slice_get xs i ≡ Some x → i < length xs
get_within [] i x h = cc
get_within (z ∷ xs) zero x h = omega arith
get_within (z ∷ xs) (suc i) x h = let less = get_within xs i x h in omega arith

pub get_some : {A : Type 0} (xs : List A) (i : ℕ) → i < length xs → (x : A) × (slice_get xs i ≡ Some x)
get_some [] i h = absurd (omega arith)
get_some (z ∷ xs) zero h = (z, refl)
get_some (z ∷ xs) (suc i) h = get_some xs i (omega arith)

pub set_same : {A : Type 0} (xs : List A) (i : ℕ) (v : A) → i < length xs → slice_get (set xs i v) i ≡ Some v
set_same [] i v h = absurd (omega arith)
set_same (z ∷ xs) zero v h = refl
set_same (z ∷ xs) (suc i) v h = set_same xs i v (omega arith)

pub set_other : {A : Type 0} (xs : List A) (i j : ℕ) (v : A) → j ≢ i → slice_get (set xs i v) j ≡ slice_get xs j
set_other [] i j v h = refl
set_other (z ∷ xs) zero zero v h = absurd (h refl)
set_other (z ∷ xs) zero (suc j) v h = refl
set_other (z ∷ xs) (suc i) zero v h = refl
set_other (z ∷ xs) (suc i) (suc j) v h = set_other xs i j v (λ e. h (ap suc e))

pub trans : {next : ℕ → List ℕ} {x y z : ℕ} → Reaches next x y → Reaches next y z → Reaches next x z
trans here k = k
trans (along is more) k = along is (trans more k)
