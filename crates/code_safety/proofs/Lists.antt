-- Lists whose items correspond one by one.
use Rattle.std.proofs.Common.{◌≡◌, ◌<◌, ◌⊎◌, inl, inr, arith, ℕ, zero, suc, List, [], ◌∷◌, ◌++◌, length, take, drop, replicate, Option, Some, None, ap, refl, sym, subst, ◌∙◌, slice_get, slice_set}
use Rattle.std.proofs.lemmas.Option.{none-some}
use Rattle.std.specs.List.{AllZip}

value_or : {A : Type 0} → A → Option A → A
value_or x None = x
value_or x (Some y) = y

pub some_same : {A : Type 0} (x y : A) → Some x ≡ Some y → x ≡ y
unfolding value_or
some_same x y h = ap (value_or x) h

pub zip_length : {A B : Type 0} (R : A → B → Type 0) (xs : List A) (ys : List B) → AllZip R xs ys → length xs ≡ length ys
zip_length R [] [] h = refl
zip_length R (x ∷ xs) (y ∷ ys) h = ap suc (zip_length R xs ys h.1)
zip_length R _ _ h = absurd h

-- what corresponds to an item of the second list
pub zip_right : {A B : Type 0} (R : A → B → Type 0) (xs : List A) (ys : List B) → AllZip R xs ys → (n : ℕ) (y : B)
    → slice_get ys n ≡ Some y → (x : A) × ((slice_get xs n ≡ Some x) × R x y)
zip_right R [] [] h n y is = absurd (none-some y is)
zip_right R (x ∷ xs) (z ∷ ys) h zero y is = (x, (refl, subst (R x) (some_same z y is) h.0))
zip_right R (x ∷ xs) (z ∷ ys) h (suc n) y is = zip_right R xs ys h.1 n y is
zip_right R _ _ h n y is = absurd h

pub zip_left : {A B : Type 0} (R : A → B → Type 0) (xs : List A) (ys : List B) → AllZip R xs ys → (n : ℕ) (x : A)
    → slice_get xs n ≡ Some x → (y : B) × ((slice_get ys n ≡ Some y) × R x y)
zip_left R [] [] h n x is = absurd (none-some x is)
zip_left R (z ∷ xs) (y ∷ ys) h zero x is = (y, (refl, subst (λ x. R x y) (some_same z x is) h.0))
zip_left R (z ∷ xs) (y ∷ ys) h (suc n) x is = zip_left R xs ys h.1 n x is
zip_left R _ _ h n x is = absurd h

pub zip_at : {A B : Type 0} (R : A → B → Type 0) (xs : List A) (ys : List B) → AllZip R xs ys → (n : ℕ) (x : A) (y : B)
    → slice_get xs n ≡ Some x → slice_get ys n ≡ Some y → R x y
zip_at R xs ys h n x y is there =
    let found = zip_right R xs ys h n y there in
    subst (λ x. R x y) (some_same found.0 x (sym found.1.0 ∙ is)) found.1.1

pub zip_more : {A B : Type 0} (R : A → B → Type 0) (xs : List A) (ys : List B) (x : A) (y : B) → AllZip R xs ys → R x y
    → AllZip R (xs ++ x ∷ []) (ys ++ y ∷ [])
zip_more R [] [] x y h r = (r, tt)
zip_more R (a ∷ xs) (b ∷ ys) x y h r = (h.0, zip_more R xs ys x y h.1 r)
zip_more R [] (b ∷ ys) x y h r = absurd h
zip_more R (a ∷ xs) [] x y h r = absurd h

pub zip_append : {A B : Type 0} (R : A → B → Type 0) (xs xs' : List A) (ys ys' : List B) → AllZip R xs ys → AllZip R xs' ys'
    → AllZip R (xs ++ xs') (ys ++ ys')
zip_append R [] xs' [] ys' h r = r
zip_append R (a ∷ xs) xs' (b ∷ ys) ys' h r = (h.0, zip_append R xs xs' ys ys' h.1 r)
zip_append R [] xs' (b ∷ ys) ys' h r = absurd h
zip_append R (a ∷ xs) xs' [] ys' h r = absurd h

-- items that all correspond to one
pub zip_replicate : {A B : Type 0} (R : A → B → Type 0) (xs : List A) (y : B)
    → ((n : ℕ) (x : A) → slice_get xs n ≡ Some x → R x y) → AllZip R xs (replicate (length xs) y)
zip_replicate R [] y each = tt
zip_replicate R (x ∷ xs) y each = (each 0 x refl, zip_replicate R xs y (λ n. each (suc n)))

pub zip_from : {A B : Type 0} (R : A → B → Type 0) (xs : List A) (ys : List B) → length xs ≡ length ys
    → ((n : ℕ) (x : A) (y : B) → slice_get xs n ≡ Some x → slice_get ys n ≡ Some y → R x y) → AllZip R xs ys
zip_from R [] [] e each = tt
zip_from R (x ∷ xs) (y ∷ ys) e each = (each 0 x y refl refl, zip_from R xs ys (omega arith) (λ n. each (suc n)))
zip_from R [] (y ∷ ys) e each = absurd (omega arith)
zip_from R (x ∷ xs) [] e each = absurd (omega arith)

pub get_below : {A : Type 0} (xs : List A) (n : ℕ) (x : A) → slice_get xs n ≡ Some x → n < length xs
get_below [] n x is = absurd (none-some x is)
get_below (y ∷ ys) zero x is = omega arith
get_below (y ∷ ys) (suc n) x is = let k : n < length ys = get_below ys n x is in omega arith

pub below_get : {A : Type 0} (xs : List A) (n : ℕ) → n < length xs → (x : A) × (slice_get xs n ≡ Some x)
below_get [] n h = absurd (omega arith)
below_get (y ∷ ys) zero h = (y, refl)
below_get (y ∷ ys) (suc n) h = below_get ys n (omega arith)

pub get_front : {A : Type 0} (xs ys : List A) (n : ℕ) (x : A) → slice_get xs n ≡ Some x → slice_get (xs ++ ys) n ≡ Some x
get_front [] ys n x is = absurd (none-some x is)
get_front (z ∷ xs) ys zero x is = is
get_front (z ∷ xs) ys (suc n) x is = get_front xs ys n x is

pub get_last : {A : Type 0} (xs : List A) (x : A) → slice_get (xs ++ x ∷ []) (length xs) ≡ Some x
get_last [] x = refl
get_last (z ∷ xs) x = get_last xs x

-- an item of a longer list is one of the shorter, or the last
pub get_either : {A : Type 0} (xs : List A) (y : A) (n : ℕ) (x : A) → slice_get (xs ++ y ∷ []) n ≡ Some x
    → (slice_get xs n ≡ Some x) ⊎ (y ≡ x)
get_either [] y zero x is = inr (some_same y x is)
get_either [] y (suc n) x is = absurd (none-some x is)
get_either (z ∷ xs) y zero x is = inl is
get_either (z ∷ xs) y (suc n) x is = get_either xs y n x is

pub get_replicate : {A : Type 0} (n k : ℕ) (y x : A) → slice_get (replicate n y) k ≡ Some x → y ≡ x
get_replicate zero k y x is = absurd (none-some x is)
get_replicate (suc n) zero y x is = some_same y x is
get_replicate (suc n) (suc k) y x is = get_replicate n k y x is

pub get_set : {A : Type 0} (xs : List A) (n : ℕ) (x old : A) → slice_get xs n ≡ Some old
    → slice_get (slice_set xs n x) n ≡ Some x
get_set [] n x old h = absurd (none-some old h)
get_set (y ∷ ys) zero x old h = refl
get_set (y ∷ ys) (suc n) x old h = get_set ys n x old h

pub get_set_other : {A : Type 0} (xs : List A) (n i : ℕ) (x : A) → (i ≡ n → ⊥)
    → slice_get (slice_set xs n x) i ≡ slice_get xs i
get_set_other [] n i x h = refl
get_set_other (y ∷ ys) zero zero x h = absurd (h refl)
get_set_other (y ∷ ys) zero (suc i) x h = refl
get_set_other (y ∷ ys) (suc n) zero x h = refl
get_set_other (y ∷ ys) (suc n) (suc i) x h = get_set_other ys n i x (λ same. h (ap suc same))

-- an item of a list with one item changed is the new one, or an old one
pub get_set_either : {A : Type 0} (xs : List A) (n i : ℕ) (x y : A) → slice_get (slice_set xs n x) i ≡ Some y
    → (x ≡ y) ⊎ (slice_get xs i ≡ Some y)
get_set_either [] n i x y h = inr h
get_set_either (z ∷ xs) zero zero x y h = inl (some_same x y h)
get_set_either (z ∷ xs) zero (suc i) x y h = inr h
get_set_either (z ∷ xs) (suc n) zero x y h = inr h
get_set_either (z ∷ xs) (suc n) (suc i) x y h = get_set_either xs n i x y h

pub length_set : {A : Type 0} (xs : List A) (n : ℕ) (x : A) → length (slice_set xs n x) ≡ length xs
length_set [] n x = refl
length_set (y ∷ ys) zero x = refl
length_set (y ∷ ys) (suc n) x = ap suc (length_set ys n x)

pub length_replicate : {A : Type 0} (n : ℕ) (x : A) → length (replicate n x) ≡ n
length_replicate zero x = refl
length_replicate (suc n) x = ap suc (length_replicate n x)

pub get_drop : {A : Type 0} (k : ℕ) (xs : List A) (n : ℕ) (x : A) → slice_get (drop k xs) n ≡ Some x
    → (m : ℕ) × (slice_get xs m ≡ Some x)
get_drop zero xs n x is = (n, is)
get_drop (suc k) [] n x is = absurd (none-some x is)
get_drop (suc k) (y ∷ ys) n x is = let found = get_drop k ys n x is in (suc found.0, found.1)

pub get_take : {A : Type 0} (k : ℕ) (xs : List A) (n : ℕ) (x : A) → slice_get (take k xs) n ≡ Some x
    → slice_get xs n ≡ Some x
get_take zero xs n x is = absurd (none-some x is)
get_take (suc k) [] n x is = is
get_take (suc k) (y ∷ ys) zero x is = is
get_take (suc k) (y ∷ ys) (suc n) x is = get_take k ys n x is

pub zip_drop : {A B : Type 0} (R : A → B → Type 0) (k : ℕ) (xs : List A) (ys : List B) → AllZip R xs ys
    → AllZip R (drop k xs) (drop k ys)
zip_drop R zero xs ys h = h
zip_drop R (suc k) [] [] h = tt
zip_drop R (suc k) (x ∷ xs) (y ∷ ys) h = zip_drop R k xs ys h.1
zip_drop R (suc k) [] (y ∷ ys) h = absurd h
zip_drop R (suc k) (x ∷ xs) [] h = absurd h

pub get_within : {A : Type 0} (xs : List A) (y : A) (n : ℕ) (x : A) → n < length xs → slice_get (xs ++ y ∷ []) n ≡ Some x
    → slice_get xs n ≡ Some x
get_within [] y n x less is = absurd (omega (arith, less))
get_within (z ∷ xs) y zero x less is = is
get_within (z ∷ xs) y (suc n) x less is = get_within xs y n x (omega (arith, less)) is
