-- Lists of which one item is changed.
use Rattle.std.proofs.Common.{◌≡◌, ◌<◌, arith, ℕ, Bool, true, false, ◌∙◌, zero, suc, List, [], ◌∷◌, Option, Some, None, ap, refl}
use Rattle.std.proofs.lemmas.Option.{none-some}
use Rattle.std.specs.Prelude.{drop, filter, if◌then◌else◌, length, slice_get, slice_set}

pub get_set : {A : Type 0} → (xs : List A) (n : ℕ) (x old : A) → slice_get xs n ≡ Some old
    → slice_get (slice_set xs n x) n ≡ Some x
get_set [] n x old h = absurd (none-some old h)
get_set (y ∷ ys) zero x old h = refl
get_set (y ∷ ys) (suc n) x old h = get_set ys n x old h

pub get_set_other : {A : Type 0} → (xs : List A) (n i : ℕ) (x : A) → (i ≡ n → ⊥)
    → slice_get (slice_set xs n x) i ≡ slice_get xs i
get_set_other [] n i x h = refl
get_set_other (y ∷ ys) zero zero x h = absurd (h refl)
get_set_other (y ∷ ys) zero (suc i) x h = refl
get_set_other (y ∷ ys) (suc n) zero x h = refl
get_set_other (y ∷ ys) (suc n) (suc i) x h = get_set_other ys n i x (λ same. h (ap suc same))

pub length_set : {A : Type 0} → (xs : List A) (n : ℕ) (x : A) → length (slice_set xs n x) ≡ length xs
length_set [] n x = refl
length_set (y ∷ ys) zero x = refl
length_set (y ∷ ys) (suc n) x = ap suc (length_set ys n x)

-- below its length a list has an item
pub item_below : {A : Type 0} → (xs : List A) (n : ℕ) → n < length xs → (x : A) × (slice_get xs n ≡ Some x)
item_below [] n h = absurd (omega arith)
item_below (y ∷ ys) zero h = (y, refl)
item_below (y ∷ ys) (suc n) h = item_below ys n (omega arith)

-- ---- how many pass a test, where the first is another of which the test says the same

counted_same : {A : Type 0} (b : Bool) (x y : A) (zs : List A)
    → length (if b then x ∷ zs else zs) ≡ length (if b then y ∷ zs else zs)
counted_same true x y zs = refl
counted_same false x y zs = refl

pub same_count : {A : Type 0} (test : A → Bool) (x y : A) (xs : List A) → test x ≡ test y
    → length (filter test (x ∷ xs)) ≡ length (filter test (y ∷ xs))
same_count test x y xs same =
    counted_same (test x) x y (filter test xs) ∙ ap (λ b. length (if b then y ∷ filter test xs else filter test xs)) same

-- ---- what is there is one

value_or_else : {A : Type 0} → A → Option A → A
value_or_else x None = x
value_or_else x (Some y) = y

pub some_same : {A : Type 0} (x y : A) → Some x ≡ Some y → x ≡ y
unfolding value_or_else
some_same x y h = ap (value_or_else x) h

-- ---- what stands at a place

head_or : {A : Type 0} → A → List A → A
head_or x [] = x
head_or x (y ∷ ys) = y

pub at_drop : {A : Type 0} → (xs : List A) (n : ℕ) (x : A) (rest : List A) → drop n xs ≡ x ∷ rest
    → (slice_get xs n ≡ Some x) × (drop (suc n) xs ≡ rest)
unfolding head_or
at_drop [] zero x rest h = absurd cc
at_drop [] (suc n) x rest h = absurd cc
at_drop (y ∷ ys) zero x rest h = (ap (λ its. Some (head_or x its)) h, ap (drop 1) h)
at_drop (y ∷ ys) (suc n) x rest h = at_drop ys n x rest h

pub past_drop : {A : Type 0} → (xs : List A) (n : ℕ) → drop n xs ≡ [] → slice_get xs n ≡ None
past_drop [] zero h = refl
past_drop [] (suc n) h = refl
past_drop (y ∷ ys) zero h = absurd cc
past_drop (y ∷ ys) (suc n) h = past_drop ys n h
