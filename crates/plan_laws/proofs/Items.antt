-- Items of lists that one more is put behind, and what is left of a list from a place on.
use Rattle.std.proofs.Common.{◌≡◌, ℕ, zero, suc, pred, List, [], ◌∷◌, ◌++◌, length, drop, Option, Some, ap, arith}
use Rattle.std.proofs.Common.{length-append}
use Rattle.std.proofs.lemmas.Option.{none-some, same_Some}
use Rattle.std.specs.Prelude.{slice_get}

-- ---- one more

-- what holds of the items at a place of two lists holds with one more in each
pub more : {A B : Type 0} (R : Option A → Option B → Type 0) (xs : List A) (ys : List B) (a : A) (b : B) (n : ℕ)
    → length ys ≡ length xs → R (slice_get xs n) (slice_get ys n) → R (Some a) (Some b)
    → R (slice_get (xs ++ a ∷ []) n) (slice_get (ys ++ b ∷ []) n)
more R [] [] a b zero count holds last = last
more R [] [] a b (suc n) count holds last = holds
more R [] (y ∷ ys) a b n count holds last = absurd (omega (arith, count))
more R (x ∷ xs) [] a b n count holds last = absurd (omega (arith, count))
more R (x ∷ xs) (y ∷ ys) a b zero count holds last = holds
more R (x ∷ xs) (y ∷ ys) a b (suc n) count holds last = more R xs ys a b n (ap pred count) holds last

pub get_more : {A : Type 0} (xs : List A) (a x : A) (n : ℕ) → slice_get xs n ≡ Some x
    → slice_get (xs ++ a ∷ []) n ≡ Some x
get_more [] a x n there = absurd (none-some x there)
get_more (y ∷ xs) a x zero there = there
get_more (y ∷ xs) a x (suc n) there = get_more xs a x n there

pub count_more : {A B : Type 0} (xs : List A) (ys : List B) (a : A) (b : B) → length ys ≡ length xs
    → length (ys ++ b ∷ []) ≡ length (xs ++ a ∷ [])
count_more xs ys a b count = omega (arith, count, length-append xs (a ∷ []), length-append ys (b ∷ []))

-- ---- what is left from a place on

pub nil_cons : {X : Type 0} (x : X) (xs : List X) → [] ≡ x ∷ xs → ⊥
nil_cons x xs e = none-some x (ap (λ zs. slice_get zs 0) e)

pub same_head : {X : Type 0} (x y : X) (xs ys : List X) → x ∷ xs ≡ y ∷ ys → x ≡ y
same_head x y xs ys e = same_Some x y (ap (λ zs. slice_get zs 0) e)

pub drop_at : {X : Type 0} (xs : List X) (k : ℕ) (x : X) → slice_get xs k ≡ Some x
    → drop k xs ≡ x ∷ drop (suc k) xs
drop_at [] k x there = absurd (none-some x there)
drop_at (y ∷ xs) zero x there = ap (λ z. z ∷ xs) (same_Some y x there)
drop_at (y ∷ xs) (suc k) x there = drop_at xs k x there

pub get_at : {X : Type 0} (xs : List X) (k : ℕ) (x : X) (rest : List X) → drop k xs ≡ x ∷ rest
    → slice_get xs k ≡ Some x
get_at [] zero x rest is = absurd (nil_cons x rest is)
get_at [] (suc k) x rest is = absurd (nil_cons x rest is)
get_at (y ∷ xs) zero x rest is = ap (λ zs. slice_get zs 0) is
get_at (y ∷ xs) (suc k) x rest is = get_at xs k x rest is

pub drop_behind : {X : Type 0} (xs : List X) (k : ℕ) (x : X) (rest : List X) → drop k xs ≡ x ∷ rest
    → drop (suc k) xs ≡ rest
drop_behind [] zero x rest is = absurd (nil_cons x rest is)
drop_behind [] (suc k) x rest is = absurd (nil_cons x rest is)
drop_behind (y ∷ xs) zero x rest is = ap (drop 1) is
drop_behind (y ∷ xs) (suc k) x rest is = drop_behind xs k x rest is
