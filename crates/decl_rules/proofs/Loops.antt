-- Lists that loops make: what is made so far, and what is to come.
use Rattle.std.proofs.Common.{◌≡◌, ◌<◌, ◌≤◌, ◌+◌, ◌∙◌, sym, refl, ap, ℕ, zero, suc, List, [], ◌∷◌, ◌++◌, length, map, flat_map, drop, get_or, add-one, append_assoc, arith}

pub drop_one : {A : Type 0} (xs : List A) (i : ℕ) (x : A) → i < length xs → x ≡ get_or xs i x → drop i xs ≡ x ∷ drop (i + 1) xs
drop_one xs i x less is = rw add-one (one xs i x less is)
  where
    one : {A : Type 0} (xs : List A) (i : ℕ) (x : A) → i < length xs → x ≡ get_or xs i x → drop i xs ≡ x ∷ drop (suc i) xs
    one [] i x less is = absurd (omega arith)
    one (y ∷ xs) zero x less is = ap (λ z. z ∷ xs) (sym is)
    one (y ∷ xs) (suc i) x less is = one xs i x (omega arith) is

pub drop_all : {A : Type 0} (xs : List A) (i : ℕ) → length xs ≤ i → drop i xs ≡ []
drop_all [] zero past = refl
drop_all [] (suc i) past = refl
drop_all (x ∷ xs) zero past = absurd (omega arith)
drop_all (x ∷ xs) (suc i) past = drop_all xs i (omega arith)

append_none : {A : Type 0} (xs : List A) → xs ++ [] ≡ xs
append_none [] = refl
append_none (x ∷ xs) = ap (λ l. x ∷ l) (append_none xs)

pub one_more : {A B : Type 0} (f : A → B) (xs : List A) (i : ℕ) (x : A) (old new all : List B) → i < length xs → x ≡ get_or xs i x → new ≡ old ++ f x ∷ [] → old ++ map f (drop i xs) ≡ all → new ++ map f (drop (i + 1) xs) ≡ all
one_more f xs i x old new all less is made so_far =
    ap (λ l. l ++ map f (drop (i + 1) xs)) made ∙ append_assoc old (f x ∷ []) (map f (drop (i + 1) xs)) ∙ ap (λ l. old ++ map f l) (sym (drop_one xs i x less is)) ∙ so_far

-- the same where what is read is a number or of numbers, with what stands for one past the end
pub drop_or : {A : Type 0} (xs : List A) (i : ℕ) (d : A) → i < length xs → drop i xs ≡ get_or xs i d ∷ drop (i + 1) xs
drop_or xs i d less = rw add-one (one xs i d less)
  where
    one : {A : Type 0} (xs : List A) (i : ℕ) (d : A) → i < length xs → drop i xs ≡ get_or xs i d ∷ drop (suc i) xs
    one [] i d less = absurd (omega arith)
    one (y ∷ xs) zero d less = refl
    one (y ∷ xs) (suc i) d less = one xs i d (omega arith)

pub some_more : {A B : Type 0} (f : A → List B) (xs : List A) (i : ℕ) (d : A) (old new all : List B) → i < length xs → new ≡ old ++ f (get_or xs i d) → old ++ flat_map f (drop i xs) ≡ all → new ++ flat_map f (drop (i + 1) xs) ≡ all
some_more f xs i d old new all less made so_far =
    ap (λ l. l ++ flat_map f (drop (i + 1) xs)) made ∙ append_assoc old (f (get_or xs i d)) (flat_map f (drop (i + 1) xs)) ∙ ap (λ l. old ++ flat_map f l) (sym (drop_or xs i d less)) ∙ so_far

pub all_made : {A B : Type 0} (f : A → B) (xs : List A) (i : ℕ) (old all : List B) → length xs ≤ i → old ++ map f (drop i xs) ≡ all → old ≡ all
all_made f xs i old all past so_far = sym (append_none old) ∙ ap (λ l. old ++ map f l) (sym (drop_all xs i past)) ∙ so_far
