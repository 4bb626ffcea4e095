-- Items of a list, one after another.
use Rattle.std.proofs.Common.{◌≡◌, refl, sym, ap, ◌∙◌, ℕ, zero, suc, ◌+◌, ◌<◌, List, [], ◌∷◌, map, drop, length, get_or, arith}
use Rattle.std.proofs.lemmas.Bool.Decides.{nat_tests}
use Rattle.std.proofs.lemmas.List.{at_drop_more}
use Rattle.std.specs.Prelude.{Bool, true, false, ◌&&◌, nat_lt}
use Rattle.tree_roles.specs.Tokens.{InList, in_turn, is_filled}

same_test : (n m : ℕ) (a b : Bool) → nat_lt n m ≡ a → nat_lt (suc n) (suc m) ≡ b → a ≡ b
same_test n m true true p q = refl
same_test n m true false p q = grind (arith, nat_tests)
same_test n m false true p q = grind (arith, nat_tests)
same_test n m false false p q = refl

none_behind : (n : ℕ) → false ≡ nat_lt (suc n) 0
none_behind n = grind (arith, nat_tests)

some_behind : (n : ℕ) → true ≡ nat_lt 0 (suc n)
some_behind n = grind (arith, nat_tests)

filled : {A B : Type 0} (f : A → B) (xs : List A) (n : ℕ) → is_filled (map f (drop n xs)) ≡ nat_lt n (length xs)
filled f [] zero = refl
filled f [] (suc n) = none_behind n
filled f (x ∷ xs) zero = some_behind (length xs)
filled f (x ∷ xs) (suc n) = filled f xs n ∙ same_test n (length xs) _ _ refl refl

-- an item is told whether another follows by the index behind it
at_index : {A : Type 0} (f : A → InList) (xs : List A) (i : ℕ) (x : A) → i < length xs → x ≡ get_or xs i x → in_turn (map f (drop i xs)) ≡ (f x (nat_lt (i + 1) (length xs)) && in_turn (map f (drop (i + 1) xs)))
at_index {A = A} f xs i x within is =
    at_drop_more (λ (ys : List A). in_turn (map f ys)) xs i x within
    ∙ ap (λ (y : A). in_turn (map f (y ∷ drop (i + 1) xs))) (sym is)
    ∙ ap (λ (more : Bool). f x more && in_turn (map f (drop (i + 1) xs))) (filled f xs (i + 1))

-- an item that is as it should be leaves the rest
pub kept : {A : Type 0} (f : A → InList) (xs : List A) (i : ℕ) (x : A) (ok whole : Bool) → i < length xs → x ≡ get_or xs i x → ok ≡ f x (nat_lt (i + 1) (length xs)) → ok ≡ true → in_turn (map f (drop i xs)) ≡ whole → in_turn (map f (drop (i + 1) xs)) ≡ whole
kept f xs i x ok whole within is says fine before =
    ap (λ (b : Bool). b && in_turn (map f (drop (i + 1) xs))) (sym fine ∙ says) ∙ sym (at_index f xs i x within is) ∙ before

-- one that is not ends the list
pub ended : {A : Type 0} (f : A → InList) (xs : List A) (i : ℕ) (x : A) (ok whole : Bool) → i < length xs → x ≡ get_or xs i x → ok ≡ f x (nat_lt (i + 1) (length xs)) → ok ≡ false → in_turn (map f (drop i xs)) ≡ whole → false ≡ whole
ended f xs i x ok whole within is says bad before =
    ap (λ (b : Bool). b && in_turn (map f (drop (i + 1) xs))) (sym bad ∙ says) ∙ sym (at_index f xs i x within is) ∙ before
