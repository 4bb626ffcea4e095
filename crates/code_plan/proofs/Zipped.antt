-- Lists that hold something place by place, one more of each at a time.
use Rattle.std.proofs.Common.{◌≡◌, ℕ, ◌+◌, ◌<◌, ◌≤◌, List, [], ◌∷◌, ◌++◌, subst, sym, take, length, get_or}
use Rattle.std.specs.List.{AllZip}
use Rattle.std.proofs.lemmas.List.{take_all, take_more}

zip_push : {A B : Type 0} (R : A → B → Type 0) (xs : List A) (ys : List B) (x : A) (y : B) → AllZip R xs ys → R x y
    → AllZip R (xs ++ x ∷ []) (ys ++ y ∷ [])
zip_push R [] [] x y h c = (c, tt)
zip_push R [] (b ∷ ys) x y h c = absurd h
zip_push R (a ∷ xs) [] x y h c = absurd h
zip_push R (a ∷ xs) (b ∷ ys) x y h c = (h.0, zip_push R xs ys x y h.1 c)

-- the next item of the first list, and what holds with it
pub zip_more : {A B : Type 0} (R : A → B → Type 0) (xs : List A) (ys zs : List B) (i : ℕ) (x : A) (y : B)
    → AllZip R (take i xs) ys → i < length xs → x ≡ get_or xs i x → R x y → zs ≡ ys ++ y ∷ []
    → AllZip R (take (i + 1) xs) zs
zip_more R xs ys zs i x y h l e r k =
    subst (AllZip R (take (i + 1) xs)) (sym k)
    (subst (λ l. AllZip R l (ys ++ y ∷ [])) (sym (take_more xs i x l))
    (zip_push R (take i xs) ys (get_or xs i x) y h (subst (λ z. R z y) e r)))

-- all of the first list
pub zip_whole : {A B : Type 0} (R : A → B → Type 0) (xs : List A) (ys : List B) (i : ℕ) → length xs ≤ i
    → AllZip R (take i xs) ys → AllZip R xs ys
zip_whole R xs ys i l h = subst (λ l. AllZip R l ys) (take_all i xs l) h
