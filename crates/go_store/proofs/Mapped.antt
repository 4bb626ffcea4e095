-- Lists that are made item by item from others.
use Rattle.std.proofs.Common.{◌≡◌, ◌<◌, ◌+◌, ap, sym, ◌∙◌, map, List, [], ◌∷◌, ◌++◌, ℕ, take, length, get_or}
use Rattle.std.proofs.lemmas.List.{take_more, map-append}

-- what is made of each item by g
pub made_push : {B C : Type 0} (g : B → C) (xs : List C) (ys : List B) (i : ℕ) (x : C) (d y : B) → xs ≡ map g (take i ys) → x ≡ g y → i < length ys → y ≡ get_or ys i d → xs ++ (x ∷ []) ≡ map g (take (i + 1) ys)
made_push g xs ys i x d y before same below is =
    ap (λ zs. zs ++ (x ∷ [])) before ∙ ap (λ z. map g (take i ys) ++ (z ∷ [])) (same ∙ ap g is) ∙ sym (map-append g (take i ys) (get_or ys i d ∷ [])) ∙ ap (map g) (sym (take_more ys i d below))

-- what f sees as made of each item by g
pub mapped_push : {A B C : Type 0} (f : A → C) (g : B → C) (xs : List A) (ys : List B) (i : ℕ) (x : A) (d y : B) → map f xs ≡ map g (take i ys) → f x ≡ g y → i < length ys → y ≡ get_or ys i d → map f (xs ++ (x ∷ [])) ≡ map g (take (i + 1) ys)
mapped_push f g xs ys i x d y before same below is =
    map-append f xs (x ∷ []) ∙ made_push g (map f xs) ys i (f x) d y before same below is

-- what f sees as the items
pub shown_push : {A C : Type 0} (f : A → C) (xs : List A) (ys : List C) (i : ℕ) (x : A) (d y : C) → map f xs ≡ take i ys → f x ≡ y → i < length ys → y ≡ get_or ys i d → map f (xs ++ (x ∷ [])) ≡ take (i + 1) ys
shown_push f xs ys i x d y before same below is =
    map-append f xs (x ∷ []) ∙ ap (λ zs. zs ++ (f x ∷ [])) before ∙ ap (λ z. take i ys ++ (z ∷ [])) (same ∙ is) ∙ sym (take_more ys i d below)
