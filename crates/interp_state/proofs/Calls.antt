-- Frames that are kept with the top one apart.
use Rattle.std.proofs.Common.{◌≡◌, List, [], ◌∷◌, ◌++◌, Option, Some, None, reverse, sym, ap, ◌∙◌, refl}
use Rattle.std.specs.Option.{option_map_or}
use Rattle.std.specs.Prelude.{option_to_list}
use Rattle.std.proofs.lemmas.List.{reverse-append}

-- the frames, the top one first
abbrev pub framed : {A : Type 0} → Option A → List A → List A
framed top below = option_map_or (λ it. it ∷ reverse below) top []

pub one_more : {A : Type 0} (below : List A) (it : A) → reverse (below ++ it ∷ []) ≡ it ∷ reverse below
one_more below it = reverse-append below (it ∷ [])

behind : {A : Type 0} (xs : List A) → xs ≡ xs ++ []
behind [] = refl
behind (x ∷ xs) = ap (λ ys. x ∷ ys) (behind xs)

-- what is left when the top frame goes
pub one_less : {A : Type 0} (rest : List A) (popped : Option A) (old : List A) → old ≡ rest ++ option_to_list popped
    → (popped ≡ None → rest ≡ []) → framed popped rest ≡ reverse old
one_less rest None old was none = sym (ap reverse (was ∙ sym (behind rest) ∙ none refl))
one_less rest (Some it) old was none = sym (ap reverse was ∙ reverse-append rest (it ∷ []))
