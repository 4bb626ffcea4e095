-- The first two items of a list.
use Rattle.std.proofs.Common.{◌≡◌, ◌≤◌, List, [], ◌∷◌, ◌++◌, length, refl, sym, ap, ◌∙◌, arith}
use Rattle.go_type.specs.Levels.{front}

front_append : {X : Type 0} (xs zs : List X) → front (xs ++ zs) ≡ front (front xs ++ zs)
front_append [] zs = refl
front_append (x ∷ []) zs = refl
front_append (x ∷ y ∷ rest) zs = refl

pub same_front : {X : Type 0} (xs ys zs : List X) → front xs ≡ front ys → front (xs ++ zs) ≡ front (ys ++ zs)
same_front xs ys zs h = front_append xs zs ∙ ap (λ l. front (l ++ zs)) h ∙ sym (front_append ys zs)

-- what comes after two items
pub front_full : {X : Type 0} (xs zs : List X) → 2 ≤ length xs → front (xs ++ zs) ≡ front xs
front_full [] zs h = absurd (omega arith)
front_full (x ∷ []) zs h = absurd (omega arith)
front_full (x ∷ y ∷ rest) zs h = refl

two_in_front : {X : Type 0} (xs : List X) → 2 ≤ length xs → length (front xs) ≡ 2
two_in_front [] h = absurd (omega arith)
two_in_front (x ∷ []) h = absurd (omega arith)
two_in_front (x ∷ y ∷ rest) h = refl

two_from_front : {X : Type 0} (xs : List X) → length (front xs) ≡ 2 → 2 ≤ length xs
two_from_front [] h = absurd (omega arith)
two_from_front (x ∷ []) h = absurd (omega arith)
two_from_front (x ∷ y ∷ rest) h = omega arith

pub front_two : {X : Type 0} (xs ys : List X) → 2 ≤ length xs → front xs ≡ front ys → 2 ≤ length ys
front_two xs ys h e = two_from_front ys (sym (ap length e) ∙ two_in_front xs h)

pub front_none : {X : Type 0} (xs : List X) → front xs ≡ [] → xs ≡ []
front_none [] h = refl
front_none (x ∷ []) h = cc
front_none (x ∷ y ∷ rest) h = cc

pub front_one : {X : Type 0} (xs : List X) (x : X) → front xs ≡ x ∷ [] → xs ≡ x ∷ []
front_one [] x h = cc
front_one (y ∷ []) x h = h
front_one (y ∷ z ∷ rest) x h = cc

pub front_more : {X : Type 0} (xs : List X) (x y : X) → front xs ≡ x ∷ y ∷ [] → (rest : List X) × (xs ≡ x ∷ y ∷ rest)
front_more [] x y h = absurd cc
front_more (a ∷ []) x y h = absurd cc
front_more (a ∷ b ∷ rest) x y h = let first : a ≡ x = cc in let second : b ≡ y = cc in (rest, λ i. first i ∷ second i ∷ rest)
