-- The items of a list with their numbers, one more at a time.
use Rattle.std.proofs.Common.{◌≡◌, ℕ, ◌+◌, ◌<◌, ◌≤◌, List, [], ◌∷◌, ◌++◌, length, take, get_or, sym, ◌∙◌, ap, arith, zero-add, append_assoc}
use Rattle.std.specs.List.{enumerate_from, flat_map}
use Rattle.std.proofs.lemmas.List.{append-nil, take_more, take_all}
use Rattle.std.proofs.lemmas.List.FromFn.{get_or-enumerate_from, length-enumerate_from}
use Rattle.std.proofs.lemmas.Grind.{flat_map-append}
use Rattle.go_text.specs.Joined.{joined, separator_at}
use Rattle.go_text.specs.Joining.{joined-turn}

-- the item at a number, with that number
numbered-at : {A : Type 0} (xs : List A) (i : ℕ) (x d : A) → i < length xs → x ≡ get_or xs i d → (i, x) ≡ get_or (enumerate_from 0 xs) i (i, d)
numbered-at xs i x d h e =
    ap (λ y. (i, y)) e ∙ ap (λ k. (k, get_or xs i d)) (sym (zero-add i)) ∙ sym (get_or-enumerate_from 0 xs i (i, d) h)

-- what one turn of a loop over numbered items adds
pub numbered-turn : {A : Type 0} (separator : List ℕ) (piece : ℕ × A → List ℕ) (xs : List A) (i : ℕ) (x d : A) (old before between after : List ℕ)
    → i < length xs → x ≡ get_or xs i d
    → before ≡ old ++ joined separator piece (take i (enumerate_from 0 xs))
    → between ≡ before ++ separator_at separator i
    → after ≡ between ++ piece (i, x)
    → after ≡ old ++ joined separator piece (take (i + 1) (enumerate_from 0 xs))
numbered-turn separator piece xs i x d old before between after h e p q r =
    let within : i < length (enumerate_from 0 xs) = omega (arith, length-enumerate_from 0 xs) in
    joined-turn separator piece (enumerate_from 0 xs) i (i, x) (i, d) old before between after within (numbered-at xs i x d h e) p q r

-- all of them
pub numbered-whole : {A : Type 0} (xs : List A) (k : ℕ) → length xs ≤ k → take k (enumerate_from 0 xs) ≡ enumerate_from 0 xs
numbered-whole xs k h = take_all k (enumerate_from 0 xs) (omega (arith, length-enumerate_from 0 xs))

-- the same where nothing stands between the items
pub pieces-turn : {A : Type 0} (piece : ℕ × A → List ℕ) (xs : List A) (i : ℕ) (x d : A) (old before after : List ℕ)
    → i < length xs → x ≡ get_or xs i d
    → before ≡ old ++ flat_map piece (take i (enumerate_from 0 xs))
    → after ≡ before ++ piece (i, x)
    → after ≡ old ++ flat_map piece (take (i + 1) (enumerate_from 0 xs))
pieces-turn piece xs i x d old before after h e p q =
    let within : i < length (enumerate_from 0 xs) = omega (arith, length-enumerate_from 0 xs) in
    let more : take (i + 1) (enumerate_from 0 xs) ≡ take i (enumerate_from 0 xs) ++ (i, x) ∷ [] =
    take_more (enumerate_from 0 xs) i (i, d) within ∙ ap (λ y. take i (enumerate_from 0 xs) ++ y ∷ []) (sym (numbered-at xs i x d h e)) in
    let all : flat_map piece (take (i + 1) (enumerate_from 0 xs)) ≡ flat_map piece (take i (enumerate_from 0 xs)) ++ (piece (i, x) ++ []) =
    ap (flat_map piece) more ∙ flat_map-append piece (take i (enumerate_from 0 xs)) ((i, x) ∷ []) in
    q ∙ ap (λ text. text ++ piece (i, x)) p ∙ append_assoc old (flat_map piece (take i (enumerate_from 0 xs))) (piece (i, x))
    ∙ ap (λ text. old ++ text) (ap (λ last. flat_map piece (take i (enumerate_from 0 xs)) ++ last) (sym (append-nil (piece (i, x)))) ∙ sym all)
