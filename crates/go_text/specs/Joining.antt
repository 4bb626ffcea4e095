-- The texts of the items of a list, one item more at a time.
use Rattle.std.specs.Prelude.{◌≡◌, ℕ, suc, zero, ◌+◌, ◌<◌, List, [], ◌∷◌, ◌++◌, length, take, refl}
use Rattle.std.proofs.Common.{get_or, sym, ◌∙◌, ap, append_assoc, arith}
use Rattle.std.proofs.lemmas.List.{take_more, length-take-le}
use Rattle.std.proofs.lemmas.Bool.Decides.{nat_tests}
use Rattle.go_text.specs.Joined.{joined, separator_at}

-- a separator stands before each item but the first
separator-later : (separator : List ℕ) (index : ℕ) → separator_at separator (suc index) ≡ separator
separator-later separator index = grind (arith, nat_tests)

-- one item more
pub joined-one_more : {A : Type 0} (separator : List ℕ) (piece : A → List ℕ) (xs : List A) (x : A)
    → joined separator piece (xs ++ x ∷ []) ≡ (joined separator piece xs ++ separator_at separator (length xs))
    ++ piece x
joined-one_more separator piece [] x = refl
joined-one_more separator piece (y ∷ []) x = sym (append_assoc (piece y) separator (piece x))
joined-one_more separator piece (y ∷ (z ∷ rest)) x =
    ap (λ text. piece y ++ (separator ++ text))
    (joined-one_more separator piece (z ∷ rest) x ∙ ap (λ between. (joined separator piece (z ∷ rest) ++ between)
    ++ piece x) (separator-later separator (length rest)))
    ∙ (simp append_assoc refl)
    ∙ ap (λ between. ((piece y ++ (separator ++ joined separator piece (z ∷ rest))) ++ between)
    ++ piece x) (sym (separator-later separator (suc (length rest))))

joined-from_take : {A : Type 0} (separator : List ℕ) (piece : A → List ℕ) (xs : List A) (i : ℕ) (x d : A)
    → i < length xs → x ≡ get_or xs i d
    → joined separator piece (take (i + 1) xs) ≡ (joined separator piece (take i xs) ++ separator_at separator i)
    ++ piece x
joined-from_take separator piece xs i x d h e =
    ap (joined separator piece) (take_more xs i d h ∙ ap (λ y. take i xs ++ y ∷ []) (sym e))
    ∙ joined-one_more separator piece (take i xs) x
    ∙ ap (λ k. (joined separator piece (take i xs) ++ separator_at separator k)
    ++ piece x) (length-take-le i xs (omega arith))

regrouped : (a b c d : List ℕ) → ((a ++ b) ++ c) ++ d ≡ a ++ ((b ++ c) ++ d)
regrouped a b c d = simp append_assoc

-- what one turn of a loop over the items adds
pub joined-turn :
    {A : Type 0} (separator : List ℕ) (piece : A
    → List ℕ) (xs : List A) (i : ℕ) (x d : A) (old before between after : List ℕ)
    → i < length xs → x ≡ get_or xs i d
    → before ≡ old ++ joined separator piece (take i xs)
    → between ≡ before ++ separator_at separator i
    → after ≡ between ++ piece x
    → after ≡ old ++ joined separator piece (take (i + 1) xs)
joined-turn separator piece xs i x d old before between after h e p q r =
    r ∙ ap (λ t. t ++ piece x) (q ∙ ap (λ t. t ++ separator_at separator i) p)
    ∙ regrouped old (joined separator piece (take i xs)) (separator_at separator i) (piece x)
    ∙ ap (λ t. old ++ t) (sym (joined-from_take separator piece xs i x d h e))
