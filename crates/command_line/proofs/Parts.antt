-- Numbers that are read part by part.
use Rattle.std.proofs.Common.{◌≡◌, ℕ, ◌+◌, ◌<◌, ◌≤◌, List, [], ◌∷◌, ◌++◌, length, get_or, drop, Option, None, Some, option_map, option_and_then, refl, sym, ap, ◌∙◌, append_assoc, append-nil, arith}
use Rattle.std.proofs.lemmas.List.{at_drop_more, at_drop_all}
use Rattle.std.specs.List.{slice_split}
use Rattle.command_line.specs.Values.{is_comma, number, up_to, choices_in, choices_of}

pub choices_of-parts : (text : List ℕ) → 0 < length text → choices_of text ≡ choices_in (slice_split is_comma text)
choices_of-parts [] filled = absurd (omega arith)
choices_of-parts (byte ∷ bytes) filled = refl

-- the part at a place, with the parts behind it
choices_in-part : (parts : List (List ℕ)) (i : ℕ) (part : List ℕ) (found : Option ℕ) → i < length parts → part ≡ get_or parts i part
    → up_to 4294967295 (number part) ≡ found
    → choices_in (drop i parts) ≡ option_and_then (λ n. option_map (λ ns. n ∷ ns) (choices_in (drop (i + 1) parts))) found
choices_in-part parts i part found inside is read =
    at_drop_more choices_in parts i part inside
    ∙ ap (λ p. option_and_then (λ n. option_map (λ ns. n ∷ ns) (choices_in (drop (i + 1) parts))) (up_to 4294967295 (number p))) (sym is)
    ∙ ap (λ o. option_and_then (λ n. option_map (λ ns. n ∷ ns) (choices_in (drop (i + 1) parts))) o) read

behind : (front : List ℕ) (n : ℕ) (rest : Option (List ℕ)) → option_map (λ more. front ++ more) (option_map (λ ns. n ∷ ns) rest) ≡ option_map (λ more. (front ++ n ∷ []) ++ more) rest
behind front n None = refl
behind front n (Some ns) = ap Some (sym (append_assoc front (n ∷ []) ns))

-- a part that is no number
pub choices_in-none : (front : List ℕ) (parts : List (List ℕ)) (i : ℕ) (part : List ℕ) → (i < length parts) × (part ≡ get_or parts i part)
    → up_to 4294967295 (number part) ≡ None → option_map (λ more. front ++ more) (choices_in (drop i parts)) ≡ None
choices_in-none front parts i part at read = ap (λ o. option_map (λ more. front ++ more) o) (choices_in-part parts i part None at.0 at.1 read)

-- a part that is one
pub choices_in-some : (front : List ℕ) (parts : List (List ℕ)) (i : ℕ) (part : List ℕ) (n : ℕ) → (i < length parts) × (part ≡ get_or parts i part)
    → up_to 4294967295 (number part) ≡ Some n
    → option_map (λ more. front ++ more) (choices_in (drop i parts)) ≡ option_map (λ more. (front ++ n ∷ []) ++ more) (choices_in (drop (i + 1) parts))
choices_in-some front parts i part n at read =
    ap (λ o. option_map (λ more. front ++ more) o) (choices_in-part parts i part (Some n) at.0 at.1 read) ∙ behind front n (choices_in (drop (i + 1) parts))

-- no part is left
pub choices_in-end : (front : List ℕ) (parts : List (List ℕ)) (i : ℕ) → length parts ≤ i → option_map (λ more. front ++ more) (choices_in (drop i parts)) ≡ Some front
choices_in-end front parts i past = ap (λ o. option_map (λ more. front ++ more) o) (at_drop_all choices_in parts i past) ∙ ap Some (append-nil front)
