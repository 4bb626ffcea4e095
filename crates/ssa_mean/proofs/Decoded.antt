-- What bytes decode to is the one first code point that is allowed of them.
use Rattle.std.proofs.Common.{◌≡◌, ◌<◌, ◌≤◌, ℕ, zero, suc, ℤ, pos, List, [], ◌∷◌, map, length, drop, Option, Some, None, inl, inr, ap, sym, refl, subst, ◌∙◌, arith, length-drop}
use Rattle.bstr.specs.Utf8.{decoded, Decoded}
use Rattle.bstr.proofs.lemmas.EncodeLemmas.{decoded-encode}
use Rattle.bstr.proofs.lemmas.PieceLemmas.{piece-bounds}
use Rattle.go_store.specs.Conversions.{AreRunes}
use Rattle.go_value.specs.Runes.{IsFirstRune}
use Rattle.go_value.proofs.RuneAt as at
use Rattle.ssa_mean.specs.Runes.{Rune, rune_or_replacement, first_rune, runes_within, runes_of}
use Rattle.ssa_mean.specs.Ties.{FirstRuneOne, RunesOne}

-- what bytes decode to
abbrev rune_in : Decoded → Rune
rune_in d = rune_or_replacement d.char d.size

-- ---- it is allowed

by_char : (text : List ℕ) (found : Option ℕ) → (decoded text).char ≡ found
    → IsFirstRune text (rune_or_replacement found (decoded text).size).point
    (rune_or_replacement found (decoded text).size).width
by_char text (Some c) is = at.first_rune text c is
by_char text None is = at.none_first text is

pub is_first : (text : List ℕ) → IsFirstRune text (first_rune text).point (first_rune text).width
is_first text = by_char text (decoded text).char refl

-- ---- it alone is allowed

AreThose : Rune → ℕ → ℕ → Type 0
AreThose it rune width = (rune ≡ it.point) × (width ≡ it.width)

same_rune : (text : List ℕ) (a b n m : ℕ) → IsFirstRune text a n → IsFirstRune text b m → (a ≡ b) × (n ≡ m)
same_rune text a b n m (inl x) (inl y) =
    let one = ap decoded x.0.1.1 ∙ decoded-encode a x.0.1.0 x.0.0 in
    let other = ap decoded y.0.1.1 ∙ decoded-encode b y.0.1.0 y.0.0 in
    let chars : Some a ≡ Some b = sym (ap (λ (d : Decoded). d.char) one) ∙ ap (λ (d : Decoded). d.char) other in
    let sizes = sym (ap (λ (d : Decoded). d.size) one) ∙ ap (λ (d : Decoded). d.size) other in
    (cc, x.1 ∙ sizes ∙ sym y.1)
same_rune text a b n m (inl x) (inr y) = absurd (y.0 a x.0)
same_rune text a b n m (inr x) (inl y) = absurd (x.0 b y.0)
same_rune text a b n m (inr x) (inr y) = (x.1 ∙ sym y.1, x.2 ∙ sym y.2)

pub first_is : (text : List ℕ) (rune width : ℕ) → IsFirstRune text rune width
    → (rune ≡ (first_rune text).point) × (width ≡ (first_rune text).width)
first_is text rune width is = same_rune text rune (first_rune text).point width (first_rune text).width is (is_first text)

back : (text : List ℕ) (rune width : ℕ) → (rune ≡ (first_rune text).point) × (width ≡ (first_rune text).width)
    → IsFirstRune text rune width
back text rune width are =
    subst (λ n. IsFirstRune text n width) (sym are.0)
    (subst (λ n. IsFirstRune text (first_rune text).point n) (sym are.1) (is_first text))

pub first_rune_one : FirstRuneOne
first_rune_one text rune width = (first_is text rune width, back text rune width)

-- ---- all

narrow : (text : List ℕ) (found : Option ℕ) → 0 < length text
    → (1 ≤ (rune_or_replacement found (decoded text).size).width)
    × ((rune_or_replacement found (decoded text).size).width ≤ length text)
narrow text (Some c) some = let bounds = piece-bounds text some in (bounds.0, bounds.2)
narrow text None some = (omega arith, omega (arith, some))

-- the first code point has a byte or more, and none past the end
pub width_within : (text : List ℕ) → 0 < length text
    → (1 ≤ (first_rune text).width) × ((first_rune text).width ≤ length text)
width_within text some = narrow text (decoded text).char some

shorter : (text : List ℕ) (n : ℕ) → 0 < length text → length text ≤ suc n
    → length (drop (first_rune text).width text) ≤ n
shorter text n some le =
    let bounds = narrow text (decoded text).char some in
    omega (arith, length-drop (first_rune text).width text, bounds.0, bounds.1, le)

are_within : (n : ℕ) (text : List ℕ) → length text ≤ n → AreRunes text (map pos (runes_within n text))
are_within zero [] le = refl
are_within zero (b ∷ bs) le = absurd (omega arith)
are_within (suc n) [] le = refl
are_within (suc n) (b ∷ bs) le =
    let text = b ∷ bs in
    let some : 0 < length (b ∷ bs) = omega arith in (
      (first_rune text).point,
      (first_rune text).width,
      some,
      is_first text,
      refl,
      are_within n (drop (first_rune text).width text) (shorter text n some le),
    )

none_less : (text : List ℕ) → text ≡ [] → 0 < length text → ⊥
none_less [] is some = omega (arith, some)
none_less (b ∷ bs) is some = cc

one_list : (text : List ℕ) (xs ys : List ℤ) → AreRunes text xs → AreRunes text ys → xs ≡ ys
one_list text [] [] x y = refl
one_list text [] (b ∷ ys) x y = absurd (none_less text x y.2)
one_list text (a ∷ xs) [] x y = absurd (none_less text y x.2)
one_list text (a ∷ xs) (b ∷ ys) x y =
    let same = same_rune text x.0 y.0 x.1 y.1 x.3 y.3 in
    let first = x.4 ∙ ap pos same.0 ∙ sym y.4 in
    let behind = one_list (drop y.1 text) xs ys (subst (λ n. AreRunes (drop n text) xs) same.1 x.5) y.5 in
    ap (λ it. it ∷ xs) first ∙ ap (λ items. b ∷ items) behind

pub runes_one : RunesOne
runes_one text ints = (
  λ are. one_list text ints (map pos (runes_of text)) are (are_within (length text) text (omega arith)),
  λ is. subst (AreRunes text) (sym is) (are_within (length text) text (omega arith)),
)
