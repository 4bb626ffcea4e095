-- A text with characters put behind it, code point after code point.
use Rattle.std.proofs.Common.{◌≡◌, ◌∙◌, ◌<◌, ◌≤◌, ◌+◌, ℕ, zero, suc, List, [], ◌∷◌, ◌++◌, length, drop, ap, sym, refl}
use Rattle.std.proofs.Common.{subst, arith, append_assoc, append-nil, drop-drop, length-drop, inl, inr}
use Rattle.std.specs.Char.{IsScalar}
use Rattle.std.specs.Prelude.{encode_utf8}
use Rattle.go_value.specs.Runes.{IsFirstRune}
use Rattle.ssa_mean.proofs.Decoded.{first_is, width_within}
use Rattle.ssa_mean.specs.Runes.{first_rune, runes_within, bytes_of_points}

-- the characters of at most n code points
abbrev pub characters_within : ℕ → List ℕ → List ℕ
characters_within n bytes = bytes_of_points (runes_within n bytes)

one_more : (n : ℕ) (bytes : List ℕ) → 0 < length bytes
    → characters_within (suc n) bytes
    ≡ encode_utf8 (first_rune bytes).point ++ characters_within n (drop (first_rune bytes).width bytes)
one_more n [] some = let no : ⊥ = omega arith in absurd no
one_more n (byte ∷ bytes) some = refl

pub next : (n : ℕ) (bytes : List ℕ) (rune width : ℕ) → 0 < length bytes → IsFirstRune bytes rune width
    → characters_within (suc n) bytes ≡ encode_utf8 rune ++ characters_within n (drop width bytes)
next n bytes rune width some is =
    let those = first_is bytes rune width is in
    one_more n bytes some
    ∙ ap (λ point. encode_utf8 point ++ characters_within n (drop (first_rune bytes).width bytes)) (sym those.0)
    ∙ ap (λ w. encode_utf8 rune ++ characters_within n (drop w bytes)) (sym those.1)

pub none_left : (n : ℕ) (bytes : List ℕ) → length bytes ≡ 0 → characters_within n bytes ≡ []
none_left zero bytes is = refl
none_left (suc n) [] is = refl
none_left (suc n) (byte ∷ bytes) is = let no : ⊥ = omega arith in absurd no

-- one more character behind a text
pub stepped : (front new : List ℕ) (n m at after rune width ch : ℕ) (bytes whole : List ℕ) → at < length bytes
    → IsFirstRune (drop at bytes) rune width → n ≡ suc m → ch ≡ rune → after ≡ at + width → new ≡ front ++ encode_utf8 ch
    → front ++ characters_within n (drop at bytes) ≡ whole → new ++ characters_within m (drop after bytes) ≡ whole
stepped front new n m at after rune width ch bytes whole within is more one behind pushed was =
    let some : 0 < length (drop at bytes) = omega (arith, length-drop at bytes) in
    ap (λ new. new ++ characters_within m (drop after bytes)) (pushed ∙ ap (λ ch. front ++ encode_utf8 ch) one)
    ∙ ap (λ k. (front ++ encode_utf8 rune) ++ characters_within m (drop k bytes)) behind
    ∙ ap (λ rest. (front ++ encode_utf8 rune) ++ characters_within m rest) (sym (drop-drop width at bytes))
    ∙ append_assoc front (encode_utf8 rune) (characters_within m (drop width (drop at bytes)))
    ∙ ap (λ rest. front ++ rest) (sym (next m (drop at bytes) rune width some is))
    ∙ ap (λ n. front ++ characters_within n (drop at bytes)) (sym more)
    ∙ was

-- how wide a code point is
pub bounds : (at rune width : ℕ) (bytes : List ℕ) → at < length bytes → IsFirstRune (drop at bytes) rune width
    → (1 ≤ width) × (at + width ≤ length bytes)
bounds at rune width bytes within is =
    let some : 0 < length (drop at bytes) = omega (arith, length-drop at bytes) in
    let those = first_is (drop at bytes) rune width is in
    let narrow = width_within (drop at bytes) some in
    (omega (arith, those.1, narrow.0), omega (arith, those.1, narrow.1, length-drop at bytes))

pub nothing_left : (front : List ℕ) (n at : ℕ) (bytes whole : List ℕ) → length bytes ≤ at
    → front ++ characters_within n (drop at bytes) ≡ whole → front ≡ whole
nothing_left front n at bytes whole past was =
    let empty : length (drop at bytes) ≡ 0 = omega (arith, length-drop at bytes) in
    sym (append-nil front) ∙ ap (λ rest. front ++ rest) (sym (none_left n (drop at bytes) empty)) ∙ was

pub all_done : (front : List ℕ) (n at : ℕ) (bytes whole : List ℕ) → n ≡ 0
    → front ++ characters_within n (drop at bytes) ≡ whole → front ≡ whole
all_done front n at bytes whole none was =
    sym (append-nil front) ∙ ap (λ n. front ++ characters_within n (drop at bytes)) (sym none) ∙ was

pub scalar : (bytes : List ℕ) (rune width : ℕ) → IsFirstRune bytes rune width → IsScalar rune
scalar bytes rune width (inl begins) = begins.0.0
scalar bytes rune width (inr none) = subst (λ (n : ℕ). IsScalar n) (sym none.1) (search arith)
