-- What is decoded is the first code point of the bytes.
use Rattle.std.proofs.Common.{◌≡◌, ◌≤◌, ◌<◌, ℕ, List, Some, None, inl, inr, refl, sym, ◌∙◌, ap, length}
use Rattle.bstr.specs.Utf8.{decoded, Decoded}
use Rattle.bstr.proofs.lemmas.EncodeLemmas.{decoded-encode}
use Rattle.bstr.proofs.lemmas.PieceLemmas.{piece-bounds}
use Rattle.bstr.proofs.lemmas.SoundLemmas.{SpellsChar-decoded}
use Rattle.go_value.specs.Runes.{IsFirstRune, Begins}

pub first_rune : (bs : List ℕ) (c : ℕ) → (decoded bs).char ≡ Some c → IsFirstRune bs c (decoded bs).size
first_rune bs c is = let found = SpellsChar-decoded bs c is in inl ((found.scalar, (_, found.bytes)), sym found.width)

pub none_first : (bs : List ℕ) → (decoded bs).char ≡ None → IsFirstRune bs 65533 1
none_first bs is =
    inr (
      λ (other : ℕ) (begins : Begins bs other).
          let good = ap (λ (d : Decoded). d.char) (ap decoded begins.1.1 ∙ decoded-encode other begins.1.0 begins.0) in cc,
      refl,
      refl,
    )

pub narrow : (bs : List ℕ) → 0 < length bs → (decoded bs).size ≤ 4
narrow bs some = (piece-bounds bs some).1
