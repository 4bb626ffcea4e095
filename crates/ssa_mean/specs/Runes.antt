-- Code points in texts. Go specification, "For statements with range clause" and "Conversions to and from a string
-- type"; the Unicode standard, "UTF-8".
use Rattle.std.specs.Prelude.{ℕ, zero, suc, List, [], ◌∷◌, ◌++◌, Option, Some, None, drop, length, encode_utf8}
use Rattle.bstr.specs.Utf8.{decoded}
use Rattle.go_value.specs.Runes.{no_rune}

-- a code point, and how many bytes it has
pub record Rune : Type 0 where
  pub point : ℕ
  pub width : ℕ

-- where bytes begin with no code point, U+FFFD stands for one of them
abbrev pub rune_or_replacement : Option ℕ → ℕ → Rune
rune_or_replacement (Some point) width = record { point = point; width = width }
rune_or_replacement None width = record { point = no_rune; width = 1 }

-- the code point at the front of a text
abbrev pub first_rune : List ℕ → Rune
first_rune text = rune_or_replacement (decoded text).char (decoded text).size

-- the code points of a text of at most n bytes, one behind another
abbrev pub runes_within : ℕ → List ℕ → List ℕ
runes_within zero text = []
runes_within (suc n) [] = []
runes_within (suc n) (byte ∷ bytes) =
    let rune = first_rune (byte ∷ bytes) in rune.point ∷ runes_within n (drop rune.width (byte ∷ bytes))

abbrev pub runes_of : List ℕ → List ℕ
runes_of text = runes_within (length text) text

abbrev pub bytes_of_points : List ℕ → List ℕ
bytes_of_points [] = []
bytes_of_points (point ∷ points) = encode_utf8 point ++ bytes_of_points points

-- a text with U+FFFD in the place of each byte that belongs to no code point
abbrev pub as_characters : List ℕ → List ℕ
as_characters text = bytes_of_points (runes_of text)
