-- Code points in texts, by UTF-8. Go specification, "For statements with range clause" and "Conversions to and from a
-- string type".
use Rattle.std.specs.Prelude.{◌≡◌, ℕ, ◌⊎◌, ◌++◌, List, ℤ, pos, negsuc, length, if◌then◌else◌}
use Rattle.std.specs.Char.{IsScalar, encode_utf8}
use lib.Utf8.{scalar}

-- the code point that stands for what is none, U+FFFD
abbrev pub no_rune : ℕ
no_rune = 0xFFFD

-- bytes begin with the UTF-8 form of a code point
abbrev pub Begins : List ℕ → ℕ → Type 0
Begins bytes rune = IsScalar rune × ((rest : List ℕ) × (bytes ≡ encode_utf8 rune ++ rest))

-- the first code point of bytes, and how many bytes it has: that whose UTF-8 form they begin with, and where they begin
-- with none U+FFFD, and one byte
abbrev pub IsFirstRune : List ℕ → ℕ → ℕ → Type 0
IsFirstRune bytes rune width =
    (Begins bytes rune × (width ≡ length (encode_utf8 rune)))
    ⊎ (((other : ℕ) → ¬ (Begins bytes other)) × (rune ≡ no_rune) × (width ≡ 1))

-- an integer as a code point: what is none counts as U+FFFD
abbrev pub rune_of : ℤ → ℕ
rune_of (pos n) = if scalar n then n else no_rune
rune_of (negsuc n) = no_rune

-- the UTF-8 form of an integer as a code point
abbrev pub rune_bytes : ℤ → List ℕ
rune_bytes it = encode_utf8 (rune_of it)
