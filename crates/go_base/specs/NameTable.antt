-- Texts that are held once each.
use Rattle.std.specs.Prelude.{ℕ, List, [], ◌∷◌, ◌++◌, if◌then◌else◌}
use Rattle.std.specs.List.{list_any, position_or_len, IsDistinct}
use Rattle.std.specs.Str.{bytes_eq}

-- the index of a text, or the length where it is not there
abbrev pub place_of : List ℕ → List (List ℕ) → ℕ
place_of text texts = position_or_len (bytes_eq text) texts

-- the texts, and this one at the end where it is not there
abbrev pub with_text : List ℕ → List (List ℕ) → List (List ℕ)
with_text text texts = if list_any (bytes_eq text) texts then texts else texts ++ text ∷ []

-- no text is there twice
abbrev pub AreDistinct : List (List ℕ) → Type 0
AreDistinct texts = IsDistinct bytes_eq texts
