-- Characters of source text. Go specification, "Source code representation".
use Rattle.std.specs.Prelude.{ℕ, zero, suc, ◌-◌, List, [], ◌∷◌, Bool, false, Option, Some, None, is_some, unwrap_or}
use Rattle.std.specs.Prelude.{◌==◌, ◌&&◌, ◌||◌, not, if◌then◌else◌}
use Rattle.std.specs.List.{list_all}
use Rattle.bstr.specs.Utf8.{decoded}
use Rattle.unicode.specs.GeneralCategory.{general_category, general_category_eq}
use Rattle.unicode.specs.GeneralCategoryGroup.{in_group}
use Rattle.unicode.specs.declared.properties.GeneralCategory.TheVariants.{DecimalNumber, UppercaseLetter}
use Rattle.unicode.specs.declared.properties.GeneralCategoryGroup.TheVariants.{Letter}

-- the categories Lu, Ll, Lt, Lm and Lo, and `_`
abbrev pub is_letter : ℕ → Bool
is_letter c = c == 95 || in_group Letter (general_category c)

-- the category Nd
abbrev pub is_digit : ℕ → Bool
is_digit c = general_category_eq (general_category c) DecimalNumber

-- what a name holds
abbrev pub is_name_character : ℕ → Bool
is_name_character c = is_letter c || is_digit c

-- what a numeral holds: letters, digits and `.`
abbrev pub is_numeral_character : ℕ → Bool
is_numeral_character c = c == 46 || is_name_character c

-- what a file may hold: no NUL, and no byte order mark
abbrev pub is_source_character : ℕ → Bool
is_source_character c = not (c == 0) && not (c == 65279)

-- whether a character passes; where the bytes are no character, none does
abbrev pub passes : (ℕ → Bool) → Option ℕ → Bool
passes test None = false
passes test (Some c) = test c

-- the category Lu
abbrev pub is_capital : ℕ → Bool
is_capital c = general_category_eq (general_category c) UppercaseLetter

-- whether a name is exported: it begins with a capital. Go specification, "Exported identifiers"
abbrev pub is_exported : List ℕ → Bool
is_exported name = passes is_capital (decoded name).char

-- the number of bytes of the character at the head of a text, where it passes
abbrev pub passing : (ℕ → Bool) → List ℕ → Option ℕ
passing test text = if passes test (decoded text).char then Some (decoded text).size else None

-- The rests of a text at which its parts begin. `step` gives the number of bytes of the part at the head of a text;
-- where none stands there, one byte is passed. `left` bytes are left of a part that began before.
abbrev pub rests : (List ℕ → Option ℕ) → ℕ → List ℕ → List (List ℕ)
rests step left [] = []
rests step zero (byte ∷ bytes) = (byte ∷ bytes) ∷ rests step (unwrap_or (step (byte ∷ bytes)) 1 - 1) bytes
rests step (suc left) (byte ∷ bytes) = rests step left bytes

-- whether a text is parts alone
abbrev pub are_parts : (List ℕ → Option ℕ) → List ℕ → Bool
are_parts step text = list_all (λ rest. is_some (step rest)) (rests step 0 text)

-- whether a text is characters that pass
abbrev pub are_characters : (ℕ → Bool) → List ℕ → Bool
are_characters test text = are_parts (passing test) text
