-- What literals hold and what they are worth. Go specification, "Integer literals", "Rune literals", "String literals".
use Rattle.std.specs.Prelude.{ℕ, zero, suc, ◌+◌, ◌-◌, ◌*◌, List, [], ◌∷◌, length, take, drop, find, filter, flat_map}
use Rattle.std.specs.Prelude.{Bool, true, false, Option, Some, None, is_none, ◌==◌, ◌&&◌, ◌||◌, not, nat_lt}
use Rattle.std.specs.Prelude.{if◌then◌else◌, encode_utf8}
use Rattle.std.specs.Char.{digit_value}
use Rattle.bstr.specs.Utf8.{decoded}
use Rattle.go_ast.specs.Characters.{is_source_character, rests}

-- ---- integers

-- digits of a base with single `_` between them; `after` says whether a digit stands before
abbrev pub digits_after : ℕ → Bool → List ℕ → Bool
digits_after base after [] = after
digits_after base after (byte ∷ bytes) =
    if byte == 95 then after && digits_after base false bytes
    else nat_lt (digit_value byte) base && digits_after base true bytes

abbrev pub are_digits : ℕ → List ℕ → Bool
are_digits base text = digits_after base false text

abbrev pub first : List ℕ → ℕ
first [] = 0
first (byte ∷ bytes) = byte

abbrev pub second : List ℕ → ℕ
second [] = 0
second (byte ∷ bytes) = first bytes

-- the base that `0b`, `0o` or `0x` names, in either case of the letter, or 0
abbrev pub named_base : List ℕ → ℕ
named_base text =
    if not (first text == 48) then 0
    else if second text == 98 || second text == 66 then 2
    else if second text == 111 || second text == 79 then 8
    else if second text == 120 || second text == 88 then 16
    else 0

-- the base of a numeral: a leading 0 alone is octal
abbrev pub base_of : List ℕ → ℕ
base_of text =
    if not (named_base text == 0) then named_base text
    else if first text == 48 then 8 else 10

abbrev pub without_bar : List ℕ → List ℕ
without_bar [] = []
without_bar (byte ∷ bytes) = if byte == 95 then bytes else byte ∷ bytes

-- the digits of a numeral, behind its prefix and one `_` there
abbrev pub digits_of : List ℕ → List ℕ
digits_of text = if not (named_base text == 0) then without_bar (drop 2 text) else text

abbrev pub is_integer : List ℕ → Bool
is_integer text = are_digits (base_of text) (digits_of text)

-- the value of digits behind others that are worth `high`; `_` counts for nothing
abbrev pub digits_value : ℕ → ℕ → List ℕ → ℕ
digits_value base high [] = high
digits_value base high (byte ∷ bytes) =
    if byte == 95 then digits_value base high bytes
    else digits_value base (high * base + digit_value byte) bytes

-- the value of an integer literal
abbrev pub int_value : List ℕ → ℕ
int_value text = digits_value (base_of text) 0 (digits_of text)

-- ---- runes and strings

-- What stands at the head of a text in quotes: a character or an escape, with the number of its bytes, and its code
-- point, or its byte where it names a byte
pub record Item : Type 0 where
  pub width : ℕ
  pub value : ℕ
  pub is_byte : Bool

abbrev pub item_of : ℕ → Bool → Option ℕ → Option Item
item_of width is_byte None = None
item_of width is_byte (Some value) = Some (record { width = width; value = value; is_byte = is_byte })

-- the value that passes a test
abbrev pub if_passes : (ℕ → Bool) → Option ℕ → Option ℕ
if_passes test None = None
if_passes test (Some value) = if test value then Some value else None

-- the value of the first `count` digits of a text, where they are digits of the base
abbrev pub fixed_digits : ℕ → ℕ → ℕ → List ℕ → Option ℕ
fixed_digits base zero high text = Some high
fixed_digits base (suc count) high [] = None
fixed_digits base (suc count) high (byte ∷ bytes) =
    if nat_lt (digit_value byte) base then fixed_digits base count (high * base + digit_value byte) bytes else None

-- at most 10FFFF, and no surrogate
abbrev pub is_code_point : ℕ → Bool
is_code_point value = nat_lt value 0xD800 || (nat_lt 0xDFFF value && nat_lt value 0x110000)

abbrev pub is_one_byte : ℕ → Bool
is_one_byte value = nat_lt value 256

-- \a \b \f \n \r \t \v \\ and the quote of the literal
abbrev pub named_escape : ℕ → ℕ → Option ℕ
named_escape quote letter =
    if letter == 97 then Some 7 else if letter == 98 then Some 8 else if letter == 102 then Some 12
    else if letter == 110 then Some 10 else if letter == 114 then Some 13 else if letter == 116 then Some 9
    else if letter == 118 then Some 11 else if letter == 92 then Some 92
    else if letter == quote then Some quote else None

-- the escape behind a backslash: \x with two digits, \u with four, \U with eight, three octal digits, or one by name
abbrev pub escape : ℕ → List ℕ → Option Item
escape quote [] = None
escape quote (letter ∷ text) =
    if letter == 120 then item_of 4 true (fixed_digits 16 2 0 text)
    else if letter == 117 then item_of 6 false (if_passes is_code_point (fixed_digits 16 4 0 text))
    else if letter == 85 then item_of 10 false (if_passes is_code_point (fixed_digits 16 8 0 text))
    else if nat_lt (digit_value letter) 8
    then item_of 4 true (if_passes is_one_byte (fixed_digits 8 3 0 (letter ∷ text)))
    else item_of 2 false (named_escape quote letter)

-- the character at the head of a text
abbrev pub character : List ℕ → Option Item
character text = item_of (decoded text).size false (if_passes is_source_character (decoded text).char)

-- the character or escape at the head of a text in these quotes; a backslash begins an escape
abbrev pub item : ℕ → List ℕ → Option Item
item quote text = if first text == 92 then escape quote (drop 1 text) else character text

-- the number of its bytes
abbrev pub width_of : Option Item → Option ℕ
width_of None = None
width_of (Some it) = Some it.width

-- the rests of a text at which its characters and escapes begin
abbrev pub item_rests : (List ℕ → Option Item) → List ℕ → List (List ℕ)
item_rests read text = rests (λ rest. width_of (read rest)) 0 text

-- the first rest where none begins
abbrev pub first_bad : (List ℕ → Option Item) → List ℕ → Option (List ℕ)
first_bad read text = find (λ rest. is_none (read rest)) (item_rests read text)

-- what stands between the quotes of a literal
abbrev pub inside : List ℕ → List ℕ
inside text = take (length text - 2) (drop 1 text)

abbrev pub value_of : Option Item → ℕ
value_of None = 0
value_of (Some it) = it.value

-- the value of a rune literal
abbrev pub rune_value : List ℕ → ℕ
rune_value text = value_of (item 39 (drop 1 text))

-- what an item puts in a string: a character its own bytes, an escape its byte or the bytes of its code point
abbrev pub bytes_of : List ℕ → Option Item → List ℕ
bytes_of rest None = []
bytes_of rest (Some it) =
    if it.is_byte then it.value ∷ []
    else if first rest == 92 then encode_utf8 it.value
    else take it.width rest

-- the value of a string literal: a raw one drops carriage returns
abbrev pub string_value : List ℕ → List ℕ
string_value text =
    if first text == 96 then filter (λ byte. not (byte == 13)) (inside text)
    else flat_map (λ rest. bytes_of rest (item 34 rest)) (item_rests (item 34) (inside text))
