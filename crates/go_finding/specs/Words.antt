-- The words of a line.
use Rattle.std.specs.Prelude.{ℕ, ◌+◌, Bool, true, false, not, ◌==◌, ◌||◌, ◌&&◌, if◌then◌else◌, List, [], ◌∷◌, length}
use Rattle.std.specs.Prelude.{take, drop, codes, nat_eq}
use Rattle.std.specs.List.{prefix_len, starts_with}

-- what separates words: a space, a tab or a carriage return
abbrev pub is_space : ℕ → Bool
is_space byte = byte == 32 || (byte == 9 || byte == 13)

abbrev pub is_word_byte : ℕ → Bool
is_word_byte byte = not (is_space byte)

abbrev pub is_newline : ℕ → Bool
is_newline byte = byte == 10

-- a text without the separators at its head
abbrev pub without_spaces : List ℕ → List ℕ
without_spaces text = drop (prefix_len is_space text) text

-- how long the word at the head of a text is
abbrev pub word_length : List ℕ → ℕ
word_length text = prefix_len is_word_byte text

-- the first word; it is empty where there is none
abbrev pub first_word : List ℕ → List ℕ
first_word text = take (word_length (without_spaces text)) (without_spaces text)

-- what stands behind the first word
abbrev pub after_word : List ℕ → List ℕ
after_word text = drop (word_length (without_spaces text)) (without_spaces text)

-- whether a text holds no word
abbrev pub is_blank : List ℕ → Bool
is_blank text = prefix_len is_space text == length text

-- whether the last word is `(`; `start` tells whether a word may begin at the head
abbrev pub ends_in_opening : Bool → List ℕ → Bool
ends_in_opening start [] = false
ends_in_opening start (byte ∷ bytes) =
    if start && (byte == 40 && is_blank bytes) then true else ends_in_opening (is_space byte) bytes

abbrev pub begins_comment : List ℕ → Bool
begins_comment text = starts_with nat_eq text (codes "//")

-- how many bytes a line has before its first two slashes
abbrev pub comment_start : List ℕ → ℕ
comment_start [] = 0
comment_start (byte ∷ bytes) =
    if begins_comment (byte ∷ bytes) then 0 else 1 + comment_start bytes

abbrev pub without_comment : List ℕ → List ℕ
without_comment line = take (comment_start line) line
