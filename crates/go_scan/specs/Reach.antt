-- How far the longest pieces reach, from left to right.
use Rattle.std.specs.Prelude.{ℕ, zero, suc, ◌+◌, ◌-◌, ◌^◌, List, [], ◌∷◌, Bool, true, false, Option, Some, None}
use Rattle.std.specs.Prelude.{is_some, ◌==◌, ◌&&◌, not, nat_lt, if◌then◌else◌}
use Rattle.std.specs.Option.{option_map_or}
use Rattle.go_ast.specs.Literals.{first, second}
use Rattle.go_ast.specs.Marks.{mark_of_one, mark_of_two, mark_of_three}
use Rattle.go_scan.specs.declared.endings.Ending.{Ending}

-- the bytes of the longest run of parts; `left` bytes are left of one that began before
abbrev pub run_length : (List ℕ → Option ℕ) → ℕ → List ℕ → ℕ
run_length step left [] = 0
run_length step (suc left) (byte ∷ bytes) = 1 + run_length step left bytes
run_length step zero (byte ∷ bytes) =
    option_map_or (λ width. 1 + run_length step (width - 1) bytes) (step (byte ∷ bytes)) 0

abbrev pub third : List ℕ → ℕ
third [] = 0
third (byte ∷ bytes) = second bytes

abbrev pub longest_mark : ℕ → ℕ → ℕ → ℕ
longest_mark a b c =
    if is_some (mark_of_three a b c) then 3
    else if is_some (mark_of_two a b) then 2
    else if is_some (mark_of_one a) then 1
    else 0

abbrev pub mark_length : List ℕ → ℕ
mark_length text = longest_mark (first text) (second text) (third text)

abbrev pub one_more : Ending → Ending
one_more ending = record { length = 1 + ending.length; closed = ending.closed }

abbrev pub ending : ℕ → Bool → Ending
ending length closed = record { length = length; closed = closed }

abbrev pub line_length : List ℕ → ℕ
line_length [] = 0
line_length (byte ∷ bytes) = if byte == 10 then 0 else 1 + line_length bytes

abbrev pub comment_ending : Bool → List ℕ → Ending
comment_ending star [] = ending 0 false
comment_ending star (byte ∷ bytes) =
    if star && byte == 47 then ending 1 true else one_more (comment_ending (byte == 42) bytes)

abbrev pub quoted_ending : ℕ → Bool → List ℕ → Ending
quoted_ending quote escaped [] = ending 0 false
quoted_ending quote escaped (byte ∷ bytes) =
    if byte == 10 then ending 0 false
    else if not escaped && byte == quote then ending 1 true
    else one_more (quoted_ending quote (not escaped && byte == 92) bytes)

abbrev pub raw_ending : List ℕ → Ending
raw_ending [] = ending 0 false
raw_ending (byte ∷ bytes) = if byte == 96 then ending 1 true else one_more (raw_ending bytes)

-- a value where it is at most 2^127 - 1
abbrev pub limited : ℕ → Option ℕ
limited value = if nat_lt value (2 ^ 127) then Some value else None
