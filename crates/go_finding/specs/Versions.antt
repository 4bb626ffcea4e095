-- Versions of Go.
use Rattle.std.specs.Prelude.{ℕ, ◌+◌, ◌-◌, ◌*◌, min, Bool, ◌==◌, ◌&&◌, ◌||◌, nat_le, nat_eq, if◌then◌else◌, List}
use Rattle.std.specs.Prelude.{length, take, drop, Option, Some, None, codes}
use Rattle.std.specs.List.{prefix_len, fold, starts_with}

abbrev pub is_digit : ℕ → Bool
is_digit byte = nat_le 48 byte && nat_le byte 57

-- a number with one more digit; every number above 1,000,000 counts as that one
abbrev pub next_number : ℕ → ℕ → ℕ
next_number number digit = min (number * 10 + (digit - 48)) 1000000

-- the number that decimal digits write
abbrev pub number_of : List ℕ → ℕ
number_of digits = fold next_number 0 digits

-- digits, at least one
abbrev pub are_digits : List ℕ → Bool
are_digits text = nat_le 1 (length text) && prefix_len is_digit text == length text

-- nothing, or a dot and digits
abbrev pub is_patch : List ℕ → Bool
is_patch text = length text == 0 || (starts_with nat_eq text (codes ".") && are_digits (drop 1 text))

-- the N of `N` or `N.P`
abbrev pub minor_of : List ℕ → Option ℕ
minor_of numbers =
    let digits = prefix_len is_digit numbers in
    if nat_le 1 digits && is_patch (drop digits numbers) then Some (number_of (take digits numbers)) else None

-- the N of `1.N` or `1.N.P`
abbrev pub minor_version : List ℕ → Option ℕ
minor_version word = if starts_with nat_eq word (codes "1.") then minor_of (drop 2 word) else None
