-- Lines and columns of a file, both counted from 1.
use Rattle.std.specs.Prelude.{ℕ, ◌+◌, ◌==◌, Bool, not, List, take, count_by}
use Rattle.std.specs.List.{suffix_len}

abbrev pub is_newline : ℕ → Bool
is_newline byte = byte == 10

-- one more than the newlines before the offset
abbrev pub line_at : List ℕ → ℕ → ℕ
line_at bytes offset = count_by is_newline (take offset bytes) + 1

-- one more than the bytes between the last newline before the offset, or the start, and the offset
abbrev pub column_at : List ℕ → ℕ → ℕ
column_at bytes offset = suffix_len (λ byte. not (is_newline byte)) (take offset bytes) + 1
