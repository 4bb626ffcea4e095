-- Places in texts, arrays and slices, and parts of texts. Go specification, "Index expressions" and "Slice
-- expressions".
use Rattle.std.specs.Prelude.{ℕ, List, ℤ, pos, int_lt, int_le, unsigned_abs, Result, Ok, Err, ◌||◌, length}
use Rattle.std.specs.Prelude.{slice_range, if◌then◌else◌}
use Rattle.go_value.specs.declared.faults.Fault.{Fault}
use Rattle.go_value.specs.declared.faults.Fault.TheVariants as fault

-- the place of an element of an array, a slice or a text of a length
abbrev pub place_at : ℤ → ℕ → Result ℕ Fault
place_at index len =
    if int_lt index (pos 0) || int_le (pos len) index then Err (fault.Index index len) else Ok (unsigned_abs index)

-- the bytes of a text between two places
abbrev pub text_between : List ℕ → ℤ → ℤ → Result (List ℕ) Fault
text_between text low high =
    if int_lt low (pos 0) || int_lt high low || int_lt (pos (length text)) high then Err fault.SliceBounds
    else Ok (slice_range text (unsigned_abs low) (unsigned_abs high))
