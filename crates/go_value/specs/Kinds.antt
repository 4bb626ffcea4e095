-- What kind of value a value is.
use Rattle.std.specs.Prelude.{ℤ, Bool, true, false, Option, Some, None}
use Rattle.go_value.specs.Values.{Val, number, parts}

abbrev pub integer : Val → Option ℤ
integer (number it) = Some it
integer _ = None

-- another integer in the place of one
abbrev pub renumbered : ℤ → Val → Val
renumbered new (number it) = number new
renumbered new it = it

-- an array, a struct or a tuple
abbrev pub has_parts : Val → Bool
has_parts (parts it) = true
has_parts _ = false
