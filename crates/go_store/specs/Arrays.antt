-- Arrays, and runs of their elements. Go specification, "Array types" and "Slice types".
use Rattle.std.specs.Prelude.{ℕ, zero, suc, ◌+◌, List, [], ◌∷◌, Option, Some, None, nat_le, length, take, drop}
use Rattle.std.specs.Prelude.{false, if◌then◌else◌}
use Rattle.go_value.specs.Values.{Val, Parts, none, part, parts}

abbrev pub values_in : Parts → List Val
values_in none = []
values_in (part it blank rest) = it ∷ values_in rest

abbrev pub elements : List Val → Parts
elements [] = none
elements (it ∷ items) = part it false (elements items)

abbrev pub array_of : List Val → Val
array_of items = parts (elements items)

-- parts with further elements behind them
abbrev pub extended : List Val → Parts → Parts
extended items none = elements items
extended items (part it blank rest) = part it blank (extended items rest)

abbrev pub with_elements : List Val → Val → Val
with_elements items (parts it) = parts (extended items it)
with_elements items it = it

-- so many of some values from a place on, where there are so many
abbrev pub run_among : List Val → ℕ → ℕ → Option (List Val)
run_among items first len = if nat_le (first + len) (length items) then Some (take len (drop first items)) else None

abbrev pub run_of : Val → ℕ → ℕ → Option (List Val)
run_of (parts it) first len = run_among (values_in it) first len
run_of it first len = None

-- parts with others in the places from one on
abbrev pub overwritten : Parts → Parts → ℕ → Parts
overwritten new none first = none
overwritten new (part it blank rest) (suc first) = part it blank (overwritten new rest first)
overwritten none (part it blank rest) zero = part it blank rest
overwritten (part new unnamed more) (part it blank rest) zero = part new unnamed (overwritten more rest zero)

-- an array with the elements of another in the places from one on
abbrev pub with_run : Val → ℕ → Val → Val
with_run (parts new) first (parts it) = parts (overwritten new it first)
with_run new first it = it
