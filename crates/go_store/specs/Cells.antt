-- Variables and their parts: the value that a cell holds, and what reading and writing a part of it gives. Go
-- specification, "Variables" and "Assignment statements".
use Rattle.std.specs.Prelude.{ℕ, zero, suc, ℤ, pos, List, [], ◌∷◌, map, Option, Some, None, false, ◌≡◌}
use Rattle.std.specs.Option.{option_and_then}
use Rattle.go_store.specs.declared.cells.Cell.{Cell}
use Rattle.go_store.specs.declared.cells.Place.{Place}
use Rattle.go_store.specs.declared.cells.Cell.TheOpen as layers
use Rattle.go_store.specs.declared.cells.Cell.TheFolds.{fold-Cell, fold-Place}
use Rattle.go_value.specs.Kinds.{integer}
use Rattle.go_value.specs.Values.{Val, Parts, Field, number, parts, none, part, parts_of, value_of}

-- ---- the value that a cell holds

abbrev pub plain_number : ℤ → Field
plain_number it = record { value = number it; blank = false }

-- the array of integers
abbrev pub packed : List ℤ → Val
packed ints = parts (parts_of (map plain_number ints))

-- the array of integers that bytes are
abbrev pub packed_bytes : List ℕ → Val
packed_bytes bytes = packed (map pos bytes)

abbrev pub cell_layer : layers.Cell-F Val Field → Val
cell_layer (layers.Cell-F.One it) = value_of it.value
cell_layer (layers.Cell-F.Ints it) = packed it.items
cell_layer (layers.Cell-F.Many it) = parts (parts_of it.items)
cell_layer (layers.Cell-F.Bytes it) = packed_bytes it.items

abbrev pub place_layer : layers.Place-F Val Field → Field
place_layer it = record { value = it.cell; blank = it.blank }

unfoldable pub held : Cell → Val
held = fold-Cell Val Field cell_layer place_layer

unfoldable pub place_of : Place → Field
place_of = fold-Place Val Field cell_layer place_layer

-- the value whose parts stand in places one by one
abbrev pub spread : List Place → Val
spread places = parts (parts_of (map place_of places))

abbrev pub held_in : Place → Val
held_in place = held place.cell

-- ---- parts of values, by field numbers and array indices, the outermost first

abbrev pub value_in : Parts → ℕ → Option Val
value_in none step = None
value_in (part it blank rest) zero = Some it
value_in (part it blank rest) (suc step) = value_in rest step

abbrev pub value_at : Val → ℕ → Option Val
value_at (parts it) step = value_in it step
value_at _ step = None

-- the value of a part, where there is that part
abbrev pub read_at : Val → List ℕ → Option Val
read_at it [] = Some it
read_at it (step ∷ steps) = option_and_then (λ inner. read_at inner steps) (value_at it step)

abbrev pub changed_in : (Val → Val) → Parts → ℕ → Parts
changed_in change none step = none
changed_in change (part it blank rest) zero = part (change it) blank rest
changed_in change (part it blank rest) (suc step) = part it blank (changed_in change rest step)

abbrev pub changed_at : (Val → Val) → Val → ℕ → Val
changed_at change (parts it) step = parts (changed_in change it step)
changed_at change it step = it

-- a value with a part changed; it is the same where there is no such part
abbrev pub updated : (Val → Val) → Val → List ℕ → Val
updated change it [] = change it
updated change it (step ∷ steps) = changed_at (λ inner. updated change inner steps) it step

-- a value with a new one in the place of a part
abbrev pub written_at : Val → Val → List ℕ → Val
written_at new it steps = updated (λ _. new) it steps

-- the integer that there is
abbrev pub integer_in : Option Val → Option ℤ
integer_in it = option_and_then integer it

-- a part that is an integer, and no field named `_`
abbrev pub IsPlain : Field → Type 0
IsPlain it = (n : ℤ) × (it ≡ plain_number n)
