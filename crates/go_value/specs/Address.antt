-- What an address stands for.
use Rattle.std.specs.Prelude.{ℕ, [], ◌∷◌, ◌++◌, Some, None, is_none, if◌then◌else◌}
use Rattle.go_value.specs.declared.address.Pointer.{Pointer}
use Rattle.go_value.specs.declared.address.SliceValue.{SliceValue}
use Rattle.go_value.specs.declared.address.Form.{Form}
use Rattle.go_value.specs.declared.address.Form.TheVariants as form

abbrev pub nil_pointer : Pointer
nil_pointer = record { cell = None; path = [] }

-- the same pointer; and nil where there is no cell
abbrev pub settled : Pointer → Pointer
settled pointer = if is_none pointer.cell then nil_pointer else pointer

abbrev pub nil_slice : SliceValue
nil_slice = record { at = nil_pointer; len = 0; cap = 0 }

-- the pointer to a field of a struct or an element of an array
abbrev pub part_of : Pointer → ℕ → Pointer
part_of pointer step = record { cell = pointer.cell; path = pointer.path ++ step ∷ [] }

abbrev pub pointer_of : Form → Pointer
pointer_of form.Nil = nil_pointer
pointer_of (form.Whole cell) = record { cell = Some cell; path = [] }
pointer_of (form.Near cell part) = record { cell = Some (record { number = cell }); path = part ∷ [] }
pointer_of (form.Far rc) = rc.value
