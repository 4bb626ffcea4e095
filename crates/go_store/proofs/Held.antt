-- What a cell holds, by its variant.
use Rattle.std.proofs.Common.{◌≡◌, ap, sym, refl, ◌∙◌, map, List, [], ◌∷◌, ℕ, pos, Bool}
use Rattle.go_store.specs.declared.cells.Cell.{Cell}
use Rattle.go_store.specs.declared.leaves.Leaf.{Leaf}
use Rattle.go_store.specs.declared.cells.Place.{Place}
use Rattle.go_store.specs.declared.cells.Cell.TheVariants as cells
use Rattle.go_store.specs.declared.cells.Cell.TheOpen as layers
use Rattle.go_store.specs.declared.cells.Cell.TheOpen.{Cell-F}
use Rattle.go_store.specs.declared.cells.Cell.TheViews.{roll-Cell}
use Rattle.go_store.specs.declared.cells.Cell.TheFolds.{fold-roll-Cell, fold-roll-Place, map-Cell}
use Rattle.go_value.specs.Values.{Val, Field, parts, parts_of, value_of}
use Rattle.go_store.specs.Cells.{held, place_of, cell_layer, place_layer, packed, packed_bytes, plain_number}

abbrev seen : Cell-F Cell Place → Val
seen x = cell_layer (map-Cell Cell Place Val Field held place_of x)

rolled : (x : Cell-F Cell Place) → held (roll-Cell x) ≡ seen x
unfolding held place_of
rolled x = fold-roll-Cell Val Field cell_layer place_layer x

pub one_is : (it : Leaf) → held (cells.One it) ≡ value_of it.value
one_is it = ap held (sym (cells.rolls-One it)) ∙ rolled (layers.Cell-F.One it)

pub ints_are : (it : _) → held (cells.Ints it) ≡ packed it.items
ints_are it = ap held (sym (cells.rolls-Ints it)) ∙ rolled (layers.Cell-F.Ints it)

pub bytes_are : (it : _) → held (cells.Bytes it) ≡ packed_bytes it.items
bytes_are it = ap held (sym (cells.rolls-Bytes it)) ∙ rolled (layers.Cell-F.Bytes it)

pub many_are : (it : _) → held (cells.Many it) ≡ parts (parts_of (map place_of it.items))
many_are it = ap held (sym (cells.rolls-Many it)) ∙ rolled (layers.Cell-F.Many it)

pub place_is : (it : Place) → place_of it ≡ record { value = held it.cell; blank = it.blank }
unfolding held place_of
place_is it = fold-roll-Place Val Field cell_layer place_layer (record { cell = it.cell; blank = it.blank })

-- ---- bytes as parts

abbrev pub plain_byte : ℕ → Field
plain_byte byte = plain_number (pos byte)

pub plain_bytes : (bytes : List ℕ) → map plain_number (map pos bytes) ≡ map plain_byte bytes
plain_bytes [] = refl
plain_bytes (b ∷ bytes) = ap (λ fields. plain_byte b ∷ fields) (plain_bytes bytes)

pub bytes_parts : (bytes : List ℕ) → packed_bytes bytes ≡ parts (parts_of (map plain_byte bytes))
bytes_parts bytes = ap (λ (fields : List Field). parts (parts_of fields)) (plain_bytes bytes)

-- ---- parts and their places

abbrev field : Val → Bool → Field
field it blank = record { value = it; blank = blank }

pub place_of_part : (it : Field) (cell : Cell) → held cell ≡ it.value → place_of (record { cell = cell; blank = it.blank }) ≡ it
place_of_part it cell same = place_is (record { cell = cell; blank = it.blank }) ∙ ap (λ v. field v it.blank) same

pub part_of_place : (it : Place) (value : Val) → value ≡ held it.cell → field value it.blank ≡ place_of it
part_of_place it value same = ap (λ v. field v it.blank) same ∙ sym (place_is it)

pub place_again : (it : Place) (cell : Cell) → held cell ≡ held it.cell → place_of (record { cell = cell; blank = it.blank }) ≡ place_of it
place_again it cell same = place_is (record { cell = cell; blank = it.blank }) ∙ ap (λ v. field v it.blank) same ∙ sym (place_is it)

pub ruleset of_forms = (one_is, ints_are, bytes_are, many_are)
