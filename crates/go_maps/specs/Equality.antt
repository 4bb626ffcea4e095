-- Which values are equal. Go specification, "Comparison operators".
use Rattle.std.specs.Prelude.{ℕ, ◌≡◌, ◌==◌, Bool, true, false, not, ◌&&◌, List, [], ◌∷◌, Option, Some, None}
use Rattle.std.specs.Prelude.{is_none, Result, Ok, Err, IsTrue, ◌↔◌, if◌then◌else◌}
use Rattle.std.specs.Ordering.{int_eq}
use Rattle.go_base.specs.declared.ids.CellId.{CellId}
use Rattle.go_base.specs.declared.ids.ChanId.{ChanId}
use Rattle.go_base.specs.declared.ids.MapId.{MapId}
use Rattle.go_base.specs.declared.ids.TypeId.{TypeId}
use Rattle.go_type.specs.Comparable.{Comparable}
use Rattle.go_type.specs.Table.{Table}
use Rattle.go_type.specs.declared.term.Basic.TheVariants as basic
use Rattle.go_type.specs.declared.term.TypeTerm.{TypeTerm}
use Rattle.go_type.specs.declared.term.TypeTerm.TheVariants.{Basic as Plain, Pointer, Chan, Interface, Slice, Map}
use Rattle.go_type.specs.declared.term.TypeTerm.TheVariants.{Func}
use Rattle.go_value.specs.declared.address.Pointer as address
use Rattle.go_value.specs.declared.faults.Fault.{Fault}
use Rattle.go_value.specs.declared.faults.Fault.TheVariants as fault
use Rattle.go_value.specs.declared.faults.ValueError.{ValueError}
use Rattle.go_value.specs.declared.faults.ValueError.TheVariants as errors
use Rattle.go_value.specs.Values.{Val, Field, Parts, none, part, truth, number, text, pointer, slice, map_number}
use Rattle.go_value.specs.Values.{chan_number, nil_function, nil_interface, dynamic, parts}

-- a test that tells which types are comparable
abbrev pub TellsComparable : Table → (TypeId → Bool) → Type 0
TellsComparable types test = (of : TypeId) → IsTrue (test of) ↔ Comparable types of

-- a call tells what a comparison gives; it wants no memory
abbrev pub Tells : Result Bool ValueError → Result Bool Fault → Type 0
Tells (Ok same) outcome = outcome ≡ Ok same
Tells (Err (errors.Fault it)) outcome = outcome ≡ Err it
Tells (Err (errors.OutOfMemory)) outcome = ⊥

-- ---- values without parts

abbrev pub same_bool : Bool → Bool → Bool
same_bool true b = b
same_bool false b = not b

abbrev pub same_numbers : List ℕ → List ℕ → Bool
same_numbers [] [] = true
same_numbers [] (y ∷ ys) = false
same_numbers (x ∷ xs) [] = false
same_numbers (x ∷ xs) (y ∷ ys) = (x == y) && same_numbers xs ys

abbrev pub same_cell : Option CellId → Option CellId → Bool
same_cell None None = true
same_cell None (Some b) = false
same_cell (Some a) None = false
same_cell (Some a) (Some b) = a.number == b.number

abbrev pub same_map : Option MapId → Option MapId → Bool
same_map None None = true
same_map None (Some b) = false
same_map (Some a) None = false
same_map (Some a) (Some b) = a.number == b.number

abbrev pub same_chan : Option ChanId → Option ChanId → Bool
same_chan None None = true
same_chan None (Some b) = false
same_chan (Some a) None = false
same_chan (Some a) (Some b) = a.number == b.number

-- nil pointers are equal, and pointers to one part of one variable
abbrev pub same_pointer : address.Pointer → address.Pointer → Bool
same_pointer a b = same_cell a.cell b.cell && same_numbers a.path b.path

abbrev pub is_nil_function : Val → Bool
is_nil_function nil_function = true
is_nil_function _ = false

-- slices, maps and functions are compared with nil alone
abbrev pub same_leaf : Val → Val → Bool
same_leaf (truth a) (truth b) = same_bool a b
same_leaf (number a) (number b) = int_eq a b
same_leaf (text a) (text b) = same_numbers a b
same_leaf (pointer a) (pointer b) = same_pointer a b
same_leaf (slice a) (slice b) = is_none a.at.cell && is_none b.at.cell
same_leaf (map_number a) (map_number b) = same_map a b
same_leaf (chan_number a) (chan_number b) = same_chan a b
same_leaf nil_function nil_function = true
same_leaf nil_interface nil_interface = true
same_leaf _ _ = false

-- ---- values in interfaces, and parts

-- two values in interfaces, where what is compared next is told
abbrev pub compared_dynamic : (TypeId → Bool) → TypeId → (Val → Result Bool Fault) → Val → Result Bool Fault
compared_dynamic test of inner (dynamic other it) =
    if of.number == other.number then (if test of then inner it else Err (fault.Uncomparable of)) else Ok false
compared_dynamic test of inner it = Ok false

abbrev pub compared_within : (Parts → Result Bool Fault) → Val → Result Bool Fault
compared_within inner (parts it) = inner it
compared_within inner it = Ok false

-- the later parts count where the earlier ones are equal
abbrev pub next_where_equal : Result Bool Fault → Result Bool Fault → Result Bool Fault
next_where_equal (Ok true) later = later
next_where_equal (Ok false) later = Ok false
next_where_equal (Err fault) later = Err fault

abbrev pub compared_first : Bool → (Val → Result Bool Fault) → (Parts → Result Bool Fault) → Parts → Result Bool Fault
compared_first blank first later none = Ok false
compared_first true first later (part it true rest) = later rest
compared_first false first later (part it false rest) = next_where_equal (first it) (later rest)
compared_first true first later (part it false rest) = Ok false
compared_first false first later (part it true rest) = Ok false

abbrev pub is_empty : Parts → Bool
is_empty none = true
is_empty (part it blank rest) = false

abbrev mutual
  -- whether two values are equal: in order, up to the first difference; fields named `_` are left out
  pub compared : (TypeId → Bool) → Val → Val → Result Bool Fault
  compared test (dynamic of it) b = compared_dynamic test of (compared test it) b
  compared test (parts it) b = compared_within (compared_parts test it) b
  compared test a b = Ok (same_leaf a b)

  pub compared_parts : (TypeId → Bool) → Parts → Parts → Result Bool Fault
  compared_parts test none b = Ok (is_empty b)
  compared_parts test (part it blank rest) b = compared_first blank (compared test it) (compared_parts test rest) b

abbrev pub Compares : Table → Val → Val → Result Bool ValueError → Type 0
Compares types a b answer = (test : TypeId → Bool) → TellsComparable types test → Tells answer (compared test a b)

-- the parts of values, of which those count that are not named `_`
abbrev pub ComparesParts : Table → Parts → Parts → Result Bool ValueError → Type 0
ComparesParts types a b answer =
    (test : TypeId → Bool) → TellsComparable types test → Tells answer (compared_parts test a b)

abbrev pub compared_part : Bool → Bool → Result Bool Fault → Result Bool Fault
compared_part false false outcome = outcome
compared_part true true outcome = Ok true
compared_part _ _ outcome = Ok false

abbrev pub ComparesPart : Table → Field → Field → Result Bool ValueError → Type 0
ComparesPart types a b answer =
    (test : TypeId → Bool) → TellsComparable types test →
    Tells answer (compared_part a.blank b.blank (compared test a.value b.value))

-- ---- what a term shows by itself

-- whether values of a type with a term are comparable; None where its parts have to be looked at
abbrev pub shown_by : TypeTerm → Option Bool
shown_by (Plain basic.UntypedNil) = Some false
shown_by (Plain it) = Some true
shown_by (Pointer it) = Some true
shown_by (Chan dir it) = Some true
shown_by (Interface it) = Some true
shown_by (Slice it) = Some false
shown_by (Map key it) = Some false
shown_by (Func it) = Some false
shown_by _ = None
