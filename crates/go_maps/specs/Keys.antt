-- Keys of maps: what stands for a key, so that keys of one type have one code exactly where they are equal. Go
-- specification, "Map types".
use Rattle.std.specs.Prelude.{ℕ, ℤ, ◌≡◌, ◌<◌, ◌^◌, Bool, true, false, List, [], ◌∷◌, ◌++◌, length}
use Rattle.std.specs.Prelude.{Option, Some, None, Result, Ok, Err, ◌↔◌, if◌then◌else◌, FitsSigned}
use Rattle.std.specs.Int.{to_le_bytes, cast_unsigned, w64, w128}
use Rattle.go_base.specs.declared.ids.CellId.{CellId}
use Rattle.go_base.specs.declared.ids.ChanId.{ChanId}
use Rattle.go_base.specs.declared.ids.TypeId.{TypeId}
use Rattle.go_value.specs.declared.address.Pointer.{Pointer}
use Rattle.go_value.specs.declared.faults.Fault.{Fault}
use Rattle.go_value.specs.declared.faults.Fault.TheVariants as fault
use Rattle.go_value.specs.declared.faults.ValueError.{ValueError}
use Rattle.go_value.specs.declared.faults.ValueError.TheVariants as errors
use Rattle.go_type.specs.Table.{Table}
use Rattle.go_value.specs.Values.{Val, Field, Parts, none, part, truth, number, text, pointer, chan_number}
use Rattle.go_value.specs.Values.{nil_interface, dynamic, parts}
use Rattle.go_maps.specs.Equality.{compared, TellsComparable}

-- ---- the code of a key

abbrev pub number_code : ℕ → List ℕ
number_code n = to_le_bytes w64 n

abbrev pub steps_code : List ℕ → List ℕ
steps_code [] = []
steps_code (step ∷ steps) = number_code step ++ steps_code steps

abbrev pub pointer_code : Option CellId → List ℕ → List ℕ
pointer_code None path = 0 ∷ []
pointer_code (Some cell) path = 1 ∷ (number_code cell.number ++ (number_code (length path) ++ steps_code path))

abbrev mutual
  pub code : Val → List ℕ
  code (truth false) = 0 ∷ []
  code (truth true) = 1 ∷ []
  code (number it) = to_le_bytes w128 (cast_unsigned w128 it)
  code (text bytes) = number_code (length bytes) ++ bytes
  code (pointer it) = pointer_code it.cell it.path
  code (chan_number None) = 0 ∷ []
  code (chan_number (Some chan)) = 1 ∷ number_code chan.number
  code nil_interface = 0 ∷ []
  code (dynamic of it) = 1 ∷ (number_code of.number ++ code it)
  code (parts it) = parts_code it
  code _ = []

  -- fields named `_` are left out
  pub parts_code : Parts → List ℕ
  parts_code none = []
  parts_code (part it true rest) = parts_code rest
  parts_code (part it false rest) = code it ++ parts_code rest

-- integers stand for themselves
pub data KeyCode : Type 0 where
  of_number : ℤ → KeyCode
  of_bytes : List ℕ → KeyCode

abbrev pub key_code : Val → KeyCode
key_code (number it) = of_number it
key_code it = of_bytes (code it)

-- ---- keys that have none

abbrev pub first_fault : Option Fault → Option Fault → Option Fault
first_fault (Some it) later = Some it
first_fault None later = later

abbrev mutual
  -- the fault of the first interface in a key that holds a value of a type that is not comparable
  pub unhashable : (TypeId → Bool) → Val → Option Fault
  unhashable test (dynamic of it) = if test of then unhashable test it else Some (fault.Unhashable of)
  unhashable test (parts it) = unhashable_in test it
  unhashable test _ = None

  pub unhashable_in : (TypeId → Bool) → Parts → Option Fault
  unhashable_in test none = None
  unhashable_in test (part it true rest) = unhashable_in test rest
  unhashable_in test (part it false rest) = first_fault (unhashable test it) (unhashable_in test rest)

-- a call gives the fault of a key, and gives none where the key has none; nothing is said where memory does not suffice
abbrev pub TellsFault : {A : Type 0} → Result A ValueError → Option Fault → Type 0
TellsFault (Ok it) wanted = wanted ≡ None
TellsFault (Err (errors.Fault it)) wanted = wanted ≡ Some it
TellsFault (Err (errors.OutOfMemory)) wanted = Unit {0}

abbrev pub Hashes : {A : Type 0} → Table → Val → Result A ValueError → Type 0
Hashes types key answer = (test : TypeId → Bool) → TellsComparable types test → TellsFault answer (unhashable test key)

abbrev pub HashesIn : {A : Type 0} → Table → Parts → Result A ValueError → Type 0
HashesIn types keys answer =
    (test : TypeId → Bool) → TellsComparable types test → TellsFault answer (unhashable_in test keys)

-- a part, of which nothing counts where it is named `_`
abbrev pub part_code : Field → List ℕ
part_code it = if it.blank then [] else code it.value

abbrev pub unhashable_part : (TypeId → Bool) → Field → Option Fault
unhashable_part test it = if it.blank then None else unhashable test it.value

abbrev pub HashesPart : {A : Type 0} → Table → Field → Result A ValueError → Type 0
HashesPart types it answer =
    (test : TypeId → Bool) → TellsComparable types test → TellsFault answer (unhashable_part test it)

-- ---- keys of one type

abbrev pub IsCount : ℕ → Type 0
IsCount n = n < 2 ^ 64

abbrev pub AreCounts : List ℕ → Type 0
AreCounts [] = Unit {0}
AreCounts (x ∷ xs) = IsCount x × AreCounts xs

-- the nil pointer has no path
abbrev pub HasPath : Option CellId → List ℕ → Type 0
HasPath None path = path ≡ []
HasPath (Some cell) path = IsCount cell.number × IsCount (length path) × AreCounts path

abbrev pub IsPointer : Pointer → Type 0
IsPointer it = HasPath it.cell it.path

abbrev pub IsChan : Option ChanId → Type 0
IsChan None = Unit {0}
IsChan (Some chan) = IsCount chan.number

mutual
  -- two values that one type can have, as code holds them: of one form, with as many parts, the same of which are named
  -- `_`; interfaces may hold values of any types, and of one type what that can have
  pub data Alike : Val → Val → Type 0 where
    truths : (a b : Bool) → Alike (truth a) (truth b)
    numbers : (a b : ℤ) → FitsSigned w128 a → FitsSigned w128 b → Alike (number a) (number b)
    texts : (a b : List ℕ) → IsCount (length a) → IsCount (length b) → Alike (text a) (text b)
    pointers : (a b : Pointer) → IsPointer a → IsPointer b → Alike (pointer a) (pointer b)
    chans : (a b : Option ChanId) → IsChan a → IsChan b → Alike (chan_number a) (chan_number b)
    nils : Alike nil_interface nil_interface
    first_nil : (of : TypeId) (it : Val) → Alike nil_interface (dynamic of it)
    second_nil : (of : TypeId) (it : Val) → Alike (dynamic of it) nil_interface
    dynamics : (of other : TypeId) (a b : Val) → IsCount of.number → IsCount other.number
        → (of.number ≡ other.number → Alike a b) → Alike (dynamic of a) (dynamic other b)
    compounds : (a b : Parts) → AlikeParts a b → Alike (parts a) (parts b)

  pub data AlikeParts : Parts → Parts → Type 0 where
    ends : AlikeParts none none
    blanks : (a b : Val) (rest rest' : Parts) → AlikeParts rest rest'
        → AlikeParts (part a true rest) (part b true rest')
    fields : (a b : Val) (rest rest' : Parts) → Alike a b → AlikeParts rest rest'
        → AlikeParts (part a false rest) (part b false rest')

-- keys of one type have one code exactly where they are equal
abbrev pub KeysLaw : Type 0
KeysLaw =
    (test : TypeId → Bool) (a b : Val) → Alike a b → unhashable test a ≡ None →
    (key_code a ≡ key_code b) ↔ (compared test a b ≡ Ok true)
