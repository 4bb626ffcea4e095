-- The entries of one map. Go specification, "Map types", "Index expressions", "Deletion of map elements" and "Clear".
use Rattle.std.specs.Prelude.{ℕ, ◌+◌, zero, suc, List, [], ◌∷◌, ◌++◌, map, Option, Some, None, Bool, false}
use Rattle.std.specs.Prelude.{slice_get, if◌then◌else◌}
use Rattle.std.specs.Option.{option_map, option_and_then}
use Rattle.std.specs.Ordering.{int_eq}
use Rattle.std.specs.Str.{bytes_eq}
use Rattle.go_value.specs.Values.{Val, value_of}
use Rattle.go_maps.specs.Keys.{KeyCode, of_number, of_bytes, key_code}
use Rattle.go_maps.specs.declared.entries.Slot.{Slot}
use Rattle.go_maps.specs.declared.listed.Entry.{Entry}

-- a key with its value
pub record Pair : Type 0 where
  pub key : Val
  pub value : Val

-- entries by their numbers, in order of insertion; the number of one that was removed is left open
abbrev pub Map : Type 0
Map = List (Option Pair)

abbrev pub pair_of : Slot → Pair
pair_of slot = record { key = value_of slot.key; value = value_of slot.value }

abbrev pub entries_of : List (Option Slot) → Map
entries_of slots = map (option_map pair_of) slots

-- ---- entries by their numbers

abbrev pub joined : {A : Type 0} → Option (Option A) → Option A
joined None = None
joined (Some it) = it

-- the entry of a number, none where it was removed or not made yet
abbrev pub entry_at : Map → ℕ → Option Pair
entry_at entries number = joined (slice_get entries number)

-- an entry with its number
abbrev pub numbered : ℕ → Pair → ℕ × Val × Val
numbered number pair = (number, pair.key, pair.value)

abbrev pub pair_made : Entry → ℕ × Val × Val
pair_made entry = (entry.number, value_of entry.key, value_of entry.value)

abbrev pub entries_from : ℕ → Map → List (ℕ × Val × Val)
entries_from number [] = []
entries_from number (None ∷ entries) = entries_from (number + 1) entries
entries_from number (Some pair ∷ entries) = numbered number pair ∷ entries_from (number + 1) entries

-- the entries that stand in a map with their numbers, in order of insertion
abbrev pub entries_in : Map → List (ℕ × Val × Val)
entries_in entries = entries_from 0 entries

abbrev pub numbers_from : ℕ → Map → List ℕ
numbers_from number [] = []
numbers_from number (None ∷ entries) = numbers_from (number + 1) entries
numbers_from number (Some pair ∷ entries) = number ∷ numbers_from (number + 1) entries

abbrev pub numbers_in : Map → List ℕ
numbers_in entries = numbers_from 0 entries

-- how many entries stand in a map
abbrev pub count_in : Map → ℕ
count_in [] = 0
count_in (None ∷ entries) = count_in entries
count_in (Some pair ∷ entries) = count_in entries + 1

-- ---- entries by their keys

abbrev pub same_code : KeyCode → KeyCode → Bool
same_code (of_number a) (of_number b) = int_eq a b
same_code (of_bytes a) (of_bytes b) = bytes_eq a b
same_code _ _ = false

abbrev pub has_code : KeyCode → Option Pair → Bool
has_code code None = false
has_code code (Some pair) = same_code code (key_code pair.key)

abbrev pub place_of_code : KeyCode → Map → Option ℕ
place_of_code code [] = None
place_of_code code (entry ∷ entries) =
    if has_code code entry then Some 0 else option_map (λ number. suc number) (place_of_code code entries)

-- the number of the entry that has a key
abbrev pub place_of : Val → Map → Option ℕ
place_of key entries = place_of_code (key_code key) entries

abbrev pub value_at : Map → ℕ → Option Val
value_at entries number = option_map (λ pair. pair.value) (entry_at entries number)

-- the value of a key
abbrev pub value_of_key : Val → Map → Option Val
value_of_key key entries = option_and_then (value_at entries) (place_of key entries)

-- ---- changes

-- a list with the item at a place changed
abbrev pub changed : {A : Type 0} → (A → A) → List A → ℕ → List A
changed change [] place = []
changed change (it ∷ items) zero = change it ∷ items
changed change (it ∷ items) (suc place) = it ∷ changed change items place

abbrev pub with_value : Val → Option Pair → Option Pair
with_value it None = None
with_value it (Some pair) = Some (record { key = pair.key; value = it })

abbrev pub with_value_at : ℕ → Val → Map → Map
with_value_at number it entries = changed (with_value it) entries number

abbrev pub with_pair_at : Option ℕ → Val → Val → Map → Map
with_pair_at None key it entries = entries ++ Some (record { key = key; value = it }) ∷ []
with_pair_at (Some number) key it entries = with_value_at number it entries

-- with a value for a key: an entry that has the key keeps it and its number, and a new one is the last
abbrev pub with_pair : Val → Val → Map → Map
with_pair key it entries = with_pair_at (place_of key entries) key it entries

abbrev pub without_at : Option ℕ → Map → Map
without_at None entries = entries
without_at (Some number) entries = changed (λ _. None) entries number

-- without the entry that has a key
abbrev pub without_key : Val → Map → Map
without_key key entries = without_at (place_of key entries) entries

abbrev pub cleared : Map → Map
cleared entries = map (λ _. None) entries
