-- Entries of the maps by their ids.
use Rattle.std.proofs.Common.{◌≡◌, ◌<◌, ◌≤◌, ℕ, ap, sym, ◌∙◌, map, option_map, option_and_then, List, Option, Some, None, slice_get, slice_set, length, get_or}
use Rattle.std.proofs.lemmas.Option.{slice_get_past}
use Rattle.go_base.specs.declared.ids.MapId.{MapId}
use Rattle.go_value.specs.Values.{Val}
use Rattle.go_maps.specs.Entries.{Map, Pair, entries_of, entry_at, place_of_code, value_at, value_of_key, without_key, without_at}
use Rattle.go_maps.specs.Keys.{KeyCode, key_code}
use Rattle.go_maps.specs.Maps.{map_in, or_none, entry_in, with_map}
use Rattle.go_maps.specs.declared.entries.Slot.{Slot}
use Rattle.go_maps.proofs.Slots.{there_at, item_changed, item_kept, item_past}

module _ (maps : List Map) (id : MapId) (entries : Map) (there : slice_get maps id.number ≡ Some entries) where
  pub map_is : map_in maps (Some id) ≡ entries
  map_is = ap or_none there

  pub value_found : (key : Val) (code : KeyCode) (n : ℕ) (pair : Pair) (v : Val) → code ≡ key_code key → Some n ≡ place_of_code code entries → Some pair ≡ entry_at entries n → v ≡ pair.value → Some v ≡ value_of_key key (map_in maps (Some id))
  value_found key code n pair v same found at is =
      ap Some is ∙ ap (option_map (λ pair. pair.value)) at
      ∙ ap (option_and_then (value_at entries)) (found ∙ ap (λ c. place_of_code c entries) same)
      ∙ ap (value_of_key key) (sym map_is)

  pub value_absent : (key : Val) (code : KeyCode) → code ≡ key_code key → None ≡ place_of_code code entries → None ≡ value_of_key key (map_in maps (Some id))
  value_absent key code same found =
      ap (option_and_then (value_at entries)) (found ∙ ap (λ c. place_of_code c entries) same)
      ∙ ap (value_of_key key) (sym map_is)

  pub entry_is : (n : ℕ) → entry_at entries n ≡ entry_in maps (Some id) n
  entry_is n = ap (λ m. entry_at m n) (sym map_is)

pub without_code : (code : KeyCode) (key : Val) (entries : Map) → code ≡ key_code key → without_at (place_of_code code entries) entries ≡ without_key key entries
without_code code key entries same = ap (λ c. without_at (place_of_code c entries) entries) same

-- ---- one map that is changed

pub map_changed : (change : Map → Map) (maps : List (List (Option Slot))) (id : MapId) (old new : List (Option Slot)) → id.number < length maps → old ≡ get_or maps id.number old → entries_of new ≡ change (entries_of old) → map entries_of (slice_set maps id.number new) ≡ with_map change (map entries_of maps) (Some id)
map_changed change maps id old new below is same = item_changed entries_of change maps id.number old new (there_at maps id.number old below is) same

pub map_kept : (maps : List (List (Option Slot))) (id : MapId) (old new : List (Option Slot)) → id.number < length maps → old ≡ get_or maps id.number old → new ≡ old → map entries_of (slice_set maps id.number new) ≡ map entries_of maps
map_kept maps id old new below is same = item_kept entries_of maps id.number old new (there_at maps id.number old below is) (ap entries_of same)

pub map_past : (change : Map → Map) (maps : List (List (Option Slot))) (id : MapId) → length maps ≤ id.number → map entries_of maps ≡ with_map change (map entries_of maps) (Some id)
map_past change maps id past = sym (item_past entries_of change maps id.number (slice_get_past maps id.number past))
