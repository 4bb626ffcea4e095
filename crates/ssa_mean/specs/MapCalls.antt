-- What is done with the maps of a store, with a key that must be one that can be hashed. Go specification, "Map types",
-- "Index expressions" and "Deletion of map elements".
pub use Rattle.go_store.specs.MapCalls.{made_map, map_changed}
use Rattle.std.specs.Prelude.{Bool, Option, Some, None}
use Rattle.go_base.specs.declared.ids.MapId.{MapId}
use Rattle.go_base.specs.declared.ids.TypeId.{TypeId}
use Rattle.go_maps.specs.Entries.{value_of_key, with_pair, without_key}
use Rattle.go_maps.specs.Keys.{unhashable}
use Rattle.go_maps.specs.Maps.{Map, map_in, put_fault}
use Rattle.go_store.specs.Stores.{Stored}
use Rattle.go_value.specs.Values.{Val}
use Rattle.go_value.specs.declared.faults.Fault.{Fault}
use Rattle.ssa_mean.specs.Comes.{Comes, to, faults}

-- the entries of a map; a nil map has none
abbrev pub entries_of : Stored → Option MapId → Map
entries_of store id = map_in store.maps id

abbrev pub unless_fault : {A : Type 0} → Option Fault → A → Comes A
unless_fault (Some fault) it = faults fault
unless_fault None it = to it

-- an entry is found by the code of its key. Of keys that one type can have, the codes of two are one exactly where the
-- keys are equal, so that it is the entry whose key is equal
abbrev pub looked_up : (TypeId → Bool) → Stored → Option MapId → Val → Comes (Option Val)
looked_up comparable store id key = unless_fault (unhashable comparable key) (value_of_key key (entries_of store id))

-- an entry that has the key keeps it; a new one is the last
abbrev pub updated : (TypeId → Bool) → Stored → Option MapId → Val → Val → Comes Stored
updated comparable store id key it =
    unless_fault (put_fault comparable id key) (map_changed (with_pair key it) store id)

abbrev pub deleted : (TypeId → Bool) → Stored → Option MapId → Val → Comes Stored
deleted comparable store id key = unless_fault (unhashable comparable key) (map_changed (without_key key) store id)
