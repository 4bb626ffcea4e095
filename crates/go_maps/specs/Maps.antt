-- Maps by their numbers. Go specification, "Map types", "Index expressions", "Deletion of map elements" and "Clear".
pub use Rattle.go_maps.specs.Entries.{Map, Pair}
use Rattle.std.specs.Prelude.{ℕ, List, [], map, Option, Some, None, Result, Bool, slice_get}
use Rattle.go_base.specs.declared.ids.MapId.{MapId}
use Rattle.go_base.specs.declared.ids.TypeId.{TypeId}
use Rattle.go_type.specs.Table.{Table}
use Rattle.go_value.specs.declared.faults.Fault.{Fault}
use Rattle.go_value.specs.declared.faults.Fault.TheVariants as fault
use Rattle.go_value.specs.declared.faults.ValueError.{ValueError}
use Rattle.go_value.specs.Values.{Val}
use Rattle.go_maps.specs.Entries.{changed, entries_of, entry_at}
use Rattle.go_maps.specs.Equality.{TellsComparable}
use Rattle.go_maps.specs.Keys.{TellsFault, unhashable}
use Rattle.go_maps.specs.declared.maps.Maps.{Maps}

abbrev pub maps_of : Maps → List Map
maps_of all = map entries_of all.maps.items

abbrev pub or_none : Option Map → Map
or_none None = []
or_none (Some entries) = entries

-- the entries of the map of an id; nil has none
abbrev pub map_in : List Map → Option MapId → Map
map_in maps None = []
map_in maps (Some id) = or_none (slice_get maps id.number)

-- the entry of a number in the map of an id
abbrev pub entry_in : List Map → Option MapId → ℕ → Option Pair
entry_in maps id number = entry_at (map_in maps id) number

-- with the entries of the map of an id changed
abbrev pub with_map : (Map → Map) → List Map → Option MapId → List Map
with_map change maps None = maps
with_map change maps (Some id) = changed change maps id.number

-- no entry can be put into a nil map; else the fault is that of the key
abbrev pub put_fault : (TypeId → Bool) → Option MapId → Val → Option Fault
put_fault test None key = Some fault.NilMap
put_fault test (Some map) key = unhashable test key

abbrev pub FaultsPut : {A : Type 0} → Table → Option MapId → Val → Result A ValueError → Type 0
FaultsPut types map key answer =
    (test : TypeId → Bool) → TellsComparable types test → TellsFault answer (put_fault test map key)
