-- The maps of a store, as they change. Go specification, "Map types".
use Rattle.std.specs.Prelude.{[], ◌∷◌, ◌++◌, Option}
use Rattle.go_base.specs.declared.ids.MapId.{MapId}
use Rattle.go_maps.specs.Maps.{Map, with_map}
use Rattle.go_store.specs.Stores.{Stored}

-- with a new map, which has no entries
abbrev pub made_map : Stored → Stored
made_map store = record store { maps = store.maps ++ [] ∷ [] }

-- with the entries of a map changed
abbrev pub map_changed : (Map → Map) → Stored → Option MapId → Stored
map_changed change store id = record store { maps = with_map change store.maps id }
