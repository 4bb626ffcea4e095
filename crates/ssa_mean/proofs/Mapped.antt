-- What is done with maps is what the calls on the maps of a store promise.
use Rattle.std.proofs.Common.{◌≡◌, ℕ, zero, suc, List, [], ◌∷◌, Option, Some, None, ap, refl}
use Rattle.std.specs.Prelude.{slice_get}
use Rattle.std.specs.Option.{option_and_then}
use Rattle.go_base.specs.declared.ids.MapId.{MapId}
use Rattle.go_maps.specs.Entries.{changed, value_at, with_pair, with_pair_at, without_key, without_at}
use Rattle.go_maps.specs.Finds.{first_equal}
use Rattle.go_maps.specs.Keys.{unhashable}
use Rattle.go_maps.specs.Maps.{Map, map_in, or_none, put_fault, with_map}
use Rattle.go_maps.proofs.Equals.{finds_law}
use Rattle.go_store.specs.Stores.{Stored}
use Rattle.ssa_mean.specs.MapCalls.{unless_fault}
use Rattle.ssa_mean.specs.Ties.{LookupsOne, UpdatesOne, DeletesOne}

pub lookups_one : LookupsOne
lookups_one comparable store id key alike =
    ap (λ place. unless_fault (unhashable comparable key) (option_and_then (value_at (map_in store.maps id)) place))
    (finds_law comparable key (map_in store.maps id) alike)

-- two changes of one map that agree at its entries
agreed : (f g : Map → Map) (maps : List Map) (n : ℕ) → f (or_none (slice_get maps n)) ≡ g (or_none (slice_get maps n))
    → changed f maps n ≡ changed g maps n
agreed f g [] n same = refl
agreed f g (entries ∷ maps) zero same = ap (λ it. it ∷ maps) same
agreed f g (entries ∷ maps) (suc n) same = ap (λ them. entries ∷ them) (agreed f g maps n same)

agreed_in : (f g : Map → Map) (maps : List Map) (id : Option MapId) → f (map_in maps id) ≡ g (map_in maps id)
    → with_map f maps id ≡ with_map g maps id
agreed_in f g maps None same = refl
agreed_in f g maps (Some id) same = agreed f g maps id.number same

with_maps : Stored → List Map → Stored
with_maps store maps = record store { maps = maps }

pub updates_one : UpdatesOne
unfolding with_maps
updates_one comparable store id key it alike =
    ap (λ maps. unless_fault (put_fault comparable id key) (with_maps store maps))
    (agreed_in (with_pair key it) (λ entries. with_pair_at (first_equal comparable key entries) key it entries)
    store.maps id
    (ap (λ place. with_pair_at place key it (map_in store.maps id))
    (finds_law comparable key (map_in store.maps id) alike)))

pub deletes_one : DeletesOne
unfolding with_maps
deletes_one comparable store id key alike =
    ap (λ maps. unless_fault (unhashable comparable key) (with_maps store maps))
    (agreed_in (without_key key) (λ entries. without_at (first_equal comparable key entries) entries)
    store.maps id
    (ap (λ place. without_at place (map_in store.maps id))
    (finds_law comparable key (map_in store.maps id) alike)))
