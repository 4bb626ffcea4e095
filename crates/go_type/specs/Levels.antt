-- Few places that stand for all at a depth.
use Rattle.std.specs.Prelude.{◌≡◌, ℕ, ◌+◌, ◌≤◌, Bool, true, List, [], ◌∷◌, ◌++◌, map, reverse, Option, Some, None}
use Rattle.std.specs.Prelude.{slice_get, cond, ◌⊎◌}
use Rattle.std.specs.List.{list_any, flat_map}
use Rattle.go_base.specs.declared.ids.TypeId.{TypeId}
use Rattle.go_type.specs.declared.levels.Levels.{Levels}
use Rattle.go_type.specs.declared.levels.Thinning.{Thinning}
use Rattle.go_type.specs.declared.members.Wanted.{Wanted}
use Rattle.go_type.specs.declared.members.Spot.{Spot}
use Rattle.go_type.specs.declared.members.Found.{Found}
use Rattle.go_type.specs.declared.members.Member.{Member}
use Rattle.go_type.specs.Same.{same_id}
use Rattle.go_type.specs.Selector.{Place, members_below, selected_at, NoneAbove}
use Rattle.go_type.specs.Table.{Table}

-- ---- paths, which are kept by level: a spot tells which spot of the level above it is a field of

abbrev pub path_in : (Spot → List ℕ) → Option Spot → List ℕ
path_in f None = []
path_in f (Some spot) = f spot

-- the path of a spot below some levels, the nearest first
abbrev pub path_of : List (List Spot) → Spot → List ℕ
path_of [] spot = []
path_of (level ∷ above) spot = path_in (path_of above) (slice_get level spot.from) ++ spot.number ∷ []

-- the path of a spot of a level, by its index
abbrev pub path_at : List (List Spot) → List Spot → ℕ → List ℕ
path_at above level i = path_in (path_of above) (slice_get level i)

abbrev pub with_field : List ℕ → Option ℕ → List ℕ
with_field path None = path
with_field path (Some number) = path ++ number ∷ []

-- the place of a spot below some levels
abbrev pub place_in : List (List Spot) → Spot → Place
place_in above spot = record { of = spot.of; path = path_of above spot; indirect = spot.indirect }

-- the place of a spot, where the level above it has these paths
abbrev pub place_by : (ℕ → List ℕ) → Spot → Place
place_by paths spot = record { of = spot.of; path = paths spot.from ++ spot.number ∷ []; indirect = spot.indirect }

-- the place of a spot of a level that has these paths
abbrev pub place_at : (ℕ → List ℕ) → ℕ → Spot → Place
place_at paths i spot = record { of = spot.of; path = paths i; indirect = spot.indirect }

-- what is found in a level that has these paths
abbrev pub member_by : (ℕ → List ℕ) → Found → Member
member_by paths found =
    record {
      path = with_field (paths found.from) found.number;
      kind = found.kind;
      of = found.of;
      pointer = found.pointer;
      indirect = found.indirect;
    }

abbrev pub places_of : Levels → List Place
places_of levels = map (place_in (reverse levels.above.items)) levels.spots.items

abbrev pub found_of : Levels → Found → Member
found_of levels = member_by (path_at (reverse levels.above.items) levels.spots.items)

-- ---- few places

-- at most the first two items
abbrev pub front : {X : Type 0} → List X → List X
front [] = []
front (x ∷ []) = x ∷ []
front (x ∷ y ∷ rest) = x ∷ y ∷ []

-- what is selected d embedded fields below some places
abbrev pub members_from : ℕ → Table → Wanted → List Place → List Member
members_from d types wanted places = flat_map (members_below d types wanted) places

abbrev pub is_seen : List TypeId → TypeId → Bool
is_seen seen id = list_any (same_id id) seen

abbrev pub is_of : TypeId → Place → Bool
is_of id place = same_id id place.of

-- how many places are of a type
abbrev pub copies : TypeId → List Place → ℕ
copies id [] = 0
copies id (place ∷ places) = cond (is_of id place) 1 0 + copies id places

-- nothing is selected d embedded fields below a type, whatever the path to it
abbrev pub IsBarren : ℕ → Table → Wanted → TypeId → Type 0
IsBarren d types wanted id = (place : Place) → place.of ≡ id → members_below d types wanted place ≡ []

-- where nothing is selected above, the first two below the places are the first two of all; nothing is selected below a
-- type that was seen
pub record StandFor (types : Table) (a : TypeId) (n : ℕ) (places : List Place) (seen : List TypeId) : Type 0 where
  pub fronts : (wanted : Wanted) (d : ℕ) → NoneAbove (n + d) types wanted a
      → front (members_from d types wanted places) ≡ front (selected_at (n + d) types wanted a)
  pub barren : (wanted : Wanted) (d : ℕ) (id : TypeId) → is_seen seen id ≡ true → NoneAbove (n + d) types wanted a
      → IsBarren d types wanted id

-- places that have the same first two below them as all, where nothing is selected below what was seen
abbrev pub Thins : Table → List TypeId → List Place → List Place → Type 0
Thins types seen all kept =
    (wanted : Wanted) (d : ℕ) → ((id : TypeId) → is_seen seen id ≡ true → IsBarren d types wanted id)
    → front (members_from d types wanted kept) ≡ front (members_from d types wanted all)

pub record ThinFor (types : Table) (seen : List TypeId) (paths : ℕ → List ℕ) (all : List Place) (thinning : Thinning) :
    Type 0 where
  pub thins : Thins types seen all (map (place_by paths) thinning.kept.items)
  pub once : (id : TypeId) → is_seen thinning.once.keys id ≡ true
      → 1 ≤ copies id (map (place_by paths) thinning.kept.items)
  pub twice : (id : TypeId) → is_seen thinning.twice.keys id ≡ true
      → 2 ≤ copies id (map (place_by paths) thinning.kept.items)

-- what is seen was so before, or is the type of a place
abbrev pub SeenIn : List Place → List TypeId → List TypeId → Type 0
SeenIn places old new =
    (id : TypeId) → is_seen new id ≡ true → (is_seen old id ≡ true) ⊎ (list_any (is_of id) places ≡ true)

-- what is counted once was so before, or is the one that is counted
abbrev pub CountsOnce : TypeId → List TypeId → List TypeId → Type 0
CountsOnce of old new = (id : TypeId) → is_seen new id ≡ true → (is_seen old id ≡ true) ⊎ (id ≡ of)

-- what is counted twice was so before, or is the one that is counted and was counted once
abbrev pub CountsTwice : TypeId → List TypeId → List TypeId → List TypeId → Type 0
CountsTwice of once old new =
    (id : TypeId) → is_seen new id ≡ true → (is_seen old id ≡ true) ⊎ ((id ≡ of) × (is_seen once id ≡ true))
