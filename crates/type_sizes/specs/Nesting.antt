-- Which types have a nesting.
use Rattle.std.specs.Prelude.{◌≡◌, ℕ, ◌≤◌, ◌<◌, true, false, List, [], ◌∷◌, ◌++◌, length, map, Option, Some, slice_get}
use Rattle.std.specs.Prelude.{if◌then◌else◌}
use Rattle.std.specs.List.{flat_map}
use Rattle.go_base.specs.declared.ids.TypeId.{TypeId}
use Rattle.go_graph.specs.Graph.{next}
use Rattle.go_type.specs.declared.term.TypeTerm.{TypeTerm}
use Rattle.go_type.specs.declared.term.TypeTerm.TheVariants.{Pointer, Slice, Array, Map, Chan, Func, Struct, Interface}
use Rattle.go_type.specs.declared.term.TypeTerm.TheVariants.{Tuple, Iter}
use Rattle.go_type.specs.Sizes.{is_declared, nests_within}
use Rattle.go_type.specs.Table.{Table, term_at, underlying_of}

-- A type has a nesting where it is nested within some number.
abbrev pub HasNesting : Table → TypeId → Type 0
HasNesting types id = (n : ℕ) × (nests_within n types id ≡ true)

-- Its nesting is a number above a limit. A type without a nesting, as `type T struct { p *[1]T }`, breaks none.
pub record IsNestedAbove (limit : ℕ) (types : Table) (id : TypeId) : Type 0 where
  pub nested : HasNesting types id
  pub above : nests_within limit types id ≡ false

-- ---- the graph of parts that count with their own nesting: elements, fields' types, and others that are not declared

abbrev pub whole : Table → TypeId → List TypeId
whole types id = if is_declared (term_at types id) then [] else id ∷ []

abbrev pub whole_in : Table → Option TypeTerm → List TypeId
whole_in types (Some (Array len elem)) = elem ∷ []
whole_in types (Some (Struct fields)) = map (λ field. field.of) fields
whole_in types (Some (Pointer elem)) = whole types elem
whole_in types (Some (Slice elem)) = whole types elem
whole_in types (Some (Map key elem)) = whole types key ++ whole types elem
whole_in types (Some (Chan dir elem)) = whole types elem
whole_in types (Some (Func signature)) =
    flat_map (whole types) signature.params ++ flat_map (whole types) signature.results
whole_in types (Some (Interface methods)) = flat_map (λ method. whole types method.of) methods
whole_in types (Some (Tuple parts)) = flat_map (whole types) parts
whole_in types (Some (Iter over)) = whole types over
whole_in types _ = []

abbrev pub whole_parts : Table → TypeId → List TypeId
whole_parts types id = whole_in types (term_at types (underlying_of types id))

-- The row has the places of the parts, and what was not there was added at the end.
pub record IsRow (parts old new : List TypeId) (row : List ℕ) : Type 0 where
  pub kept : (more : List TypeId) × (new ≡ old ++ more)
  pub places : map (slice_get new) row ≡ map Some parts

-- The first rows are those of the first types.
pub record IsPartGraphTo (types : Table) (id : TypeId) (ids : List TypeId) (rows : List (List ℕ)) : Type 0 where
  pub first : slice_get ids 0 ≡ Some id
  pub room : length rows ≤ length ids
  pub parts : (k : ℕ) (x : TypeId) → k < length rows → slice_get ids k ≡ Some x
      → map (slice_get ids) (next rows k) ≡ map Some (whole_parts types x)

-- The graph has a row for each type that is reached.
pub record IsPartGraph (types : Table) (id : TypeId) (rows : List (List ℕ)) : Type 0 where
  pub ids : List TypeId
  pub graph : IsPartGraphTo types id ids rows
  pub all : length ids ≤ length rows
