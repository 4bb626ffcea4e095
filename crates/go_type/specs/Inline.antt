-- The types that elements of arrays and fields lead to.
use Rattle.std.specs.Prelude.{◌≡◌, ℕ, ◌<◌, ◌++◌, Bool, true, List, [], ◌∷◌, map, Option, Some, slice_get, ◌⊎◌}
use Rattle.std.specs.List.{list_all}
use Rattle.go_base.specs.declared.ids.TypeId.{TypeId}
use Rattle.go_type.specs.declared.term.TypeTerm.{TypeTerm}
use Rattle.go_type.specs.declared.term.TypeTerm.TheVariants.{Array, Struct}
use Rattle.go_type.specs.Levels.{is_seen}
use Rattle.go_type.specs.Table.{Table, term_at, underlying_of}

-- the types of a term's elements or fields
abbrev pub inline_parts : Option TypeTerm → List TypeId
inline_parts (Some (Array len elem)) = elem ∷ []
inline_parts (Some (Struct fields)) = map (λ field. field.of) fields
inline_parts _ = []

abbrev pub parts_of : Table → TypeId → List TypeId
parts_of types id = inline_parts (term_at types (underlying_of types id))

-- a type has the property where one of its elements' or fields' types has it
abbrev pub IsInherited : Table → (TypeId → Bool) → Type 0
IsInherited types p = (x y : TypeId) → is_seen (parts_of types x) y ≡ true → p y ≡ true → p x ≡ true

-- a type, and all that its elements and fields lead to, and no more
pub record Reached (types : Table) (a : TypeId) (ids : List TypeId) : Type 0 where
  pub itself : is_seen ids a ≡ true
  pub closed : (x : TypeId) → is_seen ids x ≡ true → list_all (is_seen ids) (parts_of types x) ≡ true
  pub only : (p : TypeId → Bool) → IsInherited types p → (x : TypeId) → is_seen ids x ≡ true → p x ≡ true → p a ≡ true

-- the same, where the parts of the first n are among them
pub record ReachedTo (types : Table) (a : TypeId) (n : ℕ) (ids : List TypeId) : Type 0 where
  pub itself : is_seen ids a ≡ true
  pub closed : (k : ℕ) (x : TypeId) → k < n → slice_get ids k ≡ Some x
      → list_all (is_seen ids) (parts_of types x) ≡ true
  pub only : (p : TypeId → Bool) → IsInherited types p → (x : TypeId) → is_seen ids x ≡ true → p x ≡ true → p a ≡ true

-- some types are added at the end, where they are not there
pub record Adds (parts old new : List TypeId) : Type 0 where
  pub all : list_all (is_seen new) parts ≡ true
  pub kept : (more : List TypeId) × (new ≡ old ++ more)
  pub only : (x : TypeId) → is_seen new x ≡ true → (is_seen old x ≡ true) ⊎ (is_seen parts x ≡ true)
