-- What stands in a program, by numbers.
use Rattle.std.specs.Prelude.{◌≡◌, ℕ, ◌≤◌, ◌++◌, ◌⊎◌, List, [], ◌∷◌, Some, length, slice_get}
use Rattle.go_base.specs.declared.ids.TypeId.{TypeId}
use Rattle.go_type.specs.Grows.{Grows}
use Rattle.go_type.specs.Table.{Table}
use Rattle.type_bare.specs.Stripped.{AreBare, KeepsDefinitions}
use Rattle.cg_nodes.specs.declared.nodes.Group.{Group}
use Rattle.cg_nodes.specs.declared.nodes.Node.{Node}
use Rattle.cg_nodes.specs.declared.nodes.Value.{Value}
use Rattle.cg_numbers.specs.declared.numbers.Numbers.{Numbers}
use Rattle.cg_numbers.specs.Alike.{like_group, like_node, like_value}

-- a table that has all types of another, with the same definitions, and a list with the bare type of each of these
pub record StandsFor (given types : Table) (bares : List TypeId) : Type 0 where
  pub bare : AreBare bares types
  pub all : length given.terms ≤ length bares
  pub grows : Grows given types
  pub definitions : KeepsDefinitions given types

-- a list that begins with another
abbrev pub Continues : {A : Type 0} → List A → List A → Type 0
Continues {A = A} old new = (more : List A) × (new ≡ old ++ more)

-- x is at a place
abbrev pub IsAt : {A : Type 0} → List A → ℕ → A → Type 0
IsAt xs n x = slice_get xs n ≡ Some x

-- each is listed once, so that the place of each is the only one
abbrev pub IsOnce : {A : Type 0} → List A → Type 0
IsOnce {A = A} xs = (i j : ℕ) (x : A) → IsAt xs i x → IsAt xs j x → i ≡ j

-- x was listed, if it was not before
abbrev pub GrowsBy : {A : Type 0} → List A → List A → A → Type 0
GrowsBy old new x = (new ≡ old) ⊎ (new ≡ old ++ x ∷ [])

-- the types stay, and what has a number keeps it
pub record Extends (old new : Numbers) : Type 0 where
  pub likeness : new.likeness ≡ old.likeness
  pub nodes : Continues old.nodes.keys new.nodes.keys
  pub values : Continues old.values.keys new.values.keys
  pub groups : Continues old.groups.keys new.groups.keys

-- k is the number of a node, a value or a group
abbrev pub NodeAt : Numbers → ℕ → Node → Type 0
NodeAt n k x = IsAt n.nodes.keys k (like_node n.likeness.types n.likeness.bares x)

abbrev pub ValueAt : Numbers → ℕ → Value → Type 0
ValueAt n k x = IsAt n.values.keys k (like_value n.likeness.types n.likeness.bares x)

abbrev pub GroupAt : Numbers → ℕ → Group → Type 0
GroupAt n k x = IsAt n.groups.keys k (like_group n.likeness.types n.likeness.bares x)
