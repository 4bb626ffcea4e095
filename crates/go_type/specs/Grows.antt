-- How the types that are held may grow, and which types keep what is true of them.
use Rattle.std.specs.Prelude.{◌≡◌, Bool, true, Option, Some, IsTrue}
use Rattle.std.specs.List.{list_all}
use Rattle.go_base.specs.declared.ids.TypeId.{TypeId}
use Rattle.go_type.specs.declared.term.TypeTerm.{TypeTerm}
use Rattle.go_type.specs.Conditions.{is_held}
use Rattle.go_type.specs.Held.{term_parts}
use Rattle.go_type.specs.Sizes.{is_declared}
use Rattle.go_type.specs.Table.{Table, term_at, definition_at}

-- what is held stays, and so do underlying types that are known, and the name `_`
pub record Grows (old later : Table) : Type 0 where
  pub terms : (id : TypeId) (term : TypeTerm) → term_at old id ≡ Some term → term_at later id ≡ Some term
  pub defined : (id underlying : TypeId) → (definition_at old id).underlying ≡ Some underlying
      → (definition_at later id).underlying ≡ Some underlying
  pub blank : later.blank ≡ old.blank

-- a declared type that has been defined by a type of a set
pub record IsDefinedIn (types : Table) (p : TypeId → Bool) (id : TypeId) : Type 0 where
  pub underlying : TypeId
  pub defined : (definition_at types id).underlying ≡ Some underlying
  pub there : p underlying ≡ true

-- types that are held and, where they are declared, defined, with all that their terms name
pub record AreSettled (types : Table) (p : TypeId → Bool) : Type 0 where
  pub held : (id : TypeId) → p id ≡ true → is_held types id ≡ true
  pub parts : (id : TypeId) (term : TypeTerm) → p id ≡ true → term_at types id ≡ Some term
      → list_all p (term_parts term) ≡ true
  pub defined : (id : TypeId) → p id ≡ true → is_declared (term_at types id) ≡ true → IsDefinedIn types p id

-- no more methods were declared of the types of a set
abbrev pub KeepsMethods : Table → Table → (TypeId → Bool) → Type 0
KeepsMethods old later p =
    (id : TypeId) → p id ≡ true → (definition_at later id).methods ≡ (definition_at old id).methods
