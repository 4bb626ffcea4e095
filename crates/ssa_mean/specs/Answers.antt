-- What is asked of types as code runs. Go specification, "Comparison operators" and "Implementing an interface".
use Rattle.std.specs.Prelude.{Bool, IsTrue, ◌↔◌}
use Rattle.go_base.specs.declared.ids.TypeId.{TypeId}
use Rattle.go_maps.specs.Equality.{TellsComparable}
use Rattle.go_type.specs.Assignable.{Implements}
use Rattle.go_type.specs.Table.{Table}

-- which types are comparable, and which implement which interfaces
pub record Answers : Type 0 where
  pub comparable : TypeId → Bool
  pub implements : TypeId → TypeId → Bool

abbrev pub TellsImplements : Table → (TypeId → TypeId → Bool) → Type 0
TellsImplements types test = (of interface : TypeId) → IsTrue (test of interface) ↔ Implements types of interface

-- answers that are those of the types
pub record AreAnswers (types : Table) (answers : Answers) : Type 0 where
  pub comparable : TellsComparable types answers.comparable
  pub implements : TellsImplements types answers.implements
