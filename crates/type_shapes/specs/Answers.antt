-- Tests that answer what is asked of types. Go specification, "Comparison operators" and "Implementing an interface".
use Rattle.std.specs.Prelude.{Bool, IsTrue, ◌↔◌}
use Rattle.go_base.specs.declared.ids.TypeId.{TypeId}
use Rattle.go_type.specs.Assignable.{Implements}
use Rattle.go_type.specs.Comparable.{Comparable}
use Rattle.go_type.specs.Table.{Table}

-- which types are comparable, and which implement which interfaces
pub record Answers : Type 0 where
  pub comparable : TypeId → Bool
  pub implements : TypeId → TypeId → Bool

-- answers that are those of the types
pub record AreAnswers (types : Table) (answers : Answers) : Type 0 where
  pub comparable : (of : TypeId) → IsTrue (answers.comparable of) ↔ Comparable types of
  pub implements : (of interface : TypeId) → IsTrue (answers.implements of interface) ↔ Implements types of interface
