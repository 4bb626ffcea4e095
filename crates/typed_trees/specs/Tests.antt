-- Tests that answer what is asked of the types of a program.
use Rattle.std.specs.Prelude.{◌≡◌, ◌↔◌, ℕ, Bool, IsTrue, Option, Some}
use Rattle.go_base.specs.declared.ids.NameId.{NameId}
use Rattle.go_base.specs.declared.ids.TypeId.{TypeId}
use Rattle.go_type.specs.MethodSets.{HasMember}
use Rattle.go_type.specs.Table.{Table}
use Rattle.go_type.specs.declared.members.Member.{Member}
use Rattle.type_bare.specs.Same.{SameButTags}
use Rattle.type_shapes.specs.Answers.{Answers, AreAnswers}

-- which types are comparable and implement which interfaces, which are identical but for the tags of fields, and the
-- types of the methods that method sets have, without receivers
pub record Tests : Type 0 where
  pub answers : Answers
  pub alike : TypeId → TypeId → Bool
  pub method_of : TypeId → NameId → ℕ → Option TypeId

-- the method set of a type has a method of a name and a type
abbrev pub HasMethod : Table → TypeId → NameId → ℕ → TypeId → Type 0
HasMethod types of name owner method =
    (member : Member)
    × (HasMember types of (record { name = name; «package» = owner }) member × (member.of ≡ method))

-- tests that tell what is true of the types
pub record AreTold (types : Table) (tests : Tests) : Type 0 where
  pub answers : AreAnswers types tests.answers
  pub alike : (a b : TypeId) → IsTrue (tests.alike a b) ↔ SameButTags types a b
  pub method_of : (of : TypeId) (name : NameId) (owner : ℕ) (method : TypeId) →
      (tests.method_of of name owner ≡ Some method) ↔ HasMethod types of name owner method
