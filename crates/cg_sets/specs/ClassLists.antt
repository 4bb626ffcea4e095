-- The types of classes, each at a place.
use Rattle.std.specs.Prelude.{◌≡◌, ◌⊎◌, ◌<◌, ℕ, Bool, true, false, List, Option, Some, None, length}
use Rattle.go_base.specs.declared.ids.TypeId.{TypeId}
use Rattle.go_tree.specs.declared.program.Program.{Program}
use Rattle.go_tree.specs.declared.variables.DeclaredType.{DeclaredType}
use Rattle.go_type.specs.Table.{Table, term_at}
use Rattle.go_type.specs.declared.term.TypeTerm.{TypeTerm}
use Rattle.go_type.specs.declared.term.TypeTerm.TheVariants.{Pointer, Struct}
use Rattle.cg_nodes.specs.Kinds.{is_interface}
use Rattle.cg_nodes.specs.declared.nodes.Value.TheVariants as value_of
use Rattle.cg_numbers.specs.Alike.{bare}
use Rattle.cg_numbers.specs.Numbered.{IsAt, Extends}
use Rattle.cg_numbers.specs.declared.numbers.Numbers.{Numbers}
use Rattle.cg_sets.specs.Candidates.{IsClass, ArePointed, is_in_some}
use Rattle.cg_sets.specs.declared.class_list.ClassList.{ClassList}
use Rattle.cg_solve.specs.Lists.{Has}

-- the value of each class has its number at the class's place
pub record AreValued (n : Numbers) (types : List TypeId) (values : List ℕ) : Type 0 where
  pub count : length values ≡ length types
  pub valued : (i : ℕ) (id : TypeId) → IsAt types i id
      → (v : ℕ) × IsAt values i v × IsAt n.values.keys v (value_of.Class id)

-- what P tells was listed, and nothing else
pub record ListsMore (old new : List TypeId) (P : TypeId → Type 0) : Type 0 where
  pub kept : (id : TypeId) → Has old id → Has new id
  pub only : (id : TypeId) → Has new id → Has old id ⊎ P id
  pub whole : (id : TypeId) → P id → Has new id

abbrev pub IsThat : TypeId → TypeId → Type 0
IsThat b id = id ≡ b

-- a type of P, or pointers to one
abbrev pub OrPointer : Table → (TypeId → Type 0) → TypeId → Type 0
OrPointer types P id = (b : TypeId) × P b × ((id ≡ b) ⊎ (term_at types id ≡ Some (Pointer b)))

-- the base classes that P tells were listed, with pointers to them
pub record AddsBases (m n : Numbers) (old new : ClassList) (P : TypeId → Type 0) : Type 0 where
  pub extends : Extends m n
  pub valued : AreValued m old.types.keys old.values.items → AreValued n new.types.keys new.values.items
  pub listed : ListsMore old.types.keys new.types.keys (OrPointer m.likeness.types P)
  pub pointed : ArePointed m.likeness.types P

abbrev pub is_struct_term : Option TypeTerm → Bool
is_struct_term (Some (Struct fields)) = true
is_struct_term _ = false

abbrev pub IsDeclaredBase : List DeclaredType → Program → Table → List TypeId → TypeId → Type 0
IsDeclaredBase declared p types bares b =
    (d : DeclaredType) × Has declared d × (is_in_some p d.function ≡ true) × (is_interface types d.id ≡ false)
    × (b ≡ bare types bares d.id)

abbrev pub IsThisStruct : TypeId → Table → List TypeId → TypeId → Type 0
IsThisStruct id types bares b = (is_struct_term (term_at types id) ≡ true) × (b ≡ bare types bares id)

abbrev pub IsStructBase : ℕ → Table → List TypeId → TypeId → Type 0
IsStructBase count types bares b =
    (id : TypeId) × (id.number < count) × (is_struct_term (term_at types id) ≡ true) × (b ≡ bare types bares id)

pub record AreListed (p : Program) (n : Numbers) (list : ClassList) : Type 0 where
  pub only : (id : TypeId) → Has list.types.keys id → IsClass p n.likeness.types n.likeness.bares id
  pub whole : (id : TypeId) → IsClass p n.likeness.types n.likeness.bares id → Has list.types.keys id
  pub values : AreValued n list.types.keys list.values.items
