-- The places of the classes that implement interfaces.
use Rattle.std.specs.Prelude.{◌≡◌, ◌⊎◌, ◌≤◌, ◌&&◌, ◌==◌, if◌then◌else◌, ℕ, Bool, true, false, List, [], ◌∷◌, Option}
use Rattle.std.specs.Prelude.{Some, None, length}
use Rattle.std.specs.List.{Contains, list_all}
use Rattle.go_base.specs.declared.ids.NameId.{NameId}
use Rattle.go_base.specs.declared.ids.TypeId.{TypeId}
use Rattle.go_tree.specs.declared.program.Program.{Program}
use Rattle.go_type.specs.Same.{same_id}
use Rattle.go_type.specs.Table.{Table, term_at}
use Rattle.go_type.specs.declared.term.MethodType.{MethodType}
use Rattle.go_type.specs.declared.term.TypeTerm.{TypeTerm}
use Rattle.go_type.specs.declared.term.TypeTerm.TheVariants.{Interface}
use Rattle.cg_numbers.specs.Alike.{bare}
use Rattle.cg_numbers.specs.Numbered.{IsAt}
use Rattle.cg_numbers.specs.declared.likeness.Likeness.{Likeness}
use Rattle.cg_numbers.specs.declared.numbers.Numbers.{Numbers}
use Rattle.cg_sets.specs.Candidates.{Implements}
use Rattle.cg_sets.specs.Classes.{method_at}
use Rattle.cg_sets.specs.declared.classes.ClassMethod.{ClassMethod}
use Rattle.cg_sets.specs.declared.classes.Classes.{Classes}
use Rattle.cg_sets.specs.declared.classes.MethodName.{MethodName}
use Rattle.cg_sets.specs.declared.implementing.Implementing.{Implementing}
use Rattle.cg_sets.specs.declared.implementing.Required.{Required}
use Rattle.cg_solve.specs.Lists.{Has}
use Rattle.cg_solve.specs.Tables.{row}

abbrev pub methods_in : Option TypeTerm → List MethodType
methods_in (Some (Interface methods)) = methods
methods_in _ = []

abbrev pub name_of : MethodType → MethodName
name_of m = record { name = m.name; «package» = m.package }

-- whether a method has a name
abbrev pub is_named : NameId → ℕ → MethodType → Bool
is_named name of m = (m.name.number == name.number) && (m.«package» == of)

abbrev pub if_so : Bool → List ℕ → List ℕ
if_so test places = if test then places else []

-- ---- what an interface asks for

pub record IsRequired (like : Likeness) (cs : Classes) (m : MethodType) (r : Required) : Type 0 where
  pub named : IsAt cs.names.keys r.name (name_of m)
  pub of : r.of ≡ bare like.types like.bares m.of

abbrev pub is_of : TypeId → Option ClassMethod → Bool
is_of of None = false
is_of of (Some x) = same_id x.of of

abbrev pub has_one : Classes → ℕ → Required → Bool
has_one cs i r = is_of r.of (method_at cs i r.name)

abbrev pub has_all : Classes → List Required → ℕ → Bool
has_all cs required i = list_all (has_one cs i) required

-- one of the rows of what is required, where anything is
abbrev pub IsOneRow : Classes → List Required → List ℕ → Type 0
IsOneRow cs required places =
    ((required ≡ []) × (places ≡ [])) ⊎ ((r : Required) × Has required r × (places ≡ row cs.having r.name))

-- ---- which classes implement it

-- the places of the classes that implement an interface with methods
pub record AreImplementers (p : Program) (n : Numbers) (cs : Classes) (interface : TypeId) (places : List ℕ) :
    Type 0 where
  pub only : (i : ℕ) → Has places i
      → (id : TypeId) × IsAt cs.list.types.keys i id
      × Implements p n.likeness.types n.likeness.bares id (methods_in (term_at n.likeness.types interface))
  pub whole : (m : MethodType) → Contains (methods_in (term_at n.likeness.types interface)) m → (i : ℕ) (id : TypeId)
      → IsAt cs.list.types.keys i id
      → Implements p n.likeness.types n.likeness.bares id (methods_in (term_at n.likeness.types interface))
      → Has places i

-- what was found of the interfaces that were asked for
pub record AreFound (p : Program) (n : Numbers) (cs : Classes) (found : Implementing) : Type 0 where
  pub rows : (k : ℕ) (interface : TypeId) → IsAt found.interfaces.keys k interface
      → AreImplementers p n cs interface (row found.classes k)
  pub later : (k : ℕ) → length found.interfaces.keys ≤ k → row found.classes k ≡ []
