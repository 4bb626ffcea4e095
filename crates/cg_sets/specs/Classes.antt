-- The classes of a program and their methods, by places.
use Rattle.std.specs.Prelude.{◌≡◌, ◌<◌, ◌++◌, ◌==◌, ℕ, Bool, List, Option, Some, length, if◌then◌else◌}
use Rattle.indexmap.specs.IndexMap.{get}
use Rattle.go_base.specs.declared.ids.TypeId.{TypeId}
use Rattle.go_tree.specs.declared.functions.FunctionDecl.{FunctionDecl}
use Rattle.go_tree.specs.declared.program.Program.{Program}
use Rattle.go_type.specs.MethodSets.{IsMethod}
use Rattle.go_type.specs.declared.methods.MethodEntry.{MethodEntry}
use Rattle.cg_numbers.specs.Alike.{bare}
use Rattle.cg_numbers.specs.Numbered.{Continues, IsAt, NodeAt}
use Rattle.cg_numbers.specs.declared.numbers.Numbers.{Numbers}
use Rattle.cg_sets.specs.Numbering.{AimAt}
use Rattle.cg_sets.specs.ClassLists.{AreListed}
use Rattle.cg_sets.specs.Embedding.{Aimed, aim_of}
use Rattle.cg_sets.specs.contracts.classes.MethodOfPartialEq.TheImpl as generated
use Rattle.cg_sets.specs.declared.aiming.Aiming.{Aiming}
use Rattle.cg_sets.specs.declared.classes.ClassMethod.{ClassMethod}
use Rattle.cg_sets.specs.declared.classes.Classes.{Classes}
use Rattle.cg_sets.specs.declared.classes.MethodName.{MethodName}
use Rattle.cg_sets.specs.declared.classes.MethodOf.{MethodOf}
use Rattle.cg_solve.specs.Lists.{Has, when}
use Rattle.cg_solve.specs.Tables.{row}

-- what a method of a class calls, by numbers
abbrev pub AimsAt : List FunctionDecl → Numbers → TypeId → MethodEntry → Aiming → Type 0
AimsAt functions n class e x =
    (a : Aimed) × (aim_of n.likeness.types functions class e ≡ Some a) × AimAt n a.aim x.goal
    × NodeAt n x.receiver a.receiver

-- ---- their methods

abbrev pub same_key : MethodOf → MethodOf → Bool
same_key = generated.ghosts.eq

-- the method of the name of a number that the class at a place has
abbrev pub method_at : Classes → ℕ → ℕ → Option ClassMethod
method_at cs i j = get same_key cs.methods (record { class = i; name = j })

abbrev pub key_of : MethodEntry → MethodName
key_of e = record { name = e.name; «package» = e.package }

pub record MethodAt (functions : List FunctionDecl) (n : Numbers) (class : TypeId) (e : MethodEntry) (x : ClassMethod) :
    Type 0 where
  pub of : x.of ≡ bare n.likeness.types n.likeness.bares e.of
  pub aims : AimsAt functions n class e x.aiming

-- the methods of the classes at places below k are there, and nothing else
pub record HasMethods (p : Program) (n : Numbers) (cs : Classes) (P : ℕ → MethodEntry → Type 0) : Type 0 where
  pub only : (i j : ℕ) (x : ClassMethod) → method_at cs i j ≡ Some x
      → (id : TypeId) × (e : MethodEntry) × IsAt cs.list.types.keys i id × IsMethod n.likeness.types id e
      × IsAt cs.names.keys j (key_of e) × MethodAt p.functions n id e x
  pub whole : (i : ℕ) (id : TypeId) (e : MethodEntry) → P i e → IsAt cs.list.types.keys i id
      → IsMethod n.likeness.types id e
      → (j : ℕ) × (x : ClassMethod) × IsAt cs.names.keys j (key_of e) × (method_at cs i j ≡ Some x)
      × MethodAt p.functions n id e x
  pub having : (i j : ℕ) (x : ClassMethod) → method_at cs i j ≡ Some x → Has (row cs.having j) i

abbrev pub Below : ℕ → ℕ → MethodEntry → Type 0
Below k i e = i < k

-- a method was put to the class at a place
pub record PutsMethod (functions : List FunctionDecl) (n : Numbers) (old new : Classes) (i : ℕ) (id : TypeId)
    (e : MethodEntry) : Type 0 where
  pub names : Continues old.names.keys new.names.keys
  pub name : ℕ
  pub named : IsAt new.names.keys name (key_of e)
  pub method : ClassMethod
  pub stands : MethodAt functions n id e method
  pub at : (k j : ℕ)
      → method_at new k j ≡ (if same_key (record { class = i; name = name }) (record { class = k; name = j })
      then Some method else method_at old k j)
  pub having : (j : ℕ) → row new.having j ≡ row old.having j ++ when (name == j) i

-- ---- all

pub record AreClasses (p : Program) (n : Numbers) (cs : Classes) : Type 0 where
  pub list : AreListed p n cs.list
  pub methods : HasMethods p n cs (Below (length cs.list.types.keys))
