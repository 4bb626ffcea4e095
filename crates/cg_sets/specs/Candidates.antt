-- What values stand for where a call chooses: the classes of a program, their methods, and functions by their
-- signatures.
use Rattle.std.specs.Prelude.{◌≡◌, ◌<◌, ℕ, Bool, true, false, List, [], ◌∷◌, Option, Some, None, length, slice_get}
use Rattle.std.specs.Prelude.{if◌then◌else◌}
use Rattle.std.specs.List.{Contains}
use Rattle.go_base.specs.declared.ids.FuncId.{FuncId}
use Rattle.go_base.specs.declared.ids.TypeId.{TypeId}
use Rattle.go_tree.specs.declared.functions.FunctionDecl.{FunctionDecl}
use Rattle.go_tree.specs.declared.functions.FunctionForm.{FunctionForm}
use Rattle.go_tree.specs.declared.functions.FunctionForm.TheVariants as form_of
use Rattle.go_tree.specs.declared.program.Program.{Program}
use Rattle.go_tree.specs.declared.variables.DeclaredType.{DeclaredType}
use Rattle.go_type.specs.MethodSets.{IsMethod}
use Rattle.go_type.specs.Same.{same_id}
use Rattle.go_type.specs.Table.{Table, term_at}
use Rattle.go_type.specs.declared.methods.MethodEntry.{MethodEntry}
use Rattle.go_type.specs.declared.term.Field.{Field}
use Rattle.go_type.specs.declared.term.MethodType.{MethodType}
use Rattle.go_type.specs.declared.term.TypeTerm.TheVariants.{Pointer, Struct, Interface}
use Rattle.tree_facts.specs.FunctionNames.{is_part_to}
use Rattle.cg_nodes.specs.Kinds.{is_interface}
use Rattle.cg_nodes.specs.declared.nodes.Group.{Group}
use Rattle.cg_nodes.specs.declared.nodes.Group.TheVariants as group_of
use Rattle.cg_nodes.specs.declared.nodes.Mention.TheVariants as mention
use Rattle.cg_nodes.specs.declared.nodes.Node.{Node}
use Rattle.cg_nodes.specs.declared.nodes.Node.TheVariants as node_of
use Rattle.cg_nodes.specs.declared.nodes.Selector.{Selector}
use Rattle.cg_nodes.specs.declared.nodes.Spot.{Spot}
use Rattle.cg_nodes.specs.declared.nodes.Value.{Value}
use Rattle.cg_nodes.specs.declared.nodes.Value.TheVariants as value_of
use Rattle.cg_numbers.specs.Alike.{bare, like_group, like_selector, like_value}
use Rattle.cg_numbers.specs.Numbered.{StandsFor}
use Rattle.cg_numbers.specs.Sites.{Stands}
use Rattle.cg_sets.specs.Embedding.{Aim, Calls, Asks, Aimed, aim_of, receiver_type}

-- a value stands for an aim: the first `skip` arguments are not handed on, the others go from the parameter `base` on,
-- and a receiver of a function type comes from a node
pub record Standing : Type 0 where
  pub value : Value
  pub aim : Aim
  pub skip : ℕ
  pub base : ℕ
  pub receiver : Node

-- a declared function or a literal may be a value; a method alone is none, nor is a function named `init`
abbrev pub is_value_form : FunctionForm → Bool
is_value_form form_of.Function = true
is_value_form (form_of.Literal within) = true
is_value_form form_of.Method = false
is_value_form form_of.Init = false
is_value_form form_of.PackageInit = false

-- a receiver is handed on before the arguments where a function is called
abbrev pub base_of : Aim → ℕ
base_of (Calls f) = 1
base_of (Asks n g) = 0

abbrev pub is_in : Program → FuncId → Bool
is_in p f = is_part_to (length p.functions) p.names p.functions f.number

-- a type declaration is part of the program where the function is in which it stands
abbrev pub is_in_some : Program → Option FuncId → Bool
is_in_some p None = true
is_in_some p (Some f) = is_in p f

-- the table has the type of pointers to each of P
abbrev pub ArePointed : Table → (TypeId → Type 0) → Type 0
ArePointed types P = (to : TypeId) → P to → (id : TypeId) × (term_at types id ≡ Some (Pointer to))

-- `types` has the program's types and those without tags, which `bares` gives
module _ (p : Program) (types : Table) (bares : List TypeId) where
  -- declared types that are no interfaces, and struct types
  pub data IsBase : TypeId → Type 0 where
    declared : (d : DeclaredType) → Contains p.declared d → is_interface types d.id ≡ false
        → is_in_some p d.function ≡ true → IsBase (bare types bares d.id)
    unnamed : (id : TypeId) (fields : List Field) → id.number < length p.types.terms
        → term_at types id ≡ Some (Struct fields) → IsBase (bare types bares id)

  -- these, and pointers to them
  pub data IsClass : TypeId → Type 0 where
    base : (id : TypeId) → IsBase id → IsClass id
    pointer : (id to : TypeId) → term_at types id ≡ Some (Pointer to) → IsBase to → IsClass id

  -- a method has the name of an interface's method and, but for tags, its type
  abbrev pub Fits : MethodType → MethodEntry → Type 0
  Fits m e = (e.name ≡ m.name) × (e.package ≡ m.package) × (bare types bares e.of ≡ bare types bares m.of)

  abbrev pub Implements : TypeId → List MethodType → Type 0
  Implements class methods =
      (m : MethodType) → Contains methods m → (e : MethodEntry) × IsMethod types class e × Fits m e

  -- the receiver of a method expression's method: the first argument, where it is that itself
  abbrev pub takes : TypeId → Option TypeId → Bool
  takes class None = false
  takes class (Some receiver) = same_id (bare types bares receiver) class

  abbrev pub first_by : TypeId → TypeId → Aim → Node → Node
  first_by class signature (Calls f) receiver =
      if takes class (receiver_type p.functions f) then node_of.Argument (group_of.Signed signature) 0 else receiver
  first_by class signature (Asks n g) receiver = receiver

  -- what a function stands for: itself
  pub data OfFunction : FuncId → Group → Standing → Type 0 where
    function : (f : FuncId) (d : FunctionDecl) → slice_get p.functions f.number ≡ Some d → is_value_form d.form ≡ true
        → is_in p f ≡ true
        → OfFunction f (like_group types bares (group_of.Signed d.signature))
        (record { value = value_of.Function f; aim = Calls f; skip = 0; base = 0; receiver = node_of.Nothing })

  -- what a method value or a method expression stands for
  pub data OfValue : Value → Group → Standing → Type 0 where
    bound : (f : FuncId) (d : FunctionDecl) → slice_get p.functions f.number ≡ Some d
        → OfValue (value_of.Bound f) (like_group types bares (group_of.Signed d.signature))
        (record { value = value_of.Bound f; aim = Calls f; skip = 0; base = 1; receiver = node_of.Nothing })
    chosen : (at : Spot) (s : Selector) (id : TypeId)
        → OfValue (value_of.BoundSelector at s id) (like_group types bares (group_of.Signed id))
        (record {
          value = like_value types bares (value_of.BoundSelector at s id);
          aim = Asks (Some (node_of.Operand at)) (group_of.Selected s);
          skip = 0;
          base = 0;
          receiver =
              node_of.Nothing;
        })
    of_first : (s : Selector) (id : TypeId) → is_interface types (like_selector types bares s).of ≡ true
        → OfValue (value_of.Unbound s id) (like_group types bares (group_of.Signed id))
        (record {
          value = like_value types bares (value_of.Unbound s id);
          aim = Asks None (group_of.Selected s);
          skip = 1;
          base = 0;
          receiver = node_of.Nothing;
        })
    unbound : (s : Selector) (id : TypeId) (e : MethodEntry) (a : Aimed)
        → is_interface types (like_selector types bares s).of ≡ false
        → IsMethod types (like_selector types bares s).of e → e.name ≡ s.name → e.package ≡ s.package
        → aim_of types p.functions (like_selector types bares s).of e ≡ Some a
        → OfValue (value_of.Unbound s id) (like_group types bares (group_of.Signed id))
        (record {
          value = like_value types bares (value_of.Unbound s id);
          aim = a.aim;
          skip = 1;
          base = base_of a.aim;
          receiver = first_by (like_selector types bares s).of id a.aim a.receiver;
        })

  -- what a class stands for where a method of an interface is called that it implements
  pub data OfClass : Group → Standing → Type 0 where
    class : (s id : TypeId) (methods : List MethodType) (m : MethodType) (e : MethodEntry) (a : Aimed)
        → term_at types s ≡ Some (Interface methods) → Contains methods m → IsClass id → Implements id methods
        → IsMethod types id e → Fits m e → aim_of types p.functions id e ≡ Some a
        → OfClass (group_of.Selected (record { of = s; name = m.name; «package» = m.package }))
        (record { value = value_of.Class id; aim = a.aim; skip = 0; base = base_of a.aim; receiver = a.receiver })

  -- what a value stands for in a group
  pub data Answers : Group → Standing → Type 0 where
    of_function : (f : FuncId) (g : Group) (c : Standing) → OfFunction f g c → Answers g c
    of_value : (f : FuncId) (v : Value) (g : Group) (c : Standing) → Stands p f (mention.Seed v) → OfValue v g c
        → Answers g c
    of_class : (g : Group) (c : Standing) → OfClass g c → Answers g c

-- a table that has the types of a program and those without tags, and the types of pointers to all base classes
pub record AreTypesOf (p : Program) (types : Table) (bares : List TypeId) : Type 0 where
  pub stands : StandsFor p.types types bares
  pub pointed : ArePointed types (IsBase p types bares)
