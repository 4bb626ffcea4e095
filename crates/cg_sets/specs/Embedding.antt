-- The way from a value to a method of it, through embedded fields. Go specification, "Struct types" and "Selectors".
use Rattle.std.specs.Prelude.{ℕ, Bool, true, false, List, [], ◌∷◌, Option, Some, None, slice_get, if◌then◌else◌}
use Rattle.std.specs.Option.{option_map, option_and_then}
use Rattle.go_base.specs.declared.ids.FuncId.{FuncId}
use Rattle.go_base.specs.declared.ids.TypeId.{TypeId}
use Rattle.go_tree.specs.declared.functions.FunctionDecl.{FunctionDecl}
use Rattle.go_type.specs.Table.{Table, term_at, underlying_of}
use Rattle.go_type.specs.declared.methods.MethodEntry.{MethodEntry}
use Rattle.go_type.specs.declared.methods.SelectionKind.{SelectionKind}
use Rattle.go_type.specs.declared.methods.SelectionKind.TheVariants as kind_of
use Rattle.go_type.specs.declared.term.Field.{Field}
use Rattle.go_type.specs.declared.term.TypeTerm.{TypeTerm}
use Rattle.go_type.specs.declared.term.TypeTerm.TheVariants.{Pointer, Struct}
use Rattle.cg_nodes.specs.Kinds.{is_function}
use Rattle.cg_nodes.specs.declared.nodes.Group.{Group}
use Rattle.cg_nodes.specs.declared.nodes.Group.TheVariants as group_of
use Rattle.cg_nodes.specs.declared.nodes.Node.{Node}
use Rattle.cg_nodes.specs.declared.nodes.Node.TheVariants as node_of
use Rattle.cg_sets.specs.declared.embedding.Embedded.{Embedded}

-- what is called in place of a value: a function, or what the values of a node stand for in a group; of the node of the
-- call's first argument where that is None
pub data Aim : Type 0 where
  Calls : FuncId → Aim
  Asks : Option Node → Group → Aim

-- what a method of a class calls, and the node that a receiver of a function type comes from
pub record Aimed : Type 0 where
  pub aim : Aim
  pub receiver : Node

abbrev pub is_pointer_term : Option TypeTerm → Bool
is_pointer_term (Some (Pointer to)) = true
is_pointer_term _ = false

abbrev pub pointed_by : TypeId → Option TypeTerm → TypeId
pointed_by id (Some (Pointer to)) = to
pointed_by id _ = id

abbrev pub field_in : Option TypeTerm → ℕ → Option Field
field_in (Some (Struct fields)) n = slice_get fields n
field_in _ n = None

-- a field, where no further one follows
abbrev pub or_further : Embedded → List ℕ → Option Embedded → Option Embedded
or_further last [] further = Some last
or_further last (n ∷ path) further = further

abbrev pub receiver_type : List FunctionDecl → FuncId → Option TypeId
receiver_type functions f = option_and_then (λ (d : FunctionDecl). d.receiver) (slice_get functions f.number)

module _ (types : Table) where
  -- what a pointer type points to, and any other type as it is
  abbrev pub pointed : TypeId → TypeId
  pointed id = pointed_by id (term_at types id)

  abbrev pub is_pointer : TypeId → Bool
  is_pointer id = is_pointer_term (term_at types id)

  -- the type of a field of a struct type
  abbrev pub field_type : TypeId → ℕ → Option TypeId
  field_type within n = option_map (λ (f : Field). f.of) (field_in (term_at types (underlying_of types within)) n)

  -- the last embedded field on a path from a struct type
  unfoldable pub last_on : TypeId → List ℕ → Option Embedded
  last_on within [] = None
  last_on within (n ∷ path) =
      option_and_then
      (λ (of : TypeId). or_further (record { within = within; field = n; of = of }) path (last_on (pointed of) path))
      (field_type within n)

  -- where a receiver of a function type comes from: the last embedded field, what a pointer that is loaded points to,
  -- or what was put into an interface
  unfoldable pub receiver_on : TypeId → TypeId → Option Embedded → Node
  receiver_on class receiver None = if is_pointer class then node_of.Ptr receiver else node_of.Boxed receiver
  receiver_on class receiver (Some last) =
      if is_pointer last.of then node_of.Ptr receiver else node_of.Field last.within last.field

  module _ (functions : List FunctionDecl) where
    -- a receiver of another type goes nowhere
    abbrev pub receiver_by : TypeId → List ℕ → Option TypeId → Node
    receiver_by class path None = node_of.Nothing
    receiver_by class path (Some receiver) =
        if is_function types receiver then receiver_on class receiver (last_on (pointed class) path)
        else node_of.Nothing

    unfoldable pub receiver_of : TypeId → List ℕ → FuncId → Node
    receiver_of class path f = receiver_by class path (receiver_type functions f)

    -- what the values of an embedded field's interface stand for
    abbrev pub aim_within : MethodEntry → Embedded → Aimed
    aim_within e last =
        record {
          aim = Asks (Some (node_of.Field last.within last.field))
              (group_of.Selected (record { of = last.of; name = e.name; «package» = e.package }));
          receiver =
              node_of.Nothing;
        }

    abbrev pub aim_by : TypeId → MethodEntry → SelectionKind → Option Aimed
    aim_by class e (kind_of.Method f) = Some (record { aim = Calls f; receiver = receiver_of class e.path f })
    aim_by class e kind_of.Field = None
    aim_by class e kind_of.InterfaceMethod = option_map (aim_within e) (last_on (pointed class) e.path)

    -- what a method of a class calls: a function, or what the values of an embedded interface stand for
    unfoldable pub aim_of : TypeId → MethodEntry → Option Aimed
    aim_of class e = aim_by class e e.kind
