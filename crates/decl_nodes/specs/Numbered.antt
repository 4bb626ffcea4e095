-- The parts of declarations as numbered nodes, and what each of them stands on.
use Rattle.std.specs.Prelude.{ℕ, Option, Some, None, List, [], ◌∷◌, ◌++◌, slice_get, slice_set}
use Rattle.decl_nodes.specs.declared.nodes.Node.{Node}
use Rattle.decl_nodes.specs.declared.nodes.Kind.{Kind}

pub record Numbered : Type 0 where
  -- the node of each number
  pub list : List Node
  -- for each node those on which it stands in one step
  pub edges : List (List ℕ)

-- there are no nodes
abbrev pub no_nodes : Numbered
no_nodes = record { list = []; edges = [] }

-- one node more, which stands on nothing yet
abbrev pub with_node : Node → Numbered → Numbered
with_node node nodes = record { list = nodes.list ++ node ∷ []; edges = nodes.edges ++ [] ∷ [] }

abbrev pub kind_set : Option Node → List Node → ℕ → Kind → List Node
kind_set None list number kind = list
kind_set (Some node) list number kind = slice_set list number (record node { kind = kind })

-- a node is of another kind
abbrev pub with_kind : ℕ → Kind → Numbered → Numbered
with_kind number kind nodes = record nodes { list = kind_set (slice_get nodes.list number) nodes.list number kind }

abbrev pub kind_of : Option Node → Option Kind
kind_of None = None
kind_of (Some node) = Some (node.kind)

-- what a node is
abbrev pub kind_at : List Node → ℕ → Option Kind
kind_at list number = kind_of (slice_get list number)
