-- Values, nodes and groups up to identity of types without the tags of fields: each in the one form that stands for all
-- alike.
use Rattle.std.specs.Prelude.{List, if◌then◌else◌}
use Rattle.go_base.specs.declared.ids.TypeId.{TypeId}
use Rattle.go_type.specs.Table.{Table, underlying_of}
use Rattle.type_bare.specs.Stripped.{bare_of}
use Rattle.cg_nodes.specs.declared.nodes.Group.{Group}
use Rattle.cg_nodes.specs.declared.nodes.Group.TheVariants as group_of
use Rattle.cg_nodes.specs.declared.nodes.Node.{Node}
use Rattle.cg_nodes.specs.declared.nodes.Node.TheVariants as node_of
use Rattle.cg_nodes.specs.declared.nodes.Selector.{Selector}
use Rattle.cg_nodes.specs.declared.nodes.Value.{Value}
use Rattle.cg_nodes.specs.declared.nodes.Value.TheVariants as value_of
use Rattle.cg_nodes.specs.Kinds.{is_interface}

module _ (types : Table) (bares : List TypeId) where
  abbrev pub bare : TypeId → TypeId
  bare id = bare_of bares id

  abbrev pub under : TypeId → TypeId
  under id = bare_of bares (underlying_of types id)

  -- an interface is known by its underlying type, any other type by itself
  abbrev pub selected_of : TypeId → TypeId
  selected_of id = if is_interface types id then under id else bare id

  abbrev pub like_selector : Selector → Selector
  like_selector s = record s { of = selected_of s.of }

  unfoldable pub like_group : Group → Group
  like_group (group_of.Selected s) = group_of.Selected (like_selector s)
  like_group (group_of.Signed id) = group_of.Signed (under id)

  unfoldable pub like_value : Value → Value
  like_value (value_of.Class id) = value_of.Class (bare id)
  like_value (value_of.Function function) = value_of.Function function
  like_value (value_of.Bound function) = value_of.Bound function
  like_value (value_of.BoundSelector at s signature) = value_of.BoundSelector at (like_selector s) (under signature)
  like_value (value_of.Unbound s signature) = value_of.Unbound (like_selector s) (under signature)

  -- fields are those of the underlying type
  unfoldable pub like_node : Node → Node
  like_node node_of.Nothing = node_of.Nothing
  like_node (node_of.Variable v) = node_of.Variable v
  like_node (node_of.Parameter function index) = node_of.Parameter function index
  like_node (node_of.Returned function index) = node_of.Returned function index
  like_node (node_of.Field id field) = node_of.Field (under id) field
  like_node (node_of.Elem id) = node_of.Elem (bare id)
  like_node (node_of.Key id) = node_of.Key (bare id)
  like_node (node_of.Val id) = node_of.Val (bare id)
  like_node (node_of.Chan id) = node_of.Chan (bare id)
  like_node (node_of.Ptr id) = node_of.Ptr (bare id)
  like_node (node_of.Boxed id) = node_of.Boxed (bare id)
  like_node (node_of.Made v) = node_of.Made (like_value v)
  like_node (node_of.Operand at) = node_of.Operand at
  like_node (node_of.Argument g index) = node_of.Argument (like_group g) index
  like_node (node_of.Outcome g index) = node_of.Outcome (like_group g) index
  like_node node_of.Recover = node_of.Recover
