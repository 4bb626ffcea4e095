-- The nodes of expressions, and of the parts of several values.
use Rattle.std.specs.Prelude.{ℕ, suc, ◌==◌, Bool, true, false, ◌||◌, List, [], ◌∷◌, ◌++◌, if◌then◌else◌}
use Rattle.go_base.specs.declared.ids.TypeId.{TypeId}
use Rattle.go_base.specs.declared.place.Pos.{Pos}
use Rattle.go_tree.specs.declared.stmts.RangeOver.{RangeOver}
use Rattle.go_tree.specs.declared.stmts.RangeOver.TheVariants as over_of
use Rattle.go_type.specs.Table.{Table}
use Rattle.cg_nodes.specs.declared.nodes.Mention.{Mention}
use Rattle.cg_nodes.specs.declared.nodes.Mention.TheVariants as mention
use Rattle.cg_nodes.specs.declared.nodes.Node.{Node}
use Rattle.cg_nodes.specs.declared.nodes.Node.TheVariants as node_of
use Rattle.cg_nodes.specs.declared.nodes.Parts.{Parts}
use Rattle.cg_nodes.specs.declared.nodes.Parts.TheVariants as parts_of
use Rattle.cg_nodes.specs.declared.nodes.Spot.{Spot}
use Rattle.cg_nodes.specs.Kinds.{carries}

abbrev pub spot_at : Pos → Spot
spot_at at = record { file = at.file; offset = at.offset }

abbrev pub is_nothing : Node → Bool
is_nothing node_of.Nothing = true
is_nothing _ = false

-- a flow, where both places are some
unfoldable pub flow : Node → Node → List Mention
flow from to = if is_nothing from || is_nothing to then [] else mention.Flow from to ∷ []

-- the node where values of the type flow
unfoldable pub carrying : Table → TypeId → Node → Node
carrying types id node = if carries types id then node else node_of.Nothing

unfoldable pub only : Bool → Node → Node
only test node = if test then node else node_of.Nothing

-- a key, and then a value
abbrev pub entry_node : ℕ → TypeId → Node
entry_node index id = if index == 0 then node_of.Key id else node_of.Val id

unfoldable pub part_at : Parts → ℕ → TypeId → Node
part_at parts_of.Nothing index id = node_of.Nothing
part_at (parts_of.Returned function) index id = node_of.Returned function index
part_at (parts_of.Outcome group) index id = node_of.Outcome group index
part_at (parts_of.First node) index id = only (index == 0) node
part_at parts_of.Lookup index id = only (index == 0) (node_of.Val id)
part_at parts_of.Received index id = only (index == 0) (node_of.Chan id)
part_at parts_of.Entry index id = entry_node index id
part_at parts_of.Item index id = only (index == 1) (node_of.Elem id)

-- the node of a part of a type
abbrev pub part_node : Table → Parts → ℕ → TypeId → Node
part_node types parts index id = carrying types id (part_at parts index id)

-- what a range gives in each turn
abbrev pub range_parts : RangeOver → Parts
range_parts over_of.Array = parts_of.Item
range_parts over_of.ArrayPointer = parts_of.Item
range_parts over_of.Slice = parts_of.Item
range_parts over_of.Text = parts_of.Nothing
range_parts over_of.Map = parts_of.Entry
range_parts over_of.Channel = parts_of.Received
range_parts (over_of.Constant turns) = parts_of.Nothing
range_parts over_of.Integer = parts_of.Nothing

-- what f gives of each item and its place, from a place on
abbrev pub each_from : {A : Type 0} → (ℕ → A → List Mention) → ℕ → List A → List Mention
each_from f i [] = []
each_from f i (x ∷ xs) = f i x ++ each_from f (suc i) xs

-- what f gives of two lists side by side
abbrev pub each_pair : {A B : Type 0} → (A → B → List Mention) → List A → List B → List Mention
each_pair f [] ys = []
each_pair f (x ∷ xs) [] = []
each_pair f (x ∷ xs) (y ∷ ys) = f x y ++ each_pair f xs ys
