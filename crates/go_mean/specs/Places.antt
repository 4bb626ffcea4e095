-- Variables, and places that are read and assigned to. Go specification, "Variables", "Address operators" and
-- "Assignment statements".
use Rattle.std.specs.Prelude.{ℕ, suc, ◌+◌, ◌==◌, Bool, List, [], ◌∷◌, ◌++◌, Option, Some}
use Rattle.std.specs.Prelude.{None, length, slice_get, take, is_none, if◌then◌else◌, option_map}
use Rattle.std.specs.List.{filter}
use Rattle.std.specs.Option.{option_and_then, option_map_or}
use Rattle.go_base.specs.declared.ids.FuncId.{FuncId}
use Rattle.go_base.specs.declared.ids.TypeId.{TypeId}
use Rattle.go_base.specs.declared.ids.VarId.{VarId}
use Rattle.go_store.specs.Slices.{element_of}
use Rattle.go_store.specs.Stores.{Stored, made}
use Rattle.go_tree.specs.declared.exprs.Callee.TheFolds.{fold-TypedExpr}
use Rattle.go_tree.specs.declared.exprs.Callee.TheOpen as layers
use Rattle.go_tree.specs.declared.exprs.IndexBase.{IndexBase}
use Rattle.go_tree.specs.declared.exprs.IndexBase.TheVariants as index_base
use Rattle.go_tree.specs.declared.exprs.TypedExpr.{TypedExpr}
use Rattle.go_tree.specs.declared.program.Program.{Program}
use Rattle.go_tree.specs.declared.variables.Variable.{Variable}
use Rattle.go_type.specs.Table.{Table}
use Rattle.go_value.specs.Address.{part_of}
use Rattle.go_value.specs.Texts.{place_at}
use Rattle.go_value.specs.Values.{Val, number, pointer, slice, map_number}
use Rattle.go_value.specs.declared.address.Pointer.{Pointer}
use Rattle.ssa_mean.specs.Answers.{Answers}
use Rattle.ssa_mean.specs.Comes.{Comes, to, nowhere, and_then, then_to, where_some, of_option, of_result}
use Rattle.ssa_mean.specs.MapCalls.{looked_up, updated}
use Rattle.ssa_mean.specs.Operands.{under_in, length_in, element_in}
use Rattle.ssa_mean.specs.Places.{followed, load, assigned, new_pointer}
use Rattle.ssa_mean.specs.Zeros.{zero_in}
use Rattle.tree_facts.specs.Cells.{needs_cell}
use Rattle.go_mean.specs.State.{Setting, Root, of_variable, of_pointer, of_element, of_entry, of_nothing, Reach}
use Rattle.go_mean.specs.State.{to_field, to_item, Shape, Into, at_place, at_new, at_blank, Held, in_cell, as_value}
use Rattle.go_mean.specs.State.{Binding, Frame}

-- ---- types

abbrev pub zero_of : Program → TypeId → Option Val
zero_of p of = zero_in p.types p.names of

abbrev pub array_length : Table → TypeId → Option ℕ
array_length types of = length_in (under_in types (Some of))

-- the length of an array, or of one that is pointed to
abbrev pub element_type : Table → TypeId → Option TypeId
element_type types of = element_in (under_in types (Some of))

-- ---- variables

abbrev pub variable_at : Program → VarId → Option Variable
variable_at p v = slice_get p.variables v.number

abbrev pub is_of_package : Variable → Bool
is_of_package variable = is_none variable.function

-- the variables of packages are the first cells, in their order
abbrev pub package_cell : Program → VarId → Pointer
package_cell p v =
    record { cell = Some (record { number = length (filter is_of_package (take v.number p.variables)) }); path = [] }

-- what was begun last under the number of a variable
abbrev pub held_by : List Binding → VarId → Option Held
held_by [] v = None
held_by (binding ∷ bindings) v =
    if binding.variable.number == v.number then Some binding.held else held_by bindings v

abbrev pub held_in : Program → Frame → VarId → Option Variable → Option Held
held_in p frame v None = None
held_in p frame v (Some variable) =
    if is_of_package variable then Some (in_cell (package_cell p v)) else held_by frame.env v

-- where a variable is
abbrev pub held_of : Program → Frame → VarId → Option Held
held_of p frame v = held_in p frame v (variable_at p v)

abbrev pub value_in : Stored → Held → Comes Val
value_in store (in_cell at) = load store (pointer at)
value_in store (as_value it) = to it

-- the value of a variable
abbrev pub value_of : Program → Stored → Frame → VarId → Comes Val
value_of p store frame v = where_some (value_in store) (held_of p frame v)

abbrev pub cell_in : Held → Option Pointer
cell_in (in_cell at) = Some at
cell_in (as_value it) = None

-- the cell of a variable
abbrev pub cell_of : Program → Frame → VarId → Option Pointer
cell_of p frame v = option_and_then cell_in (held_of p frame v)

-- ---- what changes the store and the environment

pub record Changed : Type 0 where
  pub store : Stored
  pub env : List Binding

abbrev pub bound : VarId → Held → List Binding → List Binding
bound v held env = record { variable = v; held = held } ∷ env

-- a variable begins with a value: in a new cell where it needs one
abbrev pub begun : Program → FuncId → VarId → Val → Stored → List Binding → Changed
begun p function v it store env =
    if needs_cell p function v
    then record { store = made store it; env = bound v (in_cell (new_pointer store)) env }
    else record { store = store; env = bound v (as_value it) env }

abbrev pub zero_of_variable : Program → VarId → Option Val
zero_of_variable p v = option_and_then (λ variable. zero_of p variable.of) (variable_at p v)

-- it begins with the zero value of its type
abbrev pub begun_zero : Program → FuncId → Stored → List Binding → VarId → Option Changed
begun_zero p function store env v = option_map (λ it. begun p function v it store env) (zero_of_variable p v)

abbrev pub begun_zeros : Program → FuncId → Stored → List Binding → List VarId → Option Changed
begun_zeros p function store env [] = Some (record { store = store; env = env })
begun_zeros p function store env (v ∷ vs) =
    option_and_then (λ after. begun_zeros p function after.store after.env vs) (begun_zero p function store env v)

abbrev pub set_held : Stored → List Binding → VarId → Val → Held → Comes Changed
set_held store env v it (in_cell at) =
    then_to (λ store. record { store = store; env = env }) (assigned store (pointer at) it)
set_held store env v it (as_value old) = to (record { store = store; env = bound v (as_value it) env })

-- a variable is set to a value
abbrev pub set_variable : Program → Stored → Frame → VarId → Val → Comes Changed
set_variable p store frame v it = where_some (set_held store frame.env v it) (held_of p frame v)

-- ---- the shape of a place: what it is made of, seen from the root

abbrev pub no_shape : TypeId → Shape
no_shape of = record { root = of_nothing; reach = []; of = of }

abbrev pub rooted_at : Root → TypeId → Shape
rooted_at root of = record { root = root; reach = []; of = of }

abbrev pub reached : Shape → Reach → TypeId → Shape
reached whole step of = record { root = whole.root; reach = whole.reach ++ step ∷ []; of = of }

abbrev pub item_shape : Table → Option ℕ → Shape → TypeId → Shape
item_shape types None whole of = no_shape of
item_shape types (Some len) whole of = reached whole (to_item len) of

abbrev pub index_shape : Table → IndexBase → Shape → TypeId → Shape
index_shape types index_base.Array whole of = item_shape types (array_length types whole.of) whole of
index_shape types index_base.Slice whole of = rooted_at of_element of
index_shape types index_base.Text whole of = no_shape of

abbrev pub Nothing : Type 0
Nothing = Unit {0}

module _ (types : Table) where
  abbrev pub shape_layer :
      layers.ExprKind-F Nothing Nothing (TypeId → Shape) Nothing Nothing Nothing Nothing Shape → TypeId → Shape
  shape_layer (layers.ExprKind-F.VarOf v) of = rooted_at (of_variable v) of
  shape_layer (layers.ExprKind-F.Deref operand) of = rooted_at of_pointer of
  shape_layer (layers.ExprKind-F.MapIndex table key comma_ok) of = rooted_at of_entry of
  shape_layer (layers.ExprKind-F.FieldOf operand field) of = reached operand.value (to_field field) of
  shape_layer (layers.ExprKind-F.IndexOf base operand index) of = index_shape types base operand.value of
  shape_layer _ of = no_shape of

  unfoldable pub shape : TypedExpr → Shape
  shape =
      fold-TypedExpr Nothing Nothing (TypeId → Shape) Nothing Nothing Nothing Nothing Shape (λ x. tt) (λ x. tt)
      shape_layer (λ x. tt) (λ x. tt) (λ x. tt) (λ x. tt) (λ x. x.kind x.of)

-- ---- how many operands a place has

abbrev pub operands_of_root : Root → ℕ
operands_of_root (of_variable v) = 0
operands_of_root of_pointer = 1
operands_of_root of_element = 2
operands_of_root of_entry = 2
operands_of_root of_nothing = 0

abbrev pub operands_of_reach : List Reach → ℕ
operands_of_reach [] = 0
operands_of_reach (to_field n ∷ steps) = operands_of_reach steps
operands_of_reach (to_item len ∷ steps) = suc (operands_of_reach steps)

abbrev pub operand_count : Shape → ℕ
operand_count it = operands_of_root it.root + operands_of_reach it.reach

abbrev pub count_into : Into → ℕ
count_into (at_place it) = operand_count it
count_into (at_new v) = 0
count_into at_blank = 0

-- ---- "The assignment proceeds in two phases": the second, where the operands are known. It checks the root, then the
-- indices of arrays, and then it stores

-- where a root is, and the operands behind it
pub record Rooted : Type 0 where
  pub at : Pointer
  pub operands : List Val

abbrev pub rooted : Pointer → List Val → Rooted
rooted at operands = record { at = at; operands = operands }

-- the address of a part, by the indices among the operands
abbrev pub address_at : Pointer → List Reach → List Val → Comes Pointer
address_at at [] operands = to at
address_at at (to_field n ∷ steps) operands = address_at (part_of at n) steps operands
address_at at (to_item len ∷ steps) (number index ∷ operands) =
    and_then (λ place. address_at (part_of at place) steps operands) (of_result (place_at index len))
address_at at (to_item len ∷ steps) _ = nowhere

abbrev pub element_root : Val → Val → List Val → Comes Rooted
element_root (slice it) (number index) operands = then_to (λ at. rooted at operands) (of_result (element_of it index))
element_root _ _ operands = nowhere

-- the root of a place that lies in the store
abbrev pub root_of : Program → Frame → Root → List Val → Comes Rooted
root_of p frame (of_variable v) operands = then_to (λ at. rooted at operands) (of_option (cell_of p frame v))
root_of p frame of_pointer (pointer at ∷ operands) = followed at (to (rooted at operands))
root_of p frame of_element (it ∷ index ∷ operands) = element_root it index operands
root_of p frame _ operands = nowhere

-- the address of a place that lies in the store
abbrev pub place_address : Program → Frame → Shape → List Val → Comes Val
place_address p frame it operands =
    then_to pointer
    (and_then (λ root. address_at root.at it.reach root.operands) (root_of p frame it.root operands))

abbrev pub stored_at : Stored → List Binding → Val → Val → Comes Changed
stored_at store env at it = then_to (λ store. record { store = store; env = env }) (assigned store at it)

abbrev pub put_entry : Answers → Stored → List Binding → List Val → Val → Comes Changed
put_entry answers store env (map_number id ∷ key ∷ []) it =
    then_to (λ store. record { store = store; env = env }) (updated answers.comparable store id key it)
put_entry answers store env _ it = nowhere

-- a place gets a value. A variable as a whole may be one without a cell
abbrev pub put_place : Setting → Stored → Frame → Root → List Reach → Shape → List Val → Val → Comes Changed
put_place s store frame (of_variable v) [] whole operands it = set_variable s.program store frame v it
put_place s store frame of_entry reach whole operands it =
    put_entry s.answers store frame.env operands it
put_place s store frame root reach whole operands it =
    and_then (λ at. stored_at store frame.env at it) (place_address s.program frame whole operands)

abbrev pub entry_value : Setting → Stored → TypeId → List Val → Comes Val
entry_value s store of (map_number id ∷ key ∷ []) =
    and_then (λ found. of_option (option_map_or Some found (zero_of s.program of)))
    (looked_up s.answers.comparable store id key)
entry_value s store of _ = nowhere

-- the value that a place has
abbrev pub get_place : Setting → Stored → Frame → Root → List Reach → Shape → List Val → Comes Val
get_place s store frame (of_variable v) [] whole operands = value_of s.program store frame v
get_place s store frame of_entry reach whole operands = entry_value s store whole.of operands
get_place s store frame root reach whole operands =
    and_then (load store) (place_address s.program frame whole operands)

-- what is assigned to or declared gets a value
abbrev pub put_into : Setting → Stored → Frame → Into → List Val → Val → Comes Changed
put_into s store frame (at_place it) operands new = put_place s store frame it.root it.reach it operands new
put_into s store frame (at_new v) operands new = to (begun s.program frame.function v new store frame.env)
put_into s store frame at_blank operands new = to (record { store = store; env = frame.env })
