-- What stands in an expression: values that are made, flows and calls. A line for each form.
use Rattle.std.specs.Prelude.{ℕ, suc, List, [], ◌∷◌, ◌++◌, Option, Some, None, flat_map, map, if◌then◌else◌}
use Rattle.std.specs.Global.{Box}
use Rattle.go_base.specs.declared.ids.FuncId.{FuncId}
use Rattle.go_base.specs.declared.ids.NameId.{NameId}
use Rattle.go_base.specs.declared.ids.TypeId.{TypeId}
use Rattle.go_base.specs.declared.place.Pos.{Pos}
use Rattle.go_tree.specs.declared.exprs.Callee.{Callee}
use Rattle.go_tree.specs.declared.exprs.Elements.{Elements}
use Rattle.go_tree.specs.declared.exprs.Values.{Values}
use Rattle.go_tree.specs.declared.exprs.EntryInit.{EntryInit}
use Rattle.go_tree.specs.declared.exprs.ExprKind.{ExprKind}
use Rattle.go_tree.specs.declared.exprs.FieldInit.{FieldInit}
use Rattle.go_tree.specs.declared.exprs.ItemInit.{ItemInit}
use Rattle.go_tree.specs.declared.exprs.TypedExpr.{TypedExpr}
use Rattle.go_tree.specs.declared.exprs.Method.{Method}
use Rattle.go_tree.specs.declared.exprs.Method.TheVariants as method_of
use Rattle.go_tree.specs.declared.exprs.Callee.TheOpen as layers
use Rattle.go_tree.specs.declared.exprs.Callee.TheViews.{out-Values}
use Rattle.go_tree.specs.declared.exprs.Callee.TheFolds.{fold-Callee, fold-Elements, fold-ExprKind, fold-Values}
use Rattle.go_tree.specs.declared.exprs.Callee.TheFolds.{fold-EntryInit, fold-FieldInit, fold-ItemInit, fold-TypedExpr}
use Rattle.go_type.specs.Table.{Table}
use Rattle.go_type.specs.declared.operators.Builtin.{Builtin}
use Rattle.go_type.specs.declared.operators.Builtin.TheVariants as built_in
use Rattle.cg_nodes.specs.declared.nodes.Called.TheVariants as called
use Rattle.cg_nodes.specs.declared.nodes.Group.{Group}
use Rattle.cg_nodes.specs.declared.nodes.Group.TheVariants as group_of
use Rattle.cg_nodes.specs.declared.nodes.Mention.{Mention}
use Rattle.cg_nodes.specs.declared.nodes.Mention.TheVariants as mention
use Rattle.cg_nodes.specs.declared.nodes.Node.{Node}
use Rattle.cg_nodes.specs.declared.nodes.Node.TheVariants as node_of
use Rattle.cg_nodes.specs.declared.nodes.Parts.{Parts}
use Rattle.cg_nodes.specs.declared.nodes.Parts.TheVariants as parts_of
use Rattle.cg_nodes.specs.declared.nodes.Selector.{Selector}
use Rattle.cg_nodes.specs.declared.nodes.Value.{Value}
use Rattle.cg_nodes.specs.declared.nodes.Value.TheVariants as value_of
use Rattle.cg_nodes.specs.Kinds.{is_interface, is_function}
use Rattle.cg_nodes.specs.Places.{spot_at, is_nothing, flow, carrying, part_node, each_from}

-- an expression: its type, its node, what its parts are where it gives several values, and what stands in it
pub record Seen : Type 0 where
  pub of : TypeId
  pub node : Parts → Node
  pub parts : Parts → Parts
  pub uses : Parts → List Mention

-- what is called: what stands in it, the call and its receiver, what it gives, and where arguments go
pub record SeenCallee : Type 0 where
  pub uses : Parts → List Mention
  pub call : Parts → Pos → Node → List Mention
  pub results : Parts
  pub into : ℕ → Node

-- the values of a list
pub record SeenValues : Type 0 where
  pub uses : Parts → List Mention
  pub parts : Parts → Parts
  pub exprs : List Seen

pub record SeenField : Type 0 where
  pub field : ℕ
  pub value : Seen

pub record SeenEntry : Type 0 where
  pub key : Seen
  pub value : Seen

abbrev pub selector : TypeId → NameId → ℕ → Selector
selector id name package_number = record { of = id; name = name; «package» = package_number }

-- what a call of an interface's method chooses from
abbrev pub selected : TypeId → NameId → ℕ → Group
selected id name package_number = group_of.Selected (selector id name package_number)

-- the value of a method expression of a type
abbrev pub method_expression : TypeId → TypeId → NameId → ℕ → Value
method_expression id receiver name package_number = value_of.Unbound (selector receiver name package_number) id

abbrev pub uses_of : Parts → List Seen → List Mention
uses_of p xs = flat_map (λ (x : Seen). x.uses p) xs

abbrev pub uses_if : Parts → Option (Box Seen) → List Mention
uses_if p None = []
uses_if p (Some x) = x.value.uses p

abbrev pub first_node : Parts → List Seen → Node
first_node p [] = node_of.Nothing
first_node p (x ∷ xs) = x.node p

abbrev pub passes : Parts → (ℕ → Node) → ℕ → Seen → List Mention
passes p into i x = flow (x.node p) (into i)

-- arguments go where the callee takes them
abbrev pub passed : Parts → (ℕ → Node) → List Seen → List Mention
passed p into xs = each_from (passes p into) 0 xs

unfoldable pub stored_elem : Parts → Seen → List Mention
stored_elem p x = flow (x.node p) (node_of.Elem x.of)

unfoldable pub stored_key : Parts → Seen → List Mention
stored_key p x = flow (x.node p) (node_of.Key x.of)

unfoldable pub stored_val : Parts → Seen → List Mention
stored_val p x = flow (x.node p) (node_of.Val x.of)

unfoldable pub method_value : Pos → TypeId → TypeId → Method → Value
method_value at id receiver (method_of.Concrete function) = value_of.Bound function
method_value at id receiver (method_of.Interface name package_number) =
    value_of.BoundSelector (spot_at at) (selector receiver name package_number) id

-- the receiver of a method value
unfoldable pub bound : Parts → Pos → Seen → Method → List Mention
bound p at x (method_of.Concrete function) = flow (x.node p) (node_of.Parameter function 0)
bound p at x (method_of.Interface name package_number) = flow (x.node p) (node_of.Operand (spot_at at))

unfoldable pub built_in_node : Builtin → Node
built_in_node built_in.Recover = node_of.Recover
built_in_node _ = node_of.Nothing

unfoldable pub panics : Parts → List Seen → List Mention
panics p [] = []
panics p (x ∷ xs) = flow (x.node p) node_of.Recover

unfoldable pub appends : Parts → List Seen → List Mention
appends p [] = []
appends p (x ∷ xs) = flat_map (stored_elem p) xs

unfoldable pub built_in_uses : Parts → Builtin → List Seen → List Mention
built_in_uses p built_in.Panic xs = panics p xs
built_in_uses p built_in.Append xs = appends p xs
built_in_uses p _ xs = []

-- a node that is read and stored to through pointers
unfoldable pub addressed : TypeId → Node → List Mention
addressed id node = if is_nothing node then [] else flow node (node_of.Ptr id) ++ flow (node_of.Ptr id) node

-- an expression that gives one value
abbrev pub single : TypeId → (Parts → Node) → (Parts → List Mention) → Seen
single id node uses = record { of = id; node = node; parts = λ p. parts_of.Nothing; uses = uses }

-- one that no value flows from
abbrev pub plain : TypeId → (Parts → List Mention) → Seen
plain id uses = single id (λ p. node_of.Nothing) uses

-- fields, elements and entries of a composite literal
abbrev pub stored_field : TypeId → Parts → ℕ → Seen → List Mention
stored_field id p field x = flow (x.node p) (node_of.Field id field)

unfoldable pub set_field : TypeId → Parts → SeenField → List Mention
set_field id p x = x.value.uses p ++ stored_field id p x.field x.value

unfoldable pub set_item : Parts → Seen → List Mention
set_item p x = x.uses p ++ stored_elem p x

unfoldable pub set_entry : Parts → SeenEntry → List Mention
set_entry p x = x.key.uses p ++ (x.value.uses p ++ (stored_key p x.key ++ stored_val p x.value))

abbrev pub calls_fixed : Pos → FuncId → List Mention
calls_fixed at function = mention.Call at (called.Fixed function) ∷ []

abbrev pub calls_chosen : Pos → Node → Node → Group → List Mention
calls_chosen at node first group = mention.Call at (called.Chosen node first group) ∷ []

-- a call, and where its arguments go
unfoldable pub called_with : Parts → Pos → SeenCallee → SeenValues → List Mention
called_with p at callee arguments =
    callee.call p at (first_node (arguments.parts p) arguments.exprs)
    ++ passed (arguments.parts p) callee.into arguments.exprs

abbrev pub layer_exprs : layers.Values-F Callee Elements ExprKind Values EntryInit FieldInit ItemInit TypedExpr
    → List TypedExpr
layer_exprs (layers.Values-F.Each exprs) = exprs.items
layer_exprs (layers.Values-F.Spread tuple parts) = parts.items

-- the expressions of the values of a list
unfoldable pub value_exprs : Values → List TypedExpr
value_exprs values = layer_exprs (out-Values values)

module _ (types : Table) where
  abbrev pub callee_layer :
      layers.Callee-F SeenCallee (TypeId → Parts → List Mention) (Pos → TypeId
      → Seen) SeenValues SeenEntry SeenField Seen Seen → SeenCallee
  callee_layer (layers.Callee-F.Function function) =
      record {
        uses = λ p. [];
        call = λ p at first. calls_fixed at function;
        results = parts_of.Returned function;
        into = λ i. node_of.Parameter function i;
      }
  callee_layer (layers.Callee-F.Literal function) =
      record {
        uses = λ p. [];
        call = λ p at first. calls_fixed at function;
        results = parts_of.Returned function;
        into = λ i. node_of.Parameter function i;
      }
  callee_layer (layers.Callee-F.Method receiver function) =
      record {
        uses = receiver.value.uses;
        call = λ p at first. calls_fixed at function ++ flow (receiver.value.node p) (node_of.Parameter function 0);
        results = parts_of.Returned function;
        into = λ i. node_of.Parameter function (suc i);
      }
  callee_layer (layers.Callee-F.Interface receiver name package_number) =
      let group = selected receiver.value.of name package_number in
      record {
        uses = receiver.value.uses;
        call = λ p at first. calls_chosen at (receiver.value.node p) node_of.Nothing group;
        results =
            parts_of.Outcome group;
        into = λ i. node_of.Argument group i;
      }
  callee_layer (layers.Callee-F.Value value) =
      let group = group_of.Signed value.value.of in
      record {
        uses = value.value.uses;
        call = λ p at first. calls_chosen at (value.value.node p) first group;
        results = parts_of.Outcome group;
        into = λ i. node_of.Argument group i;
      }

  abbrev pub values_layer :
      layers.Values-F SeenCallee (TypeId → Parts → List Mention) (Pos → TypeId
      → Seen) SeenValues SeenEntry SeenField Seen Seen → SeenValues
  values_layer (layers.Values-F.Each exprs) =
      record { uses = λ p. uses_of p exprs.items; parts = λ p. p; exprs = exprs.items }
  values_layer (layers.Values-F.Spread tuple parts) =
      record {
        uses = λ p. tuple.value.uses p ++ uses_of (tuple.value.parts p) parts.items;
        parts = tuple.value.parts;
        exprs = parts.items;
      }

  abbrev pub elements_layer :
      layers.Elements-F SeenCallee (TypeId → Parts → List Mention) (Pos → TypeId
      → Seen) SeenValues SeenEntry SeenField Seen Seen → TypeId → Parts → List Mention
  elements_layer (layers.Elements-F.Fields fields) id p = flat_map (set_field id p) fields.items
  elements_layer (layers.Elements-F.Items items len) id p = flat_map (set_item p) items.items
  elements_layer (layers.Elements-F.Entries entries) id p = flat_map (set_entry p) entries.items

  -- what a call gives, as one value or as several
  abbrev pub call_seen : Pos → TypeId → SeenCallee → SeenValues → Seen
  call_seen at id callee arguments = record {
    of = id;
    node = λ p. part_node types callee.results 0 id;
    parts = λ p. callee.results;
    uses = λ p. callee.uses p ++ (arguments.uses p ++ called_with p at callee arguments);
  }

  -- a value that is made one of an interface: an interface stays as it is, a class is made, and a function is put into
  -- one
  unfoldable pub boxed_node : Parts → Seen → Node
  boxed_node p x = if is_interface types x.of then x.node p else node_of.Made (value_of.Class x.of)

  unfoldable pub boxed_uses : Parts → Seen → List Mention
  boxed_uses p x =
      if is_interface types x.of then []
      else mention.Seed (value_of.Class x.of)
      ∷ (if is_function types x.of then flow (x.node p) (node_of.Boxed x.of) else [])

  unfoldable pub asserted : TypeId → Node → Node
  asserted to node = if is_function types to then node_of.Boxed to else node

  abbrev pub kind_layer :
      layers.ExprKind-F SeenCallee (TypeId → Parts → List Mention) (Pos → TypeId
      → Seen) SeenValues SeenEntry SeenField Seen Seen → Pos → TypeId → Seen
  kind_layer (layers.ExprKind-F.ConstOf value) at id = plain id (λ p. [])
  kind_layer (layers.ExprKind-F.NilOf) at id = plain id (λ p. [])
  kind_layer (layers.ExprKind-F.VarOf variable) at id = single id (λ p. node_of.Variable variable) (λ p. [])
  kind_layer (layers.ExprKind-F.FunctionOf function) at id =
      single id (λ p. node_of.Made (value_of.Function function)) (λ p. mention.Seed (value_of.Function function) ∷ [])
  kind_layer (layers.ExprKind-F.LiteralOf function) at id =
      single id (λ p. node_of.Made (value_of.Function function)) (λ p. mention.Seed (value_of.Function function) ∷ [])
  kind_layer (layers.ExprKind-F.MethodValue receiver method) at id =
      let value = method_value at id receiver.value.of method in
      single id (λ p. node_of.Made value) (λ p. receiver.value.uses p
      ++ (mention.Seed value ∷ bound p at receiver.value method))
  kind_layer (layers.ExprKind-F.MethodExpr receiver name package_number) at id =
      let value = method_expression id receiver name package_number in
      single id (λ p. node_of.Made value) (λ p. mention.Seed value ∷ [])
  kind_layer (layers.ExprKind-F.FieldOf operand field) at id =
      single id (λ p. node_of.Field operand.value.of field) operand.value.uses
  kind_layer (layers.ExprKind-F.IndexOf base operand index) at id =
      single id (λ p. node_of.Elem id) (λ p. operand.value.uses p ++ index.value.uses p)
  kind_layer (layers.ExprKind-F.MapIndex table key comma_ok) at id =
      record {
        of = id;
        node = λ p. node_of.Val id;
        parts = λ p. parts_of.Lookup;
        uses = λ p. table.value.uses p ++ key.value.uses p;
      }
  kind_layer (layers.ExprKind-F.SliceOf base operand low high max) at id =
      plain id (λ p. operand.value.uses p ++ (uses_if p low ++ (uses_if p high ++ uses_if p max)))
  kind_layer (layers.ExprKind-F.Deref operand) at id = single id (λ p. node_of.Ptr id) operand.value.uses
  kind_layer (layers.ExprKind-F.AddressOf operand) at id =
      plain id (λ p. operand.value.uses p ++ addressed operand.value.of (operand.value.node p))
  kind_layer (layers.ExprKind-F.UnaryOf op operand) at id = plain id operand.value.uses
  kind_layer (layers.ExprKind-F.BinaryOf op left right) at id = plain id (λ p. left.value.uses p ++ right.value.uses p)
  kind_layer (layers.ExprKind-F.CompareOf op left right) at id = plain id (λ p. left.value.uses p ++ right.value.uses p)
  kind_layer (layers.ExprKind-F.AndAlso left right) at id = plain id (λ p. left.value.uses p ++ right.value.uses p)
  kind_layer (layers.ExprKind-F.OrElse left right) at id = plain id (λ p. left.value.uses p ++ right.value.uses p)
  kind_layer (layers.ExprKind-F.Receive channel comma_ok) at id =
      record { of = id; node = λ p. node_of.Chan id; parts = λ p. parts_of.Received; uses = channel.value.uses }
  kind_layer (layers.ExprKind-F.CallOf callee arguments) at id = call_seen at id callee arguments
  kind_layer (layers.ExprKind-F.BuiltinOf builtin form arguments spread) at id =
      single id (λ p. built_in_node builtin) (λ p. uses_of p arguments.items ++ built_in_uses p builtin arguments.items)
  kind_layer (layers.ExprKind-F.ConvertTo operand) at id = single id operand.value.node operand.value.uses
  kind_layer (layers.ExprKind-F.ToInterface operand) at id =
      single id (λ p. boxed_node p operand.value) (λ p. operand.value.uses p ++ boxed_uses p operand.value)
  kind_layer (layers.ExprKind-F.AssertTo operand to comma_ok) at id =
      record {
        of = id;
        node = λ p. asserted id (operand.value.node p);
        parts = λ p. parts_of.First (asserted to (operand.value.node p));
        uses = operand.value.uses;
      }
  kind_layer (layers.ExprKind-F.CompositeOf elements) at id = plain id (elements id)
  kind_layer (layers.ExprKind-F.PartOf part) at id = single id (λ p. part_node types p part id) (λ p. [])

  abbrev pub entry_layer :
      layers.EntryInit-F SeenCallee (TypeId → Parts → List Mention) (Pos → TypeId
      → Seen) SeenValues SeenEntry SeenField Seen Seen → SeenEntry
  entry_layer x = record { key = x.key; value = x.value }

  abbrev pub field_layer :
      layers.FieldInit-F SeenCallee (TypeId → Parts → List Mention) (Pos → TypeId
      → Seen) SeenValues SeenEntry SeenField Seen Seen → SeenField
  field_layer x = record { field = x.field; value = x.value }

  abbrev pub item_layer :
      layers.ItemInit-F SeenCallee (TypeId → Parts → List Mention) (Pos → TypeId
      → Seen) SeenValues SeenEntry SeenField Seen Seen → Seen
  item_layer x = x.value

  -- values of other types flow nowhere
  abbrev pub kept : Seen → Seen
  kept x = record x { node = λ p. carrying types x.of (x.node p) }

  abbrev pub expr_layer :
      layers.TypedExpr-F SeenCallee (TypeId → Parts → List Mention) (Pos → TypeId
      → Seen) SeenValues SeenEntry SeenField Seen Seen → Seen
  expr_layer x = kept (x.kind x.at x.of)

  -- ---- whole trees

  unfoldable pub seen_callee : Callee → SeenCallee
  seen_callee =
      fold-Callee SeenCallee (TypeId → Parts → List Mention) (Pos → TypeId
      → Seen) SeenValues SeenEntry SeenField Seen Seen callee_layer elements_layer kind_layer values_layer entry_layer
      field_layer item_layer expr_layer

  unfoldable pub seen_elements : Elements → TypeId → Parts → List Mention
  seen_elements =
      fold-Elements SeenCallee (TypeId → Parts → List Mention) (Pos → TypeId
      → Seen) SeenValues SeenEntry SeenField Seen Seen callee_layer elements_layer kind_layer values_layer entry_layer
      field_layer item_layer expr_layer

  unfoldable pub seen_kind : ExprKind → Pos → TypeId → Seen
  seen_kind =
      fold-ExprKind SeenCallee (TypeId → Parts → List Mention) (Pos → TypeId
      → Seen) SeenValues SeenEntry SeenField Seen Seen callee_layer elements_layer kind_layer values_layer entry_layer
      field_layer item_layer expr_layer

  unfoldable pub seen_values : Values → SeenValues
  seen_values =
      fold-Values SeenCallee (TypeId → Parts → List Mention) (Pos → TypeId
      → Seen) SeenValues SeenEntry SeenField Seen Seen callee_layer elements_layer kind_layer values_layer entry_layer
      field_layer item_layer expr_layer

  unfoldable pub seen_entry : EntryInit → SeenEntry
  seen_entry =
      fold-EntryInit SeenCallee (TypeId → Parts → List Mention) (Pos → TypeId
      → Seen) SeenValues SeenEntry SeenField Seen Seen callee_layer elements_layer kind_layer values_layer entry_layer
      field_layer item_layer expr_layer

  unfoldable pub seen_field : FieldInit → SeenField
  seen_field =
      fold-FieldInit SeenCallee (TypeId → Parts → List Mention) (Pos → TypeId
      → Seen) SeenValues SeenEntry SeenField Seen Seen callee_layer elements_layer kind_layer values_layer entry_layer
      field_layer item_layer expr_layer

  unfoldable pub seen_item : ItemInit → Seen
  seen_item =
      fold-ItemInit SeenCallee (TypeId → Parts → List Mention) (Pos → TypeId
      → Seen) SeenValues SeenEntry SeenField Seen Seen callee_layer elements_layer kind_layer values_layer entry_layer
      field_layer item_layer expr_layer

  unfoldable pub seen_expr : TypedExpr → Seen
  seen_expr =
      fold-TypedExpr SeenCallee (TypeId → Parts → List Mention) (Pos → TypeId
      → Seen) SeenValues SeenEntry SeenField Seen Seen callee_layer elements_layer kind_layer values_layer entry_layer
      field_layer item_layer expr_layer

  abbrev pub seen_all : List TypedExpr → List Seen
  seen_all xs = map seen_expr xs

  abbrev pub seen_if : Option (Box TypedExpr) → Parts → List Mention
  seen_if None p = []
  seen_if (Some x) p = (seen_expr x.value).uses p
